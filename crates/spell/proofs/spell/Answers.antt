-- The loop over a piece meets the definition of a run. Assumes nothing.
use mathlib.Core.Path.{refl}
use native.Mathlib.Omega.{arith}
use Rattle.spell.proofs.Going.{begins, ends, none_fits, two_lack, took_one, took_two}
use Rattle.spell.proofs.spell.Goals.{then-k+else-out-n, else-k+else-out-n-2}
use Rattle.spell.proofs.spell.Goals as goal

pub loop-i-init : goal.loop-i-init
loop-i-init g c = begins c.args.out.now c.requires (omega arith) refl

pub returns-then-out-n : goal.returns-then-out-n
returns-then-out-n g c =
    rw c.stopped.ensures
    (none_fits c.loop-i.invariant c.loop-i-test.true (omega (arith, c.type_inv.piece c.loop-i.i)) refl c.if-k.true c.if-out-n.true)

pub returns-then-out-n-2 : goal.returns-then-out-n-2
returns-then-out-n-2 g c =
    rw c.stopped-then-out-n-2.ensures
    (two_lack c.loop-i.invariant c.loop-i-test.true (omega (arith, c.type_inv.piece c.loop-i.i)) refl c.if-k.false (omega (arith, c.if-out-n-2.true)))

pub loop-i-preserved : goal.loop-i-preserved
loop-i-preserved g c =
    elim c.if-k.branch [
      | then-k+else-out-n w ↦
          rw (w.out-is, w.few-is, w.n-is)
          (took_one c.loop-i.invariant c.loop-i-test.true (omega (arith, c.type_inv.piece c.loop-i.i)) refl w.if-k.true w.if-out-n.false w.digit_above.ensures)
      | else-k+else-out-n-2 w ↦
          rw (w.out-is, w.few-is, w.n-is)
          (took_two c.loop-i.invariant c.loop-i-test.true (omega (arith, c.type_inv.piece c.loop-i.i)) refl w.if-k.false refl
          w.if-out-n-2.false w.digit_above-else-k.ensures w.digit_above-else-k-2.ensures)
    ]

pub returns : goal.returns
returns g c = rw c.stopped-2.ensures (ends c.loop-i.invariant c.loop-i-test.false)
