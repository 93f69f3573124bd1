-- `Rules::settle`: a run in place, made in parts. Assumes nothing.
use Prim.Native.Nat.{ℕ}
use mathlib.Core.Path.{◌≡◌, sym, ap, ◌∙◌, subst}
use mathlib.Core.Bool.{false}
use native.Mathlib.Omega.{arith}
use Rattle.reading.proofs.LimitLaws.{limit_small}
use Rattle.reading.proofs.OptionLaws.{allowed_alphabet}
use mathlib.Core.List.{List}
use lib.ListN.{length}
use Rattle.engine.specs.Ran.{goes_on, Ready}
use Rattle.engine.proofs.Reaching.{goes_on_law, left_less}
use Rattle.engine.proofs.InParts.{Settled, settled_begins, counted_sums, part_ready, settled_done}
use Rattle.engine.proofs.InParts.{settled_size, settled_ends, settled_part, settled_turn, settled_some}
use Rattle.engine.proofs.rules.Rules.settle.Goals as goal

pub loop-i-init : goal.loop-i-init
loop-i-init c = settled_begins c.nothing-s.ensures c.requires

pub shape_of-buf : goal.shape_of-buf
shape_of-buf c =
    let known = allowed_alphabet _ _ c.args.self.now.allowed in
    let so_far = c.loop-i.invariant in
    let size = settled_size known so_far in
    size

pub fill-r-requires : goal.fill-r-requires
fill-r-requires c =
    let known = allowed_alphabet _ _ c.args.self.now.allowed in
    let so_far = c.loop-i.invariant in
    let going = goes_on_law _ _ _ (sym c.goes_on.ensures ∙ c.loop-i-test.true) in
    let ends = settled_ends known so_far going.0 c.part_end-e.ensures in
    let is_part = settled_part known so_far going.0 c.part_end-e.ensures _ _ c.copy_from_slice.ensures.after in
    subst (λ (p : List ℕ). Ready c.args.self.now.choice.alphabet c.loop-i.s.core (length p)) (sym is_part)
    (part_ready (so_far.count.goes going.0) ends c.requires)

pub then-s-requires : goal.then-s-requires
then-s-requires c =
    let known = allowed_alphabet _ _ c.args.self.now.allowed in
    let so_far = c.loop-i.invariant in
    let going = goes_on_law _ _ _ (sym c.goes_on.ensures ∙ c.loop-i-test.true) in
    let next = settled_turn known so_far going.0 c.part_end-e.ensures _ _ c.copy_from_slice.ensures.after c.fill-r.ensures.value c.fill-r.ensures.out_after in
    let n = counted_sums known next.count in
    record { took_bound = omega (arith, n.0, c.requires.within, limit_small); wrote_bound = omega (arith, n.1, c.requires.within, limit_small) }

pub loop-i-smaller : goal.loop-i-smaller
loop-i-smaller c =
    let known = allowed_alphabet _ _ c.args.self.now.allowed in
    let so_far = c.loop-i.invariant in
    let size = settled_size known so_far in
    let going = goes_on_law _ _ _ (sym c.goes_on.ensures ∙ c.loop-i-test.true) in
    left_less c.loop-i.s c.fill-r.result (length c.args.buf.now) going.0 (omega (arith, size, going.1)) c.then-s.ensures
    (settled_some known so_far going.0 c.part_end-e.ensures _ _ c.copy_from_slice.ensures.after c.fill-r.ensures.value)

pub loop-i-preserved : goal.loop-i-preserved
loop-i-preserved c =
    let known = allowed_alphabet _ _ c.args.self.now.allowed in
    let so_far = c.loop-i.invariant in
    let going = goes_on_law _ _ _ (sym c.goes_on.ensures ∙ c.loop-i-test.true) in
    subst (Settled c.args.self.now.choice.alphabet c.args.self.now.choice.options c.args.buf.now c.args.start _) (sym c.then-s.ensures)
    (settled_turn known so_far going.0 c.part_end-e.ensures _ _ c.copy_from_slice.ensures.after c.fill-r.ensures.value c.fill-r.ensures.out_after)

pub returns : goal.returns
returns c =
    let known = allowed_alphabet _ _ c.args.self.now.allowed in
    let so_far = c.loop-i.invariant in
    let size = settled_size known so_far in
    let left_over : goes_on c.loop-i.s.why c.loop-i.s.took (length c.args.buf.now) ≡ false =
    ap (goes_on c.loop-i.s.why c.loop-i.s.took) (sym size) ∙ sym c.goes_on.ensures ∙ c.loop-i-test.false in
    record { value = (settled_done known so_far left_over).0; buf_after = (settled_done known so_far left_over).1 }
