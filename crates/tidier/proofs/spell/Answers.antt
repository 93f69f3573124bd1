-- `spell`: each turn writes the digit that its byte is, or nothing. Assumes nothing.
use mathlib.Core.Path.{sym, ap, ◌∙◌}
use native.Mathlib.Omega.{arith}
use Rattle.std.specs.Option.{option_to_list}
use Rattle.tidier.proofs.SpellingSteps.{none_spelt, spelling_room, spelling_puts, spelling_skips}
use Rattle.tidier.proofs.spell.Goals as goal
use Rattle.tidier.proofs.spell.Goals.{in-Some, in_default}

pub bounds-out-n : goal.bounds-out-n
bounds-out-n c =
    let e = sym (ap option_to_list c.in-Some.is) ∙ c.own_digit.ensures in
    omega (arith, spelling_room c.loop-byte.invariant c.loop-byte-test.true c.requires e, c.loop-byte.auto.out)

pub loop-byte-preserved : goal.loop-byte-preserved
loop-byte-preserved c =
    elim c.match-own_digit.branch [
      | in-Some w ↦
          let e = sym (ap option_to_list w.in-Some.is) ∙ c.own_digit.ensures in
          rw (w.out-is, w.n-is) (spelling_puts c.loop-byte.invariant c.loop-byte-test.true c.requires e)
      | in_default w ↦
          rw (w.out-is, w.n-is)
          (spelling_skips c.loop-byte.invariant c.loop-byte-test.true (sym (none_spelt _ w.in_default.not-Some) ∙ c.own_digit.ensures))
    ]
