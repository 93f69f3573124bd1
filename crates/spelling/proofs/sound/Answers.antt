-- The test of a writer's numbers meets its definition. Assumes nothing.
use Prim.Native.Nat.{◌*◌, ◌<◌, ◌≤◌}
use mathlib.Core.Path.{sym, ◌∙◌}
use native.Mathlib.Nat.{mod-lt}
use native.Mathlib.Omega.{arith}
use borrow.Author.Tests.{ltb-true, leb-true, leb-false}
use Rattle.alphabet.proofs.AlphabetLaws.{bits_low, bits_high}
use Rattle.spelling.specs.Size.{longest_of}
use Rattle.spelling.proofs.LengthLaws.{source_small}
use Rattle.spelling.proofs.SoundNumbers.{unknown, too_many, source_within, by_bits}
use Rattle.spelling.proofs.sound.Goals.{Then-taken-longest, then-alphabet-lt6, else-alphabet-lt6}
use Rattle.spelling.proofs.sound.Goals as goal

-- past the first two tests
asked : (c : Then-taken-longest) → (c.args.alphabet < 6) × (c.args.taken ≤ longest_of c.args.alphabet)
asked c =
    elim c.if-alphabet-lt6.branch as (λ _. (c.args.alphabet < 6) × (c.args.taken ≤ longest_of c.args.alphabet)) [
      | then-alphabet-lt6 w ↦ (w.if-alphabet-lt6.true, rw w.longest.ensures at (leb-true _ _ (sym w.value-is ∙ c.if-taken-longest.true)))
      | else-alphabet-lt6 w ↦ absurd (omega (arith, w.if-alphabet-lt6.false, ltb-true _ _ (sym w.value-is ∙ c.if-taken-longest.true)))
    ]

pub overflow_mul-result : goal.overflow_mul-result
overflow_mul-result c =
    let s = c.args in
    let k = asked c in
    record { fits = omega (arith, source_small s.alphabet k.0 s.taken (source_within s.alphabet s.taken s.held k.0 k.1)) }

pub nonzero_rem-result : goal.nonzero_rem-result
nonzero_rem-result c =
    let k = asked (goal.at.nonzero_rem-result c).Then-taken-longest in
    rw c.bits.ensures (omega (arith, bits_low c.args.alphabet k.0))

pub overflow_shr-result : goal.overflow_shr-result
overflow_shr-result c =
    let k = asked (goal.at.overflow_shr-result c).Then-taken-longest in
    let high : c.bits.result ≤ 6 = rw c.bits.ensures (bits_high c.args.alphabet k.0) in
    omega (arith, mod-lt (8 * c.args.taken) (nonzero_rem-result c))

pub overflow_cast-result : goal.overflow_cast-result
overflow_cast-result c = record { fits = omega (arith, overflow_shr-result c) }

pub returns-then-taken-longest : goal.returns-then-taken-longest
returns-then-taken-longest c =
    let k = asked (goal.at.returns-then-taken-longest c).Then-taken-longest in
    by_bits _ _ _ k.0 k.1 c.bits.ensures

pub returns-else-taken-longest : goal.returns-else-taken-longest
returns-else-taken-longest c =
    elim c.if-alphabet-lt6.branch [
      | then-alphabet-lt6 w ↦
          c.if-taken-longest.false
          ∙ too_many _ _ _ w.if-alphabet-lt6.true (rw w.longest.ensures at (leb-false _ _ (sym w.value-is ∙ c.if-taken-longest.false)))
      | else-alphabet-lt6 w ↦ c.if-taken-longest.false ∙ unknown _ _ _ w.if-alphabet-lt6.false
    ]
