-- The limit in source bytes: the longest source, and the length of a written form as the code counts it. Assumes nothing.
use Prim.Native.Nat.{ℕ, ◌+◌, ◌-◌, ◌*◌, ◌/◌, ◌^◌, ◌<◌, ◌≤◌}
use mathlib.Core.Path.{◌≡◌, refl, sym}
use mathlib.Core.Logic.{◌↔◌}
use mathlib.Core.Bool.{Bool, true, false, cond}
use mathlib.Core.List.{[], ◌∷◌}
use native.Mathlib.Nat.{mul-le-mul_right, div-eq_of_lt-le, zero-mul}
use native.Mathlib.Omega.{arith}
use lib.Dec.{ltb}
use borrow.Author.Tests.{lt-ltb, ltb-true, ltb-false}
use Rattle.alphabet.specs.Alphabet.{bits, group}
use Rattle.alphabet.specs.Written.{wanting, written_length}
use Rattle.std.specs.Int.{div_ceil, next_multiple_of}
use Rattle.std.proofs.lemmas.Grind.{div_ceil_times}
use Rattle.std.proofs.lemmas.List.{get_or_past}
use Rattle.alphabet.proofs.AlphabetLaws.{bits_low, bits_high}
use Rattle.alphabet.proofs.Lengths.{longest}
use Rattle.alphabet.proofs.Ends.{length_as}
use Rattle.reading.specs.Limit.{limit}
use Rattle.spelling.specs.Size.{longest_of}
use Rattle.reading.proofs.LimitLaws.{limit_whole, limit_small}

-- above 5 no alphabet has bits, so the product alone is the longest source
bits_none : (a : ℕ) → 6 ≤ a → bits a ≡ 0
unfolding bits
bits_none a h = get_or_past (6 ∷ 6 ∷ 5 ∷ 5 ∷ 4 ∷ 4 ∷ []) a 0 h

pub bits_most : (a : ℕ) → bits a ≤ 6
bits_most a = go (ltb a 6) refl
  where
    go : (t : Bool) → ltb a 6 ≡ t → bits a ≤ 6
    go true e = bits_high a (ltb-true a 6 e)
    go false e = omega (arith, bits_none a (ltb-false a 6 e))

pub longest_law : (a : ℕ) → bits a * limit / 8 ≡ longest_of a
unfolding longest_of
longest_law a = go (ltb a 6) refl
  where
    go : (t : Bool) → ltb a 6 ≡ t → bits a * limit / 8 ≡ cond t (bits a * limit / 8) 0
    go true e = refl
    go false e = rw (bits_none a (ltb-false a 6 e), zero-mul)

module _ (a : ℕ) (h : a < 6) where
  pub longest_known : longest_of a ≡ bits a * limit / 8
  unfolding longest_of
  longest_known = rw (lt-ltb a 6 h)

  within_bits : (n : ℕ) → (written_length a n ≤ limit) ↔ (8 * n ≤ bits a * limit)
  within_bits n = longest a h n limit limit_whole

  -- the longest source
  pub within_most : (n : ℕ) → (written_length a n ≤ limit) ↔ (n ≤ bits a * limit / 8)
  within_most n = (λ l. omega (arith, (within_bits n).0 l), λ l. (within_bits n).1 (omega arith))

  pub beyond_most : (n : ℕ) → bits a * limit / 8 < n → limit < written_length a n
  beyond_most n l = go (ltb limit (written_length a n)) refl
    where
      go : (t : Bool) → ltb limit (written_length a n) ≡ t → limit < written_length a n
      go true e = ltb-true limit (written_length a n) e
      go false e = absurd (omega (arith, (within_most n).0 (ltb-false limit (written_length a n) e)))

  pub shorter_within : (n m : ℕ) → n ≤ m → written_length a m ≤ limit → written_length a n ≤ limit
  shorter_within n m l w = (within_most n).1 (omega (arith, (within_most m).0 w))

  pub none_within : written_length a 0 ≤ limit
  none_within = (within_most 0).1 (omega arith)

  -- the code's numbers are small
  pub source_small : (n : ℕ) → written_length a n ≤ limit → 8 * n < 2 ^ 40
  source_small n l =
      let m : bits a * limit ≤ 6 * limit = mul-le-mul_right limit (bits_high a h) in
      omega (arith, (within_bits n).0 l, limit_small)

  -- the length as the code counts it: the digits, up to the end of a group
  pub length_filled : (n : ℕ) {b g : ℕ} → b ≡ bits a → g ≡ group a → next_multiple_of (div_ceil (8 * n) b) g ≡ written_length a n
  unfolding wanting
  length_filled n {b} {g} eb eg =
      let t = div_ceil_times (8 * n) b (rw eb (omega (arith, bits_low a h))) in
      let d : (8 * n + (b - 1)) / b ≡ div_ceil (8 * n) b = div-eq_of_lt-le b (omega (arith, t)) (omega (arith, t)) in
      rw (← d, eb, eg) (sym (length_as a n))
