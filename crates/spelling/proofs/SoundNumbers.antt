-- The test of a writer's numbers, case by case as the code takes it, and what it shows. Assumes nothing.
use Prim.Native.Nat.{ℕ, ◌*◌, ◌/◌, ◌%◌, ◌^◌, ◌<◌, ◌≤◌}
use mathlib.Core.Path.{◌≡◌, refl}
use mathlib.Core.Bool.{Bool, true, false, ◌&&◌}
use native.Mathlib.Nat.{div-lt_iff_lt-mul, one-mul, le-div_iff_mul-le}
use native.Mathlib.Omega.{arith}
use lib.Dec.{eqb, ltb, leb}
use lib.Pow.{pow_pos}
use borrow.Author.Tests.{eqb-true, eqb-false, ltb-true, leb-true, lt-ltb, le-ltb, le-leb, lt-leb}
use Rattle.alphabet.specs.Written.{written_length}
use Rattle.alphabet.specs.Alphabet.{bits}
use Rattle.reading.specs.Limit.{limit}
use Rattle.spelling.specs.Sound.{Sound, sound_numbers}
use Rattle.spelling.specs.Size.{longest_of}
use Rattle.spelling.proofs.LengthLaws.{longest_known, within_most, beyond_most}

pub unknown : (a n held : ℕ) → 5 < a → false ≡ sound_numbers a n held
unfolding sound_numbers
unknown a n held l = rw (le-ltb a 6 (omega arith))

-- past the test of the alphabet
module _ (a n held : ℕ) (h : a < 6) where
  pub too_many : longest_of a < n → false ≡ sound_numbers a n held
  unfolding sound_numbers
  too_many l = rw (lt-ltb a 6 h, lt-leb (written_length a n) limit (beyond_most a h n (rw (longest_known a h) at l)))

  pub source_within : n ≤ longest_of a → written_length a n ≤ limit
  source_within w = (within_most a h n).1 (rw (longest_known a h) at w)

  module _ (w : n ≤ longest_of a) {b : ℕ} (eb : b ≡ bits a) where
    pub too_large : 0 < held / 2 ^ (8 * n % b) → false ≡ sound_numbers a n held
    unfolding sound_numbers
    too_large l =
        let k : 1 * 2 ^ (8 * n % b) ≤ held = (le-div_iff_mul-le (pow_pos (8 * n % b))).0 l in
        rw (lt-ltb a 6 h, le-leb (written_length a n) limit (source_within w), le-ltb held (2 ^ (8 * n % bits a)) (rw (one-mul, eb) at k))

    pub all_right : held / 2 ^ (8 * n % b) ≤ 0 → true ≡ sound_numbers a n held
    unfolding sound_numbers
    all_right l =
        let k : held < 2 ^ (8 * n % bits a) = rw (one-mul, eb) at ((div-lt_iff_lt-mul {x = held} {y = 1} (pow_pos (8 * n % b))).0 (omega arith)) in
        rw (lt-ltb a 6 h, le-leb (written_length a n) limit (source_within w), lt-ltb held (2 ^ (8 * n % bits a)) k)

    -- so the test of the bits is the whole
    pub by_bits : eqb (held / 2 ^ (8 * n % b)) 0 ≡ sound_numbers a n held
    by_bits = go (eqb (held / 2 ^ (8 * n % b)) 0) refl
      where
        go : (t : Bool) → eqb (held / 2 ^ (8 * n % b)) 0 ≡ t → t ≡ sound_numbers a n held
        go true e = all_right (omega (arith, eqb-true _ 0 e))
        go false e = too_large (omega (arith, eqb-false _ 0 e))

-- what numbers that pass the test have
pub and_first : (p q : Bool) → p && q ≡ true → p ≡ true
and_first true q e = refl
and_first false q e = e

pub and_second : (p q : Bool) → p && q ≡ true → q ≡ true
and_second true q e = e
and_second false q e = let z : ◌≡◌ {A = ℕ} 0 1 = cc in absurd (omega arith)

pub passes : (a n held : ℕ) → sound_numbers a n held ≡ true → Sound a n held
unfolding sound_numbers
passes a n held e =
    let p : leb (written_length a n) limit && ltb held (2 ^ (8 * n % bits a)) ≡ true = and_second (ltb a 6) _ e in
    record {
      known = ltb-true a 6 (and_first (ltb a 6) _ e);
      within = leb-true (written_length a n) limit (and_first (leb (written_length a n) limit) _ p);
      small = ltb-true held (2 ^ (8 * n % bits a)) (and_second (leb (written_length a n) limit) _ p);
    }
