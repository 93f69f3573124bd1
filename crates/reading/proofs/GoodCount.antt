-- How many good bytes a text can have: as many as its bytes before the position would give, were they all digits; so fewer than it has bytes.
-- Assumes nothing.
use Prim.Native.Nat.{ℕ, suc, ◌*◌, ◌/◌, ◌<◌, ◌≤◌}
use mathlib.Core.Bool.{Bool, true, false, cond}
use mathlib.Core.List.{List, [], ◌∷◌, map}
use native.Mathlib.Nat.{mul-le-mul_left, mul-le-mul_right}
use native.Mathlib.Omega.{arith}
use lib.ListN.{length, take, length-map, length-take}
use Rattle.alphabet.specs.Alphabet.{bits, is_digit}
use Rattle.alphabet.proofs.AlphabetLaws.{bits_high}
use Rattle.reading.specs.Cleaning.{kept, turned}
use Rattle.reading.specs.Reader.{judged}
use Rattle.reading.specs.Promises.{Promised, count_of, digits_in}
use Rattle.reading.proofs.Tidied.{kept_shorter}
use Rattle.reading.proofs.Meaning.{promised}

count_most : (f : ℕ → Bool) (t : List ℕ) → count_of f t ≤ length t
unfolding count_of
count_most f [] = omega arith
count_most f (c ∷ t) = go (f c) (count_most f t)
  where
    go : (x : Bool) → count_of f t ≤ length t → cond x (suc (count_of f t)) (count_of f t) ≤ suc (length t)
    go true l = omega arith
    go false l = omega arith

pub digits_most : (a opts : ℕ) (t : List ℕ) → digits_in a opts t ≤ length t
unfolding digits_in
digits_most a opts t =
    omega (arith, count_most (is_digit a) (map (turned a opts) (kept opts t)), length-map (kept opts t) (turned a opts), kept_shorter opts t)

module _ (a : ℕ) (h : a < 6) (opts : ℕ) (t : List ℕ) where
  -- the most that m bytes of text give, where the position is not past them
  pub good_most : (m : ℕ) → (judged a opts t).position ≤ m → length (judged a opts t).good ≤ bits a * m / 8
  good_most m l =
      let p : Promised a opts t (judged a opts t) = promised a h opts t in
      let n : ℕ = (judged a opts t).position in
      let d : digits_in a opts (take n t) ≤ m = omega (arith, digits_most a opts (take n t), length-take n t) in
      omega (arith, p.count, mul-le-mul_left (bits a) d)

  -- fewer than the text has bytes
  pub good_within : length (judged a opts t).good ≤ length t
  good_within =
      let p : Promised a opts t (judged a opts t) = promised a h opts t in
      omega (arith, good_most (length t) p.in_text, mul-le-mul_right (length t) (bits_high a h))
