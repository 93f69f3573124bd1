-- The digits of a text: byte by byte, and of a text that is read: they are those of the values seen. Assumes nothing.
use Prim.Native.Nat.{ℕ, zero, suc, ◌+◌, ◌^◌, ◌<◌, ◌≤◌}
use mathlib.Core.Path.{◌≡◌, refl, ap, ◌∙◌}
use mathlib.Core.Bool.{Bool, true, false, cond}
use mathlib.Core.List.{List, [], ◌∷◌, ◌++◌, map}
use native.Mathlib.Omega.{arith}
use lib.ListN.{length, take, drop, get_or, replicate, length-append, take-append-drop}
use lib.Seq.{take-suc}
use native.Mathlib.Numerals.{add-one}
use Rattle.alphabet.specs.Bits.{Below}
use Rattle.alphabet.specs.Alphabet.{bits, digit, is_digit, pad}
use Rattle.alphabet.proofs.Shapes.{shape}
use Rattle.alphabet.proofs.Symbols.{digit_is, pad_is_no_digit}
use Rattle.reading.specs.Options.{allowed}
use Rattle.reading.specs.Cleaning.{dropped, kept, turned}
use Rattle.reading.proofs.PlainText.{plain, plain_append, plain_drop, plain_keep}
use Rattle.reading.proofs.StepCases.{digit_stands}
use Rattle.tidier.specs.Spelling.{digits_among, spelt}

module _ (a : ℕ) where
  among_append : (x y : List ℕ) → digits_among a (x ++ y) ≡ digits_among a x ++ digits_among a y
  unfolding digits_among
  among_append [] y = refl
  among_append (c ∷ x) y = go (is_digit a c) (among_append x y)
    where
      go : (b : Bool) → digits_among a (x ++ y) ≡ digits_among a x ++ digits_among a y
          → cond b (c ∷ digits_among a (x ++ y)) (digits_among a (x ++ y)) ≡ cond b (c ∷ digits_among a x) (digits_among a x) ++ digits_among a y
      go true e = ap (λ (z : List ℕ). c ∷ z) e
      go false e = e

  among_pads : a < 6 → (p : ℕ) → digits_among a (replicate p pad) ≡ []
  unfolding digits_among
  among_pads h zero = refl
  among_pads h (suc p) = rw (pad_is_no_digit a h) (among_pads h p)

  -- of digits and pads, the digits
  pub among_shape : a < 6 → (ds : List ℕ) (p : ℕ) → Below (2 ^ bits a) ds → digits_among a (shape a ds p) ≡ map (digit a) ds
  unfolding digits_among
  among_shape h [] p l = among_pads h p
  among_shape h (v ∷ ds) p l = rw (digit_is a h l.0) (ap (λ (z : List ℕ). digit a v ∷ z) (among_shape h ds p l.1))

module _ (a opts : ℕ) where
  spelt_append : (x y : List ℕ) → spelt a opts (x ++ y) ≡ spelt a opts x ++ spelt a opts y
  unfolding spelt
  spelt_append x y = ap (digits_among a) (plain_append a opts x y) ∙ among_append a (plain a opts x) (plain a opts y)

  pub spelt_nothing : spelt a opts [] ≡ []
  unfolding spelt digits_among kept
  spelt_nothing = refl

  -- one byte
  pub spelt_dropped : (c : ℕ) → dropped opts c ≡ true → spelt a opts (c ∷ []) ≡ []
  unfolding spelt digits_among
  spelt_dropped c e = ap (digits_among a) (plain_drop a opts c e)

  pub spelt_digit : (c : ℕ) → dropped opts c ≡ false → is_digit a (turned a opts c) ≡ true → spelt a opts (c ∷ []) ≡ turned a opts c ∷ []
  unfolding spelt digits_among
  spelt_digit c e d = ap (digits_among a) (plain_keep a opts c e) ∙ rw d

  pub spelt_none : (c : ℕ) → dropped opts c ≡ false → is_digit a (turned a opts c) ≡ false → spelt a opts (c ∷ []) ≡ []
  unfolding spelt digits_among
  spelt_none c e d = ap (digits_among a) (plain_keep a opts c e) ∙ rw d

  -- a digit as it stands
  pub spelt_stands : (c : ℕ) → allowed a opts ≡ true → is_digit a c ≡ true → spelt a opts (c ∷ []) ≡ c ∷ []
  spelt_stands c ok d =
      let s = digit_stands a opts c ok d in
      spelt_digit c s.0 (ap (is_digit a) s.1 ∙ d) ∙ ap (λ (x : ℕ). x ∷ []) s.1

  -- one byte more
  pub spelt_next : (t : List ℕ) (i : ℕ) → i < length t → spelt a opts (take (i + 1) t) ≡ spelt a opts (take i t) ++ spelt a opts (get_or t i 0 ∷ [])
  spelt_next t i l = ap (spelt a opts) (ap (λ (n : ℕ). take n t) (add-one i) ∙ take-suc t i 0 l) ∙ spelt_append (take i t) (get_or t i 0 ∷ [])

  pub spelt_front : (t : List ℕ) (i : ℕ) → length (spelt a opts (take i t)) ≤ length (spelt a opts t)
  spelt_front t i =
      omega (
        arith,
        ap (λ (u : List ℕ). length (spelt a opts u)) (take-append-drop i t),
        ap length (spelt_append (take i t) (drop i t)),
        length-append (spelt a opts (take i t)) (spelt a opts (drop i t)),
      )
