-- What a finish adds: how long it is, and how it is laid into a buffer, the digit first and the pads after it. Assumes nothing.
use Prim.Native.Nat.{ℕ, suc, ◌+◌, ◌-◌, ◌*◌, ◌/◌, ◌%◌, ◌^◌, ◌<◌}
use mathlib.Core.Path.{◌≡◌, refl, sym, ap, ◌∙◌, subst}
use mathlib.Core.Bool.{Bool, true, false}
use mathlib.Core.List.{List, [], ◌∷◌, append_assoc}
use native.Mathlib.Nat.{zero-add, add-zero, mod-lt}
use native.Mathlib.Numerals.{add-one}
use native.Mathlib.Omega.{arith}
use lib.Arith.{digits_lt}
use lib.Pow.{pow-add, pow_pos}
use lib.Dec.{eqb}
use lib.ListN.{length, set, replicate, length-append, length-replicate}
use lib.Seq.{paste, take-length, take-suc-set, drop-set-lt}
use borrow.Author.Tests.{eq-eqb, ne_eqb}
use Rattle.alphabet.specs.Alphabet.{bits, group, digit, pad}
use Rattle.alphabet.specs.Written.{wanting, written, written_length}
use Rattle.alphabet.proofs.AlphabetLaws.{bits_low}
use Rattle.alphabet.proofs.Lengths.{written_length_law}
use Rattle.spelling.specs.Front.{front, held_of, ending, rest}
use Rattle.reading.specs.Buffer.{filled}
use Rattle.spelling.specs.Sound.{Sound}
use Rattle.spelling.proofs.FrontLaws.{front_length, front_rest}

module _ (a n held : ℕ) where
  pub ending_none : 8 * n % bits a ≡ 0 → ending a n held ≡ []
  unfolding ending
  ending_none e = rw (eq-eqb (8 * n % bits a) 0 e)

  pub ending_some : (8 * n % bits a ≡ 0 → ⊥)
      → ending a n held ≡ digit a (held * 2 ^ (bits a - 8 * n % bits a)) ∷ replicate (wanting (group a) (8 * n / bits a + 1)) pad
  unfolding ending
  ending_some e = rw (ne_eqb (8 * n % bits a) 0 e)

-- the same for all bits held
same_ending : (a n x y : ℕ) → length (ending a n x) ≡ length (ending a n y)
unfolding ending
same_ending a n x y = go (eqb (8 * n % bits a) 0) refl
  where
    go : (t : Bool) → eqb (8 * n % bits a) 0 ≡ t → length (ending a n x) ≡ length (ending a n y)
    go true e = rw e
    go false e = rw e

-- the front's digits and the ending are as long as the written form
pub ending_length : (a n held : ℕ) → a < 6 → 8 * n / bits a + length (ending a n held) ≡ written_length a n
unfolding rest
ending_length a n held h =
    let src : List ℕ = replicate n 0 in
    let l : length src ≡ n = length-replicate n 0 in
    let w : length (written a src) ≡ written_length a n = written_length_law a src ∙ ap (written_length a) l in
    let r : length (rest a src) ≡ length (ending a n held) =
    ap (λ (k : ℕ). length (ending a k (held_of (bits a) src))) l ∙ same_ending a n (held_of (bits a) src) held in
    let f : length (front a src) ≡ 8 * n / bits a = front_length a h src ∙ ap (λ (k : ℕ). 8 * k / bits a) l in
    omega (arith, length-append (front a src) (rest a src), ap length (front_rest a h src))

pub needed : (a n held : ℕ) {b w : ℕ} → a < 6 → b ≡ bits a → w ≡ written_length a n → w - 8 * n / b ≡ length (ending a n held)
needed a n held h eb ew = rw (eb, ew) (omega (arith, ending_length a n held h))

-- the last digit's value is one of b bits
filled_lt : (a n held : ℕ) → Sound a n held → held * 2 ^ (bits a - 8 * n % bits a) < 2 ^ bits a
filled_lt a n held s =
    let r : ℕ = 8 * n % bits a in
    let l : r < bits a = mod-lt (8 * n) (omega (arith, bits_low a s.known)) in
    let w : r + (bits a - r) ≡ bits a = omega arith in
    subst (λ (k : ℕ). held * 2 ^ (bits a - r) < k) (sym (pow-add 2 r (bits a - r)) ∙ ap (λ (k : ℕ). 2 ^ k) w)
    (subst (λ (k : ℕ). k < 2 ^ r * 2 ^ (bits a - r)) (add-zero (held * 2 ^ (bits a - r))) (digits_lt s.small (pow_pos (bits a - r))))

-- where bits are left: the digit and the pads, with the width b as the code has it
module _ (a n held : ℕ) {b : ℕ} (s : Sound a n held) (eb : b ≡ bits a) (left : 8 * n % b ≡ 0 → ⊥) where
  spelled_out : ending a n held ≡ digit a (held * 2 ^ (b - 8 * n % b)) ∷ replicate (wanting (group a) (8 * n / b + 1)) pad
  spelled_out = rw eb (ending_some a n held (rw eb at left))

  pub some_ending : length (ending a n held) ≡ wanting (group a) (8 * n / b + 1) + 1
  some_ending = ap length spelled_out ∙ ap suc (length-replicate (wanting (group a) (8 * n / b + 1)) pad) ∙ sym (add-one (wanting (group a) (8 * n / b + 1)))

  pub ending_is : ending a n held ≡ digit a (held * 2 ^ (b - 8 * n % b)) ∷ replicate (length (ending a n held) - 1) pad
  ending_is =
      let w : length (ending a n held) - 1 ≡ wanting (group a) (8 * n / b + 1) = omega (arith, some_ending) in
      rw w spelled_out

  pub value_lt : held * 2 ^ (b - 8 * n % b) < 2 ^ b
  value_lt = rw eb (filled_lt a n held s)

-- ---- in a buffer

-- one byte, and the rest after it
pub paste_more : (o : List ℕ) (at x : ℕ) (text : List ℕ) (n : ℕ) → at < length o
    → paste (set o at x) (at + 1) text n ≡ paste o at (x ∷ text) (n + 1)
paste_more o at x text n l =
    let e : at + (n + 1) ≡ at + 1 + n = omega arith in
    rw (e, add-one n, drop-set-lt (at + 1 + n) o at x (omega arith), add-one at, take-suc-set o at x l) (simp append_assoc)

-- a digit x and pads, laid one after the other
pub laid : {text : List ℕ} (o : List ℕ) (at x pads : ℕ) → text ≡ x ∷ replicate pads pad → at < length o
    → paste (set o at x) (at + 1) (replicate pads pad) pads ≡ paste o at text (length text)
laid o at x pads e l =
    rw (e, length-replicate pads pad) (paste_more o at x (replicate pads pad) pads l ∙ ap (paste o at (x ∷ replicate pads pad)) (add-one pads))

-- the whole of a text at the front
pub paste_front : (o text : List ℕ) → paste o 0 text (length text) ≡ filled text o
paste_front o text = rw (take-length text, zero-add)
