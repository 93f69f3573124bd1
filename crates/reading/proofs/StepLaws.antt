-- What a byte keeps of a state: the held bits fit their number, digits and pads are at most the bytes taken, and one byte is taken.
-- Assumes nothing.
use Prim.Native.Nat.{ℕ, ◌+◌, ◌-◌, ◌*◌, ◌%◌, ◌^◌, ◌<◌, ◌≤◌}
use mathlib.Core.Path.{◌≡◌, refl, sym, ap, ◌∙◌, subst}
use mathlib.Core.Bool.{Bool, true, false, cond, not, ◌&&◌}
use native.Mathlib.Nat.{mod-lt, mul-add, mul-one}
use native.Mathlib.Omega.{arith}
use lib.Arith.{digits_lt}
use lib.Dec.{eqb, ltb}
use lib.Pow.{pow-add, pow_pos, shr_lt}
use borrow.Author.Tests.{ltb-true, ltb-false}
use Rattle.alphabet.specs.Alphabet.{bits, is_digit, is_pad}
use Rattle.alphabet.proofs.AlphabetLaws.{bits_high}
use Rattle.alphabet.proofs.Symbols.{is_digit_law}
use Rattle.reading.specs.Options.{any_spare}
use Rattle.reading.specs.Cleaning.{dropped, turned}
use Rattle.reading.specs.Reader.{State, Step, takes, gives, refuses, fresh, wants, held_bits, passes, on_digit, on_pad, step}
use Rattle.reading.specs.Sound.{Sound}

pub fresh_sound : (a : ℕ) → Sound a fresh
unfolding held_bits
fresh_sound a = record { held = pow_pos (bits a * 0 % 8); digits = omega arith; pads = omega arith }

-- the state after a byte, of which s was the state before
pub record Next (a : ℕ) (s n : State) : Type 0 where
  pub sound : Sound a n
  pub one : n.taken ≡ s.taken + 1

abbrev pub Keeps : ℕ → State → Step → Type 0
Keeps a s (takes n) = Next a s n
Keeps a s (gives x n) = Next a s n × (x < 256)
Keeps a s (refuses k) = Unit {0}

either : (P : Step → Type 0) (b : Bool) {x y : Step} → (b ≡ true → P x) → (b ≡ false → P y) → P (cond b x y)
either P true p q = p refl
either P false p q = q refl

module _ (a : ℕ) (h : a < 6) (s : State) (f : Sound a s) where
  joined : {v : ℕ} → v < 2 ^ bits a → s.held * 2 ^ bits a + v < 2 ^ (held_bits a s + bits a)
  joined l = rw (pow-add 2 (held_bits a s) (bits a)) (digits_lt f.held l)

  bits_then : bits a * (s.digits + 1) ≡ bits a * s.digits + bits a
  bits_then = mul-add (bits a) s.digits 1 ∙ ap (λ (k : ℕ). bits a * s.digits + k) (mul-one (bits a))

  pub held_then : held_bits a s + bits a < 8 → bits a * (s.digits + 1) % 8 ≡ held_bits a s + bits a
  unfolding held_bits
  held_then l = omega (arith, bits_then)

  pub left_then : 8 ≤ held_bits a s + bits a → bits a * (s.digits + 1) % 8 ≡ held_bits a s + bits a - 8
  unfolding held_bits
  left_then l = omega (arith, bits_then, bits_high a h)

  keeps_digit : {v : ℕ} → v < 2 ^ bits a → Keeps a s (on_digit a s v)
  unfolding on_digit held_bits
  keeps_digit {v} l =
      either (Keeps a s) (ltb 0 s.pads) (λ e. tt)
      (λ e. either (Keeps a s) (ltb (held_bits a s + bits a) 8)
      (λ m. record {
        sound = record { held = rw (held_then (ltb-true _ _ m)) (joined l); digits = omega (arith, f.digits); pads = omega arith };
        one = refl;
      })
      (λ m.
      let n : ℕ = held_bits a s + bits a - 8 in
      let g : 8 ≤ held_bits a s + bits a = ltb-false _ _ m in
      let e : 8 + n ≡ held_bits a s + bits a = omega arith in (
        record {
          sound = record {
            held = rw (left_then g) (mod-lt (s.held * 2 ^ bits a + v) (pow_pos n));
            digits = omega
                (arith, f.digits);
            pads = omega arith;
          };
          one = refl;
        },
        shr_lt 8 n (subst (λ (k : ℕ). s.held * 2 ^ bits a + v < 2 ^ k) (sym e) (joined l)),
      )))

  keeps_pad : (opts : ℕ) → Keeps a s (on_pad a opts s)
  unfolding on_pad held_bits
  keeps_pad opts =
      either (Keeps a s) (ltb 0 s.pads) (λ e. either (Keeps a s) (eqb s.pads (wants a s)) (λ e. tt) (λ e. more))
      (λ e. either (Keeps a s) (eqb (wants a s) 0) (λ e. tt) (λ e. either (Keeps a s) (not (eqb s.held 0) && not (any_spare opts))
      (λ e. tt) (λ e. more)))
    where
      more : Next a s (record { digits = s.digits; held = s.held; pads = s.pads + 1; taken = s.taken + 1 })
      more = record { sound = record { held = f.held; digits = omega (arith, f.digits); pads = omega (arith, f.pads) }; one = refl }

  -- one byte keeps the state sound
  pub keeps : (opts c : ℕ) → Keeps a s (step a opts s c)
  unfolding step passes held_bits
  keeps opts c =
      either (Keeps a s) (dropped opts c)
      (λ e. record { sound = record { held = f.held; digits = omega (arith, f.digits); pads = omega (arith, f.pads) }; one = refl })
      (λ e. either (Keeps a s) (is_digit a (turned a opts c)) (λ d. keeps_digit (is_digit_law a h (turned a opts c) d).small)
      (λ d. either (Keeps a s) (is_pad a c) (λ p. keeps_pad opts) (λ p. tt)))
