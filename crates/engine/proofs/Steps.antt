-- What a digit, a pad and the end do, case by case, as the code finds it. Assumes nothing.
use Prim.Native.Nat.{ℕ, ◌+◌, ◌-◌, ◌*◌, ◌/◌, ◌%◌, ◌^◌, ◌<◌, ◌≤◌}
use mathlib.Core.Path.{◌≡◌, refl, sym, ◌∙◌}
use mathlib.Core.Bool.{Bool, true, false}
use native.Mathlib.Nat.{mul-le-mul_right}
use native.Mathlib.Omega.{arith}
use lib.Dec.{ltb}
use Rattle.std.specs.Prelude.{Some, None}
use borrow.Author.Tests.{le-ltb, ltb-true, ltb-false}
use Rattle.alphabet.specs.Alphabet.{bits}
use Rattle.regroup.specs.Regroup.{fed}
use Rattle.regroup.specs.declared.Fed.{Fed}
use Rattle.alphabet.proofs.AlphabetLaws.{bits_high}
use Rattle.regroup.proofs.RegroupLaws.{fed_held, fed_byte}
use Rattle.reading.specs.Reader.{takes, gives, held_bits, on_digit}
use Rattle.reading.proofs.LimitLaws.{limit_small}
use Rattle.reading.proofs.OptionLaws.{allowed_alphabet}
use Rattle.rule.specs.declared.Core.{Core}
use Rattle.rule.specs.Meaning.{state_of}
use Rattle.engine.specs.Meaning.{Fit, taken_of}

module _ (a : ℕ) (h : a < 6) (k : Core) (f : Fit a k) where
  -- the sums of a state fit their types
  pub product_fits : bits a * k.digits < 2 ^ 40
  product_fits = omega (arith, mul-le-mul_right k.digits (bits_high a h), f.digits, f.taken, limit_small)

  pub taken_fits : k.taken + 1 < 2 ^ 40
  taken_fits = omega (arith, f.taken, limit_small)

  pub digits_fit : k.digits + 1 < 2 ^ 40
  digits_fit = omega (arith, f.digits, f.taken, limit_small)

  pub pads_fit : k.pads + 1 < 2 ^ 40
  pads_fit = omega (arith, f.pads, f.taken, limit_small)

  module _ {v : ℕ} (l : v < 2 ^ bits a) (p : k.pads ≤ 0) where
    few : held_bits a (state_of k) < 8
    unfolding held_bits
    few = omega arith

    -- a digit, as the step regroups it
    pub digit_is : (z : Fed) → z ≡ fed (bits a) (bits a * k.digits % 8) k.held v
        → taken_of (record { digits = k.digits + 1; held = z.held; pads = 0; taken = k.taken + 1 }) z.byte ≡ on_digit a (state_of k) v
    unfolding on_digit held_bits
    digit_is z e = go (ltb (held_bits a (state_of k) + bits a) 8) refl
      where
        go : (t : Bool) → ltb (held_bits a (state_of k) + bits a) 8 ≡ t
            → taken_of (record { digits = k.digits + 1; held = z.held; pads = 0; taken = k.taken + 1 }) z.byte ≡ on_digit a (state_of k) v
        go true q =
            let r : z ≡ record { byte = None; held = k.held * 2 ^ bits a + v } =
            e ∙ fed_held (bits a) (held_bits a (state_of k)) (omega (arith, bits_high a h)) few f.held l (ltb-true _ _ q) in
            rw (r, le-ltb 0 k.pads p, q)
        go false q =
            let n : ℕ = held_bits a (state_of k) + bits a - 8 in
            let r : z ≡ record { byte = Some ((k.held * 2 ^ bits a + v) / 2 ^ n); held = (k.held * 2 ^ bits a + v) % 2 ^ n } =
            e ∙ fed_byte (bits a) (held_bits a (state_of k)) (omega (arith, bits_high a h)) few f.held l n
            (omega (arith, ltb-false (held_bits a (state_of k) + bits a) 8 q)) in
            rw (r, le-ltb 0 k.pads p, q)

    -- a digit that completes no byte
    pub digit_held : {x : ℕ} → fed (bits a) (held_bits a (state_of k)) k.held v ≡ record { byte = None; held = x }
        → takes (record { digits = k.digits + 1; held = x; pads = 0; taken = k.taken + 1 }) ≡ on_digit a (state_of k) v
    unfolding held_bits
    digit_held {x} e = digit_is (record { byte = None; held = x }) (sym e)

    -- a digit that completes a byte
    pub digit_gives : {y x : ℕ} → fed (bits a) (held_bits a (state_of k)) k.held v ≡ record { byte = Some y; held = x }
        → gives y (record { digits = k.digits + 1; held = x; pads = 0; taken = k.taken + 1 }) ≡ on_digit a (state_of k) v
    unfolding held_bits
    digit_gives {y} {x} e = digit_is (record { byte = Some y; held = x }) (sym e)

-- for the functions' own goals
pub ruleset sums = (allowed_alphabet, product_fits, taken_fits, digits_fit, pads_fit)

pub ruleset digit_sums = (sums, digit_is)
