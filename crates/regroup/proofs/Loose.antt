-- The reader's held bits may stand loose in a byte, with bits above them that do not count: a digit is joined to the whole byte, and what
-- comes out and what counts then are those of `fed`. Once for every width. Assumes nothing.
use Prim.Native.Nat.{ℕ, ◌+◌, ◌-◌, ◌*◌, ◌/◌, ◌%◌, ◌^◌, ◌<◌, ◌≤◌}
use mathlib.Core.Path.{◌≡◌, sym, ap, ◌∙◌}
use native.Mathlib.Omega.{arith}
use lib.Pow.{mod-pow-add, high, low, field, mod-mod-pow}
use Rattle.std.specs.Prelude.{Some, None}
use Rattle.regroup.specs.Regroup.{fed}
use Rattle.regroup.proofs.RegroupLaws.{fed_held, fed_byte, rest_lt}

-- of a byte, n bits count
pub low_of_byte : (z n : ℕ) → n ≤ 8 → z % 256 % 2 ^ n ≡ z % 2 ^ n
low_of_byte z n l =
    let e : 8 - n + n ≡ 8 = omega arith in
    ap (λ (k : ℕ). z % 2 ^ k % 2 ^ n) (sym e) ∙ mod-mod-pow z (8 - n) n

module _ (b r h : ℕ) {v : ℕ} (wide : b < 8) (few : r < 8) (digit : v < 2 ^ b) where
  -- the digit joined to the bits that count
  joined_low : h % 2 ^ r * 2 ^ b + v ≡ (h * 2 ^ b + v) % 2 ^ (r + b)
  joined_low = sym (mod-pow-add (h * 2 ^ b + v) r b ∙ rw (high h b digit, low h b digit))

  -- no byte is complete, and r + b bits count
  pub loose_held : r + b < 8 → fed b r (h % 2 ^ r) v ≡ record { byte = None; held = (h * 2 ^ b + v) % 256 % 2 ^ (r + b) }
  loose_held l =
      fed_held b r wide few (rest_lt r h) digit l
      ∙ rw (joined_low, low_of_byte (h * 2 ^ b + v) (r + b) (omega arith))

  -- a byte is complete, and n bits count after it
  pub loose_byte : (n : ℕ) → r + b ≡ 8 + n
      → fed b r (h % 2 ^ r) v ≡ record { byte = Some ((h * 2 ^ b + v) / 2 ^ n % 256); held = (h * 2 ^ b + v) % 256 % 2 ^ n }
  loose_byte n e =
      let z : ℕ = h * 2 ^ b + v in
      fed_byte b r wide few (rest_lt r h) digit n e
      ∙ rw (joined_low, e, field z 8 n, mod-mod-pow z 8 n, low_of_byte z n (omega arith))
