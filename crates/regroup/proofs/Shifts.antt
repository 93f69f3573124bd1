-- Shifts and masks of the code as products and remainders by powers of two. Assumes nothing.
use Prim.Native.Nat.{ℕ, ◌*◌, ◌-◌, ◌%◌, ◌^◌, ◌<◌, ◌≤◌}
use mathlib.Core.Path.{◌≡◌, ◌∙◌}
use native.Mathlib.Nat.{one-mul, lt_of_lt_of_le}
use native.Mathlib.Omega.{arith}
use lib.Pow.{shl_exact, shl_lt, pow_mono}
use lib.Bits.{bit_and, and_mask}

-- a byte shifted by at most 8 loses no bit
pub shifted : (held w : ℕ) → held < 256 → w ≤ 8 → held * 2 ^ w % 2 ^ 64 ≡ held * 2 ^ w
shifted held w h l = shl_exact 8 w 64 h (omega arith)

pub shifted_lt : (held w : ℕ) → held < 256 → w ≤ 8 → held * 2 ^ w < 65536
shifted_lt held w h l = lt_of_lt_of_le (shl_lt 8 w h) (pow_mono {j = 16} (omega arith))

pub one_shifted : (n : ℕ) → n < 16 → 1 * 2 ^ n % 2 ^ 64 ≡ 2 ^ n
one_shifted n l = shl_exact 1 n 64 (omega arith) (omega arith) ∙ one-mul (2 ^ n)

pub masked : (z n : ℕ) → n < 16 → bit_and z (1 * 2 ^ n % 2 ^ 64 - 1) ≡ z % 2 ^ n
masked z n l = rw (one_shifted n l) (and_mask z n)
