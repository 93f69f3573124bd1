-- The regrouping steps in range: the plain quotients and remainders by powers of two, and bounds of what comes out and of what is held.
-- Assumes nothing.
use Prim.Native.Nat.{ℕ, ◌+◌, ◌-◌, ◌*◌, ◌/◌, ◌%◌, ◌^◌, ◌<◌, ◌≤◌}
use mathlib.Core.Path.{◌≡◌, subst}
use native.Mathlib.Nat.{mod-eq_of_lt, mod-lt, lt_of_lt_of_le}
use native.Mathlib.Omega.{arith}
use lib.Pow.{pow_pos, pow_mono, shr_lt}
use borrow.Author.Tests.{lt-ltb, le-ltb}
use Rattle.std.specs.Prelude.{Some, None}
use Rattle.regroup.specs.Regroup.{One, Two, byte_and, fed, digits_and, cut_up}
use Rattle.alphabet.proofs.Runs.{joined_lt}

-- the first w of w + n bits
first_lt : (k w n : ℕ) {z : ℕ} → k ≡ w + n → z < 2 ^ k → z / 2 ^ n < 2 ^ w
first_lt k w n {z} e l = shr_lt w n (subst (λ (i : ℕ). z < 2 ^ i) e l)

pub rest_lt : (n z : ℕ) → z % 2 ^ n < 2 ^ n
rest_lt n z = mod-lt z (pow_pos n)

-- 8 bits fit a byte
byte_fits : (k : ℕ) {x : ℕ} → k ≤ 8 → x < 2 ^ k → x % 256 ≡ x
byte_fits k h l = mod-eq_of_lt (lt_of_lt_of_le l (pow_mono {j = 8} h))

-- ---- a digit of b bits after r bits held

module _ (b r : ℕ) {held v : ℕ} (wide : b < 8) (few : r < 8) (small : held < 2 ^ r) (digit : v < 2 ^ b) where
  -- no byte is complete, and by `joined_lt` r + b bits are held
  pub fed_held : r + b < 8 → fed b r held v ≡ record { byte = None; held = held * 2 ^ b + v }
  unfolding fed byte_and
  fed_held l = rw (mod-eq_of_lt wide, mod-eq_of_lt few, lt-ltb (r + b) 8 l, byte_fits (r + b) (omega arith) (joined_lt r b small digit))

  pub fed_byte_lt : (n : ℕ) → r + b ≡ 8 + n → (held * 2 ^ b + v) / 2 ^ n < 256
  fed_byte_lt n e = first_lt (r + b) 8 n e (joined_lt r b small digit)

  -- a byte is complete, and n bits are held after it
  pub fed_byte : (n : ℕ) → r + b ≡ 8 + n → fed b r held v ≡ record { byte = Some ((held * 2 ^ b + v) / 2 ^ n); held = (held * 2 ^ b + v) % 2 ^ n }
  unfolding fed byte_and
  fed_byte n e =
      let k : r + b - 8 ≡ n = omega arith in
      rw (
        mod-eq_of_lt wide,
        mod-eq_of_lt few,
        le-ltb (r + b) 8 (omega arith),
        k,
        mod-eq_of_lt (fed_byte_lt n e),
        byte_fits n (omega arith) (rest_lt n (held * 2 ^ b + v)),
      )

-- ---- a byte after r bits held, cut into digits of b bits

module _ (b r : ℕ) {held byte : ℕ} (low : 4 ≤ b) (high : b ≤ 6) (few : r < b) (small : held < 2 ^ r) (fits : byte < 256) where
  width : b % 8 ≡ b
  width = mod-eq_of_lt (omega arith)

  count : r % 8 ≡ r
  count = mod-eq_of_lt (omega arith)

  pub cut_first_lt : (n : ℕ) → r + 8 ≡ b + n → (held * 256 + byte) / 2 ^ n < 2 ^ b
  cut_first_lt n e = first_lt (r + 8) b n e (joined_lt r 8 small fits)

  -- one digit is complete, and n bits are held after it
  pub cut_one : (n : ℕ) → r + 8 ≡ b + n → n < b → cut_up b r held byte ≡ One ((held * 256 + byte) / 2 ^ n) ((held * 256 + byte) % 2 ^ n)
  unfolding cut_up digits_and
  cut_one n e l =
      let k : r + 8 - b ≡ n = omega arith in
      rw
      (width, count, k, lt-ltb n b l, byte_fits b (omega arith) (cut_first_lt n e), byte_fits n (omega arith) (rest_lt n (held * 256 + byte)))

  pub cut_second_lt : (m : ℕ) → (held * 256 + byte) % 2 ^ (b + m) / 2 ^ m < 2 ^ b
  cut_second_lt m = first_lt (b + m) b m (omega arith) (rest_lt (b + m) (held * 256 + byte))

  -- two digits are complete, and m bits are held after them
  pub cut_two : (m : ℕ) → r + 8 ≡ b + (b + m)
      → cut_up b r held byte
      ≡ Two ((held * 256 + byte) / 2 ^ (b + m)) ((held * 256 + byte) % 2 ^ (b + m) / 2 ^ m) ((held * 256 + byte) % 2 ^ (b + m) % 2 ^ m)
  unfolding cut_up digits_and
  cut_two m e =
      let k : r + 8 - b ≡ b + m = omega arith in
      let j : b + m - b ≡ m = omega arith in
      rw (
        width,
        count,
        k,
        le-ltb (b + m) b (omega arith),
        j,
        byte_fits b (omega arith) (cut_first_lt (b + m) e),
        byte_fits b (omega arith) (cut_second_lt m),
        byte_fits m (omega arith) (rest_lt m ((held * 256 + byte) % 2 ^ (b + m))),
      )
