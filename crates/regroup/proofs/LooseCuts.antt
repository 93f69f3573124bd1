-- Held bits kept loose: of h only the r low bits count, and what stands above them does not matter to what a byte is cut into. Assumes nothing.
use Prim.Native.Nat.{ℕ, ◌+◌, ◌-◌, ◌*◌, ◌/◌, ◌%◌, ◌^◌, ◌<◌, ◌≤◌}
use mathlib.Core.Path.{◌≡◌, sym, ap, ◌∙◌}
use native.Mathlib.Omega.{arith}
use lib.Pow.{high, low, mod-pow-add, field, mod-mod-pow}
use Rattle.regroup.specs.Regroup.{One, Two, cut_up}
use Rattle.regroup.proofs.RegroupLaws.{rest_lt, cut_one, cut_two}

-- the k low bits of the m low bits
pub low_of_low : (z m k : ℕ) → k ≤ m → z % 2 ^ m % 2 ^ k ≡ z % 2 ^ k
low_of_low z m k l =
    let e : m ≡ m - k + k = omega arith in
    ap (λ (i : ℕ). z % 2 ^ i % 2 ^ k) e ∙ mod-mod-pow z (m - k) k

module _ (b r h : ℕ) {byte : ℕ} (narrow : 4 ≤ b) (wide : b ≤ 6) (few : r < b) (fits : byte < 256) where
  -- the r bits that count and the byte are the r + 8 low bits
  counted : h % 2 ^ r * 256 + byte ≡ (h * 256 + byte) % 2 ^ (r + 8)
  counted = sym (mod-pow-add (h * 256 + byte) r 8 ∙ rw (high h 8 fits, low h 8 fits))

  first_is : (n : ℕ) → r + 8 ≡ b + n → (h % 2 ^ r * 256 + byte) / 2 ^ n ≡ (h * 256 + byte) / 2 ^ n % 2 ^ b
  first_is n e = rw (counted, e) (field (h * 256 + byte) b n)

  rest_is : (n : ℕ) → n ≤ r + 8 → (h % 2 ^ r * 256 + byte) % 2 ^ n ≡ (h * 256 + byte) % 2 ^ n
  rest_is n l = rw counted (low_of_low (h * 256 + byte) (r + 8) n l)

  -- what is held after the byte is kept in a byte, loose again
  left_is : (n : ℕ) → n ≤ 8 → (h % 2 ^ r * 256 + byte) % 2 ^ n ≡ (h * 256 + byte) % 256 % 2 ^ n
  left_is n l = rest_is n (omega arith) ∙ sym (low_of_low (h * 256 + byte) 8 n l)

  pub cut_one_loose : (n : ℕ) → r + 8 ≡ b + n → n < b
      → cut_up b r (h % 2 ^ r) byte ≡ One ((h * 256 + byte) / 2 ^ n % 2 ^ b) ((h * 256 + byte) % 256 % 2 ^ n)
  cut_one_loose n e l = cut_one b r narrow wide few (rest_lt r h) fits n e l ∙ rw (first_is n e, left_is n (omega arith))

  pub cut_two_loose : (m : ℕ) → r + 8 ≡ b + (b + m)
      → cut_up b r (h % 2 ^ r) byte
      ≡ Two ((h * 256 + byte) / 2 ^ (b + m) % 2 ^ b) ((h * 256 + byte) / 2 ^ m % 2 ^ b) ((h * 256 + byte) % 256 % 2 ^ m)
  cut_two_loose m e =
      let s : (h % 2 ^ r * 256 + byte) % 2 ^ (b + m) / 2 ^ m ≡ (h * 256 + byte) / 2 ^ m % 2 ^ b =
      ap (λ (x : ℕ). x / 2 ^ m) (rest_is (b + m) (omega arith)) ∙ field (h * 256 + byte) b m in
      let t : (h % 2 ^ r * 256 + byte) % 2 ^ (b + m) % 2 ^ m ≡ (h * 256 + byte) % 256 % 2 ^ m =
      low_of_low (h % 2 ^ r * 256 + byte) (b + m) m (omega arith) ∙ left_is m (omega arith) in
      cut_two b r narrow wide few (rest_lt r h) fits m e ∙ rw (first_is (b + m) e, s, t)
