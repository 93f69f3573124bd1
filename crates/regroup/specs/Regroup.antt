-- 01, "The written form": "Take the bytes as one string of bits, highest bit of each byte first. Cut it into runs of b bits", a step at a time.
-- A width or a number of held bits above 7 is read modulo 8, and a result keeps its 8 low bits. Assumes nothing.
use Rattle.std.specs.Prelude.{ℕ, ◌+◌, ◌-◌, ◌*◌, ◌/◌, ◌%◌, ◌^◌, cond, ltb, Some, None}
use Rattle.regroup.specs.declared.Fed.{Fed}

-- z has k bits: fewer than 8, which are held, or a byte and the k - 8 bits after it
unfoldable pub byte_and : ℕ → ℕ → Fed
byte_and k z =
    cond (ltb k 8)
    (record { byte = None; held = z % 256 })
    (record { byte = Some (z / 2 ^ (k - 8) % 256); held = z % 2 ^ (k - 8) % 256 })

-- a digit v of b bits after r bits held
unfoldable pub fed : ℕ → ℕ → ℕ → ℕ → Fed
fed b r held v = byte_and (r % 8 + b % 8) (held * 2 ^ (b % 8) + v)

-- after a byte: a digit, or two in order, and the bits held after them
pub data Cut : Type 0 where
  One : ℕ → ℕ → Cut
  Two : ℕ → ℕ → ℕ → Cut

-- z is a digit of b bits and n bits after it: fewer than b, which are held, or a second digit and the n - b bits after it
unfoldable pub digits_and : ℕ → ℕ → ℕ → Cut
digits_and b n z =
    cond (ltb n b)
    (One (z / 2 ^ n % 256) (z % 2 ^ n % 256))
    (Two (z / 2 ^ n % 256) (z % 2 ^ n / 2 ^ (n - b) % 256) (z % 2 ^ n % 2 ^ (n - b) % 256))

-- a byte after r bits held, cut into digits of b bits
unfoldable pub cut_up : ℕ → ℕ → ℕ → ℕ → Cut
cut_up b r held byte = digits_and (b % 8) (r % 8 + 8 - b % 8) (held * 2 ^ 8 + byte)
