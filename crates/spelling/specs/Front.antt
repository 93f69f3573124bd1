-- 01, "Streams": "After n bytes, floor(8n/b) digits have been written." The digits that a source fills whole, the bits after them, and what a
-- finish adds: the last digit, its run filled with zero bits on the right, and the pads. Assumes nothing.
use Rattle.std.specs.Prelude.{ℕ, ◌+◌, ◌-◌, ◌*◌, ◌/◌, ◌%◌, ◌^◌, cond, List, [], ◌∷◌, map, eqb, length, drop, replicate}
use Rattle.alphabet.specs.Bits.{value_of, unpack, pack}
use Rattle.alphabet.specs.Alphabet.{bits, group, digit, pad}
use Rattle.alphabet.specs.Written.{wanting}

-- the values of the first floor(8n/b) runs of b bits
unfoldable pub full : ℕ → List ℕ → List ℕ
full b src = pack b (8 * length src / b) (unpack 8 src)

-- their digits
unfoldable pub front : ℕ → List ℕ → List ℕ
front a src = map (digit a) (full (bits a) src)

-- the bits after them, as a number
unfoldable pub held_of : ℕ → List ℕ → ℕ
held_of b src = value_of (drop (b * (8 * length src / b)) (unpack 8 src))

-- after n bytes, with these bits held: nothing where there are none; else the last digit, and = until the length is a multiple of the group
unfoldable pub ending : ℕ → ℕ → ℕ → List ℕ
ending a n held =
    cond (eqb (8 * n % bits a) 0) []
    (digit a (held * 2 ^ (bits a - 8 * n % bits a)) ∷ replicate (wanting (group a) (8 * n / bits a + 1)) pad)

-- what a finish adds to the front
unfoldable pub rest : ℕ → List ℕ → List ℕ
rest a src = ending a (length src) (held_of (bits a) src)
