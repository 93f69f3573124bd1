-- 01, "Alphabets": "one reverse table of 1,536 entries (256 for each alphabet), whose rule is shown once over the whole table: a digit's byte gives
-- its value, every other byte gives 255". What a byte is by that table, and the digits of values by another. Assumes nothing.
use Rattle.std.specs.Prelude.{ℕ, zero, suc, ◌+◌, ◌*◌, ◌/◌, ◌%◌, cond, ◌&&◌, List, [], ◌∷◌, ltb, get_or}
use Rattle.alphabet.specs.Alphabet.{value, is_digit, is_pad, digit}
use Rattle.table.specs.declared.Symbol.{Symbol}
use Rattle.table.specs.declared.Symbol.TheVariants.{Digit, Pad, Neither}

-- what the rule f gives at k, k + 1, .. : n numbers
unfoldable pub made : (ℕ → ℕ) → ℕ → ℕ → List ℕ
made f zero k = []
made f (suc n) k = f k ∷ made f n (suc k)

-- the reverse table
unfoldable pub entries : List ℕ
entries = made (λ k. value (k / 256) (k % 256)) 1536 0

-- what the byte c is in alphabet a
unfoldable pub symbol_of : ℕ → ℕ → Symbol
symbol_of a c = cond (is_digit a c) (Digit (value a c)) (cond (is_pad a c) Pad Neither)

-- the same by a table t; neither for an alphabet above 5
unfoldable pub symbol_in : List ℕ → ℕ → ℕ → Symbol
symbol_in t a c =
    cond (ltb a 6)
    (cond (ltb (get_or t (a * 256 + c) 0) 255) (Digit (get_or t (a * 256 + c) 0)) (cond (is_pad a c) Pad Neither))
    Neither

-- the table of digits, 64 for each alphabet, 0 for a value that no digit has
unfoldable pub digit_entries : List ℕ
digit_entries = made (λ k. digit (k / 64) (k % 64)) 384 0

-- the digit of the value v by a table t; 0 for an alphabet above 5 or a value above 63
unfoldable pub digit_in : List ℕ → ℕ → ℕ → ℕ
digit_in t a v = cond (ltb a 6 && ltb v 64) (get_or t (a * 64 + v) 0) 0
