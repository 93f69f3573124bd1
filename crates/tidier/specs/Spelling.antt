-- 01, "Whole calls": the tidier gives "the cleaned text". How it is spelled from the text: the text's digits in the alphabet's own case, the last
-- of them "the digit whose spare bits are zero", and "= until the length is a multiple of g". Assumes nothing.
use Rattle.std.specs.Prelude.{ℕ, ◌-◌, ◌<◌, ◌≤◌, ◌≡◌, true, cond, List, [], ◌∷◌, ◌++◌, map, eqb, length, get_or, set, replicate}
use Rattle.alphabet.specs.Alphabet.{group, digit, value, is_digit, pad}
use Rattle.alphabet.specs.Written.{wanting}
use Rattle.reading.specs.Options.{allowed}
use Rattle.reading.specs.Cleaning.{kept, turned, clean}

-- the digits among the bytes
unfoldable pub digits_among : ℕ → List ℕ → List ℕ
digits_among a [] = []
digits_among a (c ∷ cs) = cond (is_digit a c) (c ∷ digits_among a cs) (digits_among a cs)

-- the digits of a text, after dropping and case turning
unfoldable pub spelt : ℕ → ℕ → List ℕ → List ℕ
spelt a opts t = digits_among a (map (turned a opts) (kept opts t))

-- the place of the last digit
abbrev pub last_of : List ℕ → ℕ
last_of w = length w - 1

-- the last digit with its spare bits, which are the held ones, zero
unfoldable pub last_clear : ℕ → ℕ → List ℕ → List ℕ
last_clear a held w = cond (eqb held 0) w (set w (last_of w) (digit a (value a (get_or w (last_of w) 0) - held)))

-- and = until the length is a multiple of the group
unfoldable pub spelled_out : ℕ → ℕ → List ℕ → List ℕ
spelled_out a held w = last_clear a held w ++ replicate (wanting (group a) (length w)) pad

-- the last of the digits has the held bits
pub record Clearable (a held : ℕ) (w : List ℕ) : Type 0 where
  pub some : 0 < length w
  pub a_digit : is_digit a (get_or w (last_of w) 0) ≡ true
  pub low : held ≤ value a (get_or w (last_of w) 0)

-- the text's cleaned text is spelled out of its digits, the last with the held bits cleared
pub record Spelled (a opts : ℕ) (t : List ℕ) (held : ℕ) : Type 0 where
  pub choice : allowed a opts ≡ true
  pub clearable : 0 < held → Clearable a held (spelt a opts t)
  pub form : clean a opts t ≡ spelled_out a held (spelt a opts t)
