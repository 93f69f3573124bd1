-- 01, "Answers": "The longest source is 12,582,912 bytes in base64, 10,485,760 in base32, 8,388,608 in hex", and the length of a written form as a
-- whole call asks for it. Assumes nothing.
use Rattle.std.specs.Prelude.{ℕ, ◌*◌, ◌/◌, ◌<◌, ◌≤◌, cond, List, ltb, length, Result, Ok, Err}
use Rattle.answer.specs.Told.{Told}
use Rattle.alphabet.specs.Alphabet.{bits}
use Rattle.alphabet.specs.Written.{written_length}
use Rattle.reading.specs.Limit.{limit}
use Rattle.spelling.specs.Whole.{numbers}
use Rattle.spelling.specs.declared.NoSize.{NoSize}
use Rattle.spelling.specs.declared.NoSize.TheVariants.{Unknown, TooLong}

-- the longest source
unfoldable pub longest_of : ℕ → ℕ
longest_of a = cond (ltb a 6) (bits a * limit / 8) 0

-- the length of a written form, where there is one within the limit
unfoldable pub size_of : ℕ → ℕ → Result ℕ NoSize
size_of a n = cond (ltb a 6) (cond (ltb limit (written_length a n)) (Err TooLong) (Ok (written_length a n))) (Err Unknown)

-- 3 with the needed count, or all of it
unfoldable pub fitting_numbers : ℕ → ℕ → Told
fitting_numbers need room = cond (ltb room need) (numbers 3 0 need) (numbers 0 need need)

-- there is a written form within the limit and the room
pub record FormFits (a : ℕ) (src : List ℕ) (room : ℕ) : Type 0 where
  pub known : a < 6
  pub within : written_length a (length src) ≤ limit
  pub roomy : written_length a (length src) ≤ room
