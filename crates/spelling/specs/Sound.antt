-- 01, "Streams": "Answer 9 is given exactly when no sequence of calls from a start gives that state." The numbers of a writer that a source gives.
-- Assumes nothing.
use Rattle.std.specs.Prelude.{ℕ, ◌*◌, ◌%◌, ◌^◌, ◌<◌, ◌≤◌, Bool, ◌&&◌, ltb, leb}
use Rattle.alphabet.specs.Alphabet.{bits}
use Rattle.alphabet.specs.Written.{written_length}
use Rattle.reading.specs.Limit.{limit}

-- numbers that a source gives: an alphabet, a source within the limit, and fewer bits held than a digit has
pub record Sound (a n held : ℕ) : Type 0 where
  pub known : a < 6
  pub within : written_length a n ≤ limit
  pub small : held < 2 ^ (8 * n % bits a)

-- the test of them
unfoldable pub sound_numbers : ℕ → ℕ → ℕ → Bool
sound_numbers a n held = ltb a 6 && (leb (written_length a n) limit && ltb held (2 ^ (8 * n % bits a)))
