-- 01, "Whole calls": the tidier gives the cleaned text of an accepted one. What is shown of that text. Assumes nothing.
use Rattle.std.specs.Prelude.{ℕ, ◌≤◌, ◌≡◌, List, length}
use Rattle.alphabet.specs.Written.{written, Canonical}
use Rattle.reading.specs.Limit.{limit}
use Rattle.reading.specs.Cleaning.{clean, Accepted}
use Rattle.reading.specs.Reader.{judged}

-- the cleaned text of t is the written form of the good bytes, cleans to itself, is accepted with the same bytes, and fits the limit
pub record Tidied (a opts : ℕ) (t good : List ℕ) : Type 0 where
  pub form : clean a opts t ≡ written a good
  pub canonical : Canonical a (clean a opts t)
  pub again : clean a opts (clean a opts t) ≡ clean a opts t
  pub strictly : clean a 0 (clean a opts t) ≡ clean a opts t
  pub accepted : Accepted a opts (clean a opts t)
  pub same_bytes : (judged a opts (clean a opts t)).good ≡ good
  pub fits : length (clean a opts t) ≤ limit
