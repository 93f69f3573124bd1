-- 01, "Answers": continuations are of any length, nothing added included, L not counted; the good bytes are the longest start that all accepted
-- continuations share. Assumes nothing.
use Rattle.std.specs.Prelude.{ℕ, ◌≡◌, List, ◌++◌}
use Rattle.alphabet.specs.Bits.{Below}
use Rattle.alphabet.specs.Written.{written}
use Rattle.reading.specs.Cleaning.{clean, Accepted}

-- some bytes after the text make it an accepted one
pub record Continued (a opts : ℕ) (t : List ℕ) : Type 0 where
  pub more : List ℕ
  pub bytes : Below 256 more
  pub accepted : Accepted a opts (t ++ more)

-- some bytes after the text make it an accepted one whose bytes are `whole`
pub record Continuation (a opts : ℕ) (t whole : List ℕ) : Type 0 where
  pub more : List ℕ
  pub bytes : Below 256 more
  pub source : Below 256 whole
  pub form : written a whole ≡ clean a opts (t ++ more)

-- the list begins with s
pub record Begins (s whole : List ℕ) : Type 0 where
  pub rest : List ℕ
  pub whole_is : whole ≡ s ++ rest

-- every accepted continuation of the text has bytes that begin with s
abbrev pub Shared : ℕ → ℕ → List ℕ → List ℕ → Type 0
Shared a opts t s = (whole : List ℕ) → Continuation a opts t whole → Begins s whole

-- s is a start that all accepted continuations of the text share, and no longer one is
pub record LongestShared (a opts : ℕ) (t s : List ℕ) : Type 0 where
  pub shared : Shared a opts t s
  pub longest : (other : List ℕ) → Shared a opts t other → Begins other s
