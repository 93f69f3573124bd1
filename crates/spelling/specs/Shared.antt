-- 01, "Answers", of the good bytes: "they are exactly the longest start that all accepted continuations of the text before it share"; the same of
-- a writer's text: the longest start that the written forms of all continuations of a source share. L is not counted. Assumes nothing.
use Rattle.std.specs.Prelude.{ℕ, List, ◌++◌}
use Rattle.alphabet.specs.Bits.{Below}
use Rattle.alphabet.specs.Written.{written}
use Rattle.reading.specs.Continuation.{Begins}

-- the written form of every continuation of the source begins with s; nothing added is one of them
abbrev pub Shared : ℕ → List ℕ → List ℕ → Type 0
Shared a src s = (more : List ℕ) → Below 256 more → Begins s (written a (src ++ more))

-- s is a start that they all share, and no longer one is
pub record LongestShared (a : ℕ) (src s : List ℕ) : Type 0 where
  pub shared : Shared a src s
  pub longest : (other : List ℕ) → Shared a src other → Begins other s
