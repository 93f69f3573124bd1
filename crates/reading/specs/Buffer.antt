-- 01, "Whole calls": bytes past the count written are never changed, in streams too. Assumes nothing.
use Rattle.std.specs.Prelude.{ℕ, List, ◌++◌, length, drop}

-- the bytes at the front of a buffer, every later byte as before
abbrev pub filled : List ℕ → List ℕ → List ℕ
filled w o = w ++ drop (length w) o
