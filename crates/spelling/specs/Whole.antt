-- 01, "Whole calls": "The writer (no options): 2, then 3 with the needed count, both writing nothing; else the written form." Answer 1 comes first.
-- Assumes nothing.
use Rattle.std.specs.Prelude.{ℕ, cond, List, [], ltb, length}
use Rattle.answer.specs.Told.{Told}
use Rattle.alphabet.specs.Written.{written}
use Rattle.reading.specs.Limit.{limit}

-- answer, position and count, and what is written
pub record Wrote : Type 0 where
  pub told : Told
  pub text : List ℕ

abbrev pub numbers : ℕ → ℕ → ℕ → Told
numbers answer position count = record { answer = answer; position = position; count = count }

abbrev pub nothing : ℕ → ℕ → Wrote
nothing answer count = record { told = numbers answer 0 count; text = [] }

unfoldable pub write_of : ℕ → List ℕ → ℕ → Wrote
write_of a src room =
    let text : List ℕ = written a src in
    cond (ltb a 6)
    (cond (ltb limit (length text)) (nothing 2 0)
    (cond (ltb room (length text)) (nothing 3 (length text))
    (record { told = record { answer = 0; position = length text; count = length text }; text = text })))
    (nothing 1 0)
