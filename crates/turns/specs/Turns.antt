-- 01, "The program", and "Streams": "A reader's step takes bytes until the piece is taken (0), a byte is refused, or 3 ..; a later call with room goes
-- on." What a step's answer means for the program's loop. Assumes nothing.
use Rattle.std.specs.Prelude.{ℕ, ◌+◌, min, Bool, cond, ◌||◌, eqb}
use Rattle.std.specs.declared.ops.ControlFlow.{ControlFlow}
use Rattle.std.specs.declared.ops.ControlFlow.TheVariants.{Continue, Break}
use Rattle.answer.specs.Told.{told}
use Rattle.answer.specs.declared.Outcome.{Outcome}
use Rattle.answer.specs.declared.Stepped.{Stepped}
use Rattle.turns.specs.declared.Going.{Going}

-- the piece is taken, or the next byte needs room
unfoldable pub goes_on : ℕ → Bool
goes_on answer = eqb answer 0 || eqb answer 3

-- a count never wraps: it would stay at the largest number
abbrev pub sum_of : ℕ → ℕ → ℕ
sum_of x y = min (x + y) 18446744073709551615

-- after a step that gave n bytes: what it did not take of the bytes from at to end is offered again; any answer but 0 and 3 settles it
unfoldable pub turn_on : {S : Type 0} → Stepped S → ℕ → ℕ → ℕ → ℕ → ControlFlow (Outcome × ℕ) (Going S)
turn_on s n good at end =
    cond (goes_on (told s.told.outcome).answer)
    (Continue (record { state = s.state; good = sum_of good n; at = min (at + s.told.taken.0) end }))
    (Break (s.told.outcome, sum_of good n))
