-- 01, "Answers and what they leave": the number, the position and the count that each case of an answer stands for. Assumes nothing.
use Rattle.std.specs.Prelude.{ℕ}
use Rattle.answer.specs.declared.Kind.{Kind}
use Rattle.answer.specs.declared.Kind.TheVariants as K
use Rattle.answer.specs.declared.Outcome.{Outcome}
use Rattle.answer.specs.declared.Outcome.TheVariants as O

-- an answer as 01 prints it
pub record Told : Type 0 where
  pub answer : ℕ
  pub position : ℕ
  pub count : ℕ

-- the number of a refusal
unfoldable pub number : Kind → ℕ
number K.Choice = 1
number (K.TooLong p) = 2
number (K.NoRoom p) = 3
number (K.Foreign p) = 4
number (K.PadPlace p) = 5
number (K.Spare p) = 6
number (K.AfterPad p) = 7
number (K.Short p) = 8
number K.BadState = 9
number K.Finished = 10

-- the position of a refusal
unfoldable pub position : Kind → ℕ
position K.Choice = 0
position (K.TooLong p) = p.0
position (K.NoRoom p) = p.0
position (K.Foreign p) = p.0
position (K.PadPlace p) = p.0
position (K.Spare p) = p.0
position (K.AfterPad p) = p.0
position (K.Short p) = p.0
position K.BadState = 0
position K.Finished = 0

unfoldable pub told : Outcome → Told
told (O.Accepted p n) = record { answer = 0; position = p.0; count = n.0 }
told (O.Refused k n) = record { answer = number k; position = position k; count = n.0 }
