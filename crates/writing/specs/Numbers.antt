-- 01, "Answers": the answer, the position and the count of a writer's step and finish, in the paper's numbers. Assumes nothing.
use Rattle.std.specs.Prelude.{ℕ, ◌+◌, cond, List, ltb, length}
use Rattle.answer.specs.Told.{Told}
use Rattle.spelling.specs.Front.{ending}
use Rattle.spelling.specs.Whole.{numbers}
use Rattle.writing.specs.Stream.{sound, ran_of}
use Rattle.spelling.specs.declared.Why.{Why}
use Rattle.spelling.specs.declared.Why.TheVariants as W
use Rattle.writing.specs.declared.Status.{Status}
use Rattle.writing.specs.declared.Status.TheVariants as U
use Rattle.writing.specs.declared.Writer.{Writer}

-- 0: the whole piece taken, all bytes taken so far; 2: the source byte refused; 3: the next untaken byte
unfoldable pub why_numbers : Why → ℕ → ℕ → Told
why_numbers W.All n count = numbers 0 n count
why_numbers W.Limit n count = numbers 2 n count
why_numbers W.Room n count = numbers 3 n count

-- 10, then the earlier refusal with the same position
unfoldable pub status_numbers : Status → ℕ → Told → Told
status_numbers U.Open n t = t
status_numbers U.TooLong n t = numbers 2 n 0
status_numbers U.Done n t = numbers 10 0 0

-- 9 before all
unfoldable pub in_order_numbers : Writer → Told → Told
in_order_numbers s t = cond (sound s) (status_numbers s.status s.taken t) (numbers 9 0 0)

unfoldable pub step_numbers : Writer → List ℕ → ℕ → Told
step_numbers s piece room =
    in_order_numbers s (why_numbers (ran_of s piece room).why (s.taken + (ran_of s piece room).took) (length (ran_of s piece room).wrote))

-- a finish: 3 where the last digit and the pads do not all fit; the position is all bytes taken
unfoldable pub close_numbers : Writer → List ℕ → ℕ → Told
close_numbers s text room = cond (ltb room (length text)) (numbers 3 s.taken 0) (numbers 0 s.taken (length text))

unfoldable pub finish_numbers : Writer → ℕ → Told
finish_numbers s room = in_order_numbers s (close_numbers s (ending s.alphabet s.taken s.held) room)
