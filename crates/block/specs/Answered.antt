-- 01, "Answers": the answer, position and count that a run over a whole text stands for, as the engine returns it. Assumes nothing.
use Rattle.std.specs.Prelude.{ℕ}
use Rattle.answer.specs.Told.{Told}
use Rattle.reading.specs.Reader.{ending}
use Rattle.rule.specs.declared.Core.{Core}
use Rattle.engine.specs.declared.piece.Why.{Why}
use Rattle.engine.specs.declared.piece.Why.TheVariants as W
use Rattle.engine.specs.declared.piece.Ran.{Ran}
use Rattle.rule.specs.Meaning.{state_of, number}
use Rattle.block.specs.Whole.{choice, no_room}

-- all is read: the answer at the end; a byte is refused: the kind; the room is full: 3; the choice is none: 1
unfoldable pub answered_by : ℕ → ℕ → Core → ℕ → Why → Told
answered_by a opts k n W.All = record { answer = ending a opts (state_of k); position = k.taken; count = n }
answered_by a opts k n (W.Refused c) = record { answer = number c; position = k.taken; count = n }
answered_by a opts k n W.Full = no_room n
answered_by a opts k n W.Unfit = choice

abbrev pub answered : ℕ → ℕ → Ran → Told
answered a opts r = answered_by a opts r.core r.wrote r.why
