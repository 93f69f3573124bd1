-- `reading`: the judge's count is asked of the room. Assumes nothing.
-- the count is the judge's
use mathlib.Core.Path.{sym, ap, ◌∙◌}
use Rattle.answer.specs.Told.{Told}
use Rattle.answer.proofs.ToldCases.{told_room}
use Rattle.block.specs.Whole.{no_room}
use Rattle.block.proofs.RoomByJudge.{read_past_room, read_in_room}
use Rattle.panel.proofs.reading.Goals as goal

pub returns-then-room-good : goal.returns-then-room-good
returns-then-room-good c =
    told_room _ _ ∙ ap no_room ((c.count-good.ensures ∙ ap (λ (t : Told). t.count) c.judge-judged.ensures.is)) ∙ sym
    (read_past_room _ _ _ _ (rw ((c.count-good.ensures ∙ ap (λ (t : Told). t.count) c.judge-judged.ensures.is)) at c.if-room-good.true))

pub returns : goal.returns
returns c =
    c.judge-judged.ensures.is ∙ sym
    (read_in_room _ _ _ _ (rw ((c.count-good.ensures ∙ ap (λ (t : Told). t.count) c.judge-judged.ensures.is)) at c.if-room-good.false))
