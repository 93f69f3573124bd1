-- `measure::measure`: the answer by the size of the form. Assumes nothing.
use mathlib.Core.Path.{sym, ap, ◌∙◌}
use Rattle.std.proofs.Common.{Err}
use borrow.Author.Tests.{lt-ltb, le-ltb}
use Rattle.answer.proofs.ToldCases.{told_accepted, told_choice, told_long, told_room}
use Rattle.spelling.specs.Size.{fitting_numbers}
use Rattle.spelling.proofs.MeasureLaws.{told_by_size}
use Rattle.spelling.proofs.measure.measure.Goals as goal

pub returns-in-Err-Unknown : goal.returns-in-Err-Unknown
returns-in-Err-Unknown c =
    told_choice _ ∙ told_by_size _ _ _ (sym c.size_of.ensures ∙ c.in-Err-Unknown.is ∙ ap Err c.in-Err-Unknown.field-0-is)

pub returns-in-Err-TooLong : goal.returns-in-Err-TooLong
returns-in-Err-TooLong c =
    told_long _ _ ∙ told_by_size _ _ _ (sym c.size_of.ensures ∙ c.in-Err-TooLong.is ∙ ap Err c.in-Err-TooLong.field-0-is)

pub returns-in-Ok : goal.returns-in-Ok
unfolding fitting_numbers
returns-in-Ok c =
    told_room _ _ ∙ rw (lt-ltb _ _ c.if-room-need.true) at (told_by_size _ _ c.args.room (sym c.size_of.ensures ∙ c.in-Ok.is))

pub returns-in-Ok-2 : goal.returns-in-Ok-2
unfolding fitting_numbers
returns-in-Ok-2 c =
    told_accepted _ _ ∙ rw (le-ltb _ _ c.if-room-need.false) at (told_by_size _ _ c.args.room (sym c.size_of.ensures ∙ c.in-Ok.is))
