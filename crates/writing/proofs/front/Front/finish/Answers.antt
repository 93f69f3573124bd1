-- The finish of an open writer: the last digit and the pads if they all fit. Assumes nothing.
use Rattle.writing.proofs.Promises.{closed_short, closed_done}
use Rattle.writing.proofs.front.Front.finish.Goals as goal

pub returns-then-out-need : goal.returns-then-out-need
returns-then-out-need c = closed_short _ _ _ _ c.ending_len-need.ensures _ c.if-out-need.true (rw c.opened.ensures at c.unmoved.ensures)

pub returns : goal.returns
returns c =
    closed_done _ _ _ _ c.ending_len-need.ensures _ _ c.if-out-need.false c.put_ending.ensures (rw c.opened-2.ensures)
