-- `reader::read`: the choice is none, or the room lacks. Assumes nothing.
use mathlib.Core.Path.{sym, ◌∙◌}
use Rattle.block.proofs.ReaderReturns.{declined, lacking}
use Rattle.block.proofs.reader.read.Goals as goal

pub returns-then-not-allowed : goal.returns-then-not-allowed
returns-then-not-allowed c = declined _ _ _ _ (sym c.allowed.ensures ∙ c.if-not-allowed.true)

pub returns-then-out-need : goal.returns-then-out-need
returns-then-out-need c = lacking _ _ _ _ (sym c.allowed.ensures ∙ c.if-not-allowed.false) c.needed-need.ensures c.if-out-need.true
