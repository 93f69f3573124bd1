-- `reading::limit` is the limit. Assumes nothing.
use mathlib.Core.Path.{refl}
use Rattle.reading.specs.Limit.{limit}
use Rattle.reading.proofs.limit.Goals as goal

pub returns : goal.returns
unfolding limit
returns c = refl
