-- A finish: what an open writer gives, or the refusal that each call gives. Assumes nothing.
use mathlib.Core.List.{[]}
use Rattle.writing.proofs.Promises.{finish_open, finish_shut}
use Rattle.writing.proofs.Writer.finish.Goals as goal

pub returns-in-Ok : goal.returns-in-Ok
returns-in-Ok c = finish_open _ [] _ c.in-Ok.ensures c.finish.ensures

pub returns-in-Err : goal.returns-in-Err
returns-in-Err c = finish_shut _ [] _ c.in-Err.ensures c.unmoved.ensures
