-- A step: what an open writer gives, or the refusal that each call gives. Assumes nothing.
use Rattle.writing.proofs.Promises.{step_open, step_shut}
use Rattle.writing.proofs.Writer.step.Goals as goal

pub returns-in-Ok : goal.returns-in-Ok
returns-in-Ok c = step_open _ _ _ c.in-Ok.ensures c.step.ensures

pub returns-in-Err : goal.returns-in-Err
returns-in-Err c = step_shut _ _ _ c.in-Err.ensures c.unmoved.ensures
