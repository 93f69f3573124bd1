-- A run's answer as a step's. Assumes nothing.
use mathlib.Core.Path.{refl}
use Rattle.spelling.specs.declared.Why.TheVariants as W
use Rattle.writing.proofs.Promises.{moved}
use Rattle.writing.proofs.front.Front.step.Goals as goal

pub returns-in-All : goal.returns-in-All
returns-in-All c = moved _ _ _ _ _ W.All c.run-ran.ensures c.in-All.is refl

pub returns-in-Room : goal.returns-in-Room
returns-in-Room c = moved _ _ _ _ _ W.Room c.run-ran.ensures c.in-Room.is refl

pub returns-in-Limit : goal.returns-in-Limit
returns-in-Limit c = moved _ _ _ _ _ W.Limit c.run-ran.ensures c.in-Limit.is refl
