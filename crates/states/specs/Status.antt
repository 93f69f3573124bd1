-- What a reader's status stands for. Assumes nothing.
use Rattle.rule.specs.Meaning.{number}
use Rattle.streaming.specs.Stream as S
use Rattle.states.specs.declared.Status.{Status}
use Rattle.states.specs.declared.Status.TheVariants as U

unfoldable pub status_of : Status → S.Status
status_of U.Open = S.live
status_of (U.Shut c) = S.shut (number c)
status_of U.Done = S.done
