use lib.ListN.{length}
use Rattle.engine.specs.Loop.{Reached}
use Rattle.engine.proofs.Reaching.{left}
use Rattle.engine.proofs.rules.Rules.fill.Given as goal

abbrev pub invariant-loop-i : goal.invariant-loop-i
invariant-loop-i l = Reached l.self.choice.alphabet l.self.choice.options l.fn.start l.piece l.initial.out l.out l.s

abbrev pub decreases-loop-i : goal.decreases-loop-i
decreases-loop-i l = left l.s.why l.s.took (length l.piece)
