use lib.ListN.{length}
use Rattle.engine.proofs.Reaching.{left}
use Rattle.engine.proofs.InParts.{Settled}
use Rattle.engine.proofs.rules.Rules.settle.Given as goal

abbrev pub invariant-loop-i : goal.invariant-loop-i
invariant-loop-i l = Settled l.self.choice.alphabet l.self.choice.options l.initial.buf l.fn.start l.buf l.s

abbrev pub decreases-loop-i : goal.decreases-loop-i
decreases-loop-i l = left l.s.why l.s.took (length l.initial.buf)
