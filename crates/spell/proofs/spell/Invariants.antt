-- What holds at the loop's head. Assumes nothing.
use Rattle.spell.proofs.Going.{Going}
use Rattle.spell.proofs.spell.Given as goal

abbrev pub invariant-loop-i : goal.invariant-loop-i
invariant-loop-i g l = Going l.alphabet g.row.B l.taken l.held l.piece l.initial.out l.out l.few l.h l.i l.n
