-- A mask of n bits keeps the n low bits. Assumes nothing.
use borrow.Author.Rules.{rules}
use Rattle.regroup.proofs.Shifts.{masked}
use Rattle.regroup.proofs.low.Goals as goal

pub returns : goal.returns
returns c = masked c.args.z c.args.n (search rules)
