-- A shift and a mask are the quotient and the remainder. Assumes nothing.
use Prim.Native.Nat.{◌/◌, ◌^◌}
use native.Mathlib.Omega.{arith}
use Rattle.regroup.proofs.Shifts.{masked}
use Rattle.spell.proofs.value.Goals as goal

pub returns : goal.returns
returns c = masked (c.args.z / 2 ^ c.args.k) c.args.b (omega arith)
