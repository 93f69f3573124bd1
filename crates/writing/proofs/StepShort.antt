-- A step of the writer takes no more than its piece, whatever state it is called on. Assumes nothing.
use Prim.Native.Nat.{ℕ, ◌≤◌}
use mathlib.Core.Bool.{Bool, true, false, cond}
use mathlib.Core.List.{List}
use native.Mathlib.Omega.{arith}
use lib.ListN.{length}
use Rattle.answer.specs.declared.Kind.TheVariants as K
use Rattle.spelling.specs.declared.Why.{Why}
use Rattle.spelling.specs.declared.Why.TheVariants as W
use Rattle.writing.specs.declared.Status.{Status}
use Rattle.writing.specs.declared.Status.TheVariants as U
use Rattle.writing.specs.declared.Writer.{Writer}
use Rattle.writing.specs.Stream.{sound, unmoved, by_why, by_status, in_order, ran_of, step_of}
use Rattle.spelling.proofs.RunLaws.{run_short}

pub step_short : (s : Writer) (piece : List ℕ) (room : ℕ) → (step_of s piece room).took ≤ length piece
unfolding step_of in_order by_status by_why ran_of
step_short s piece room = go (sound s) s.status (ran_of s piece room).why
  where
    short : (ran_of s piece room).took ≤ length piece
    short = run_short s.alphabet s.taken s.held piece room

    go : (x : Bool) (u : Status) (w : Why) → (cond x (by_status u s (by_why w s (ran_of s piece room))) (unmoved s K.BadState)).took ≤ length piece
    go false u w = omega arith
    go true U.Open W.All = short
    go true U.Open W.Limit = short
    go true U.Open W.Room = short
    go true U.TooLong w = omega arith
    go true U.Done w = omega arith
