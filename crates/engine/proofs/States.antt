-- What a run from a ready state is in the definitions of `reading`, for the streams above it. Assumes nothing.
use Prim.Native.Nat.{ℕ}
use mathlib.Core.Path.{◌≡◌}
use mathlib.Core.Bool.{true}
use mathlib.Core.List.{List}
use Rattle.reading.specs.Piece.{run_piece}
use Rattle.rule.specs.declared.Core.{Core}
use Rattle.rule.specs.Meaning.{state_of}
use Rattle.rule.specs.State.{ready}
use Rattle.engine.specs.Ran.{ran_as, run_as, run_bytes}

module _ (a opts : ℕ) (k : Core) (e : ready a opts k ≡ true) (piece : List ℕ) (room : ℕ) where
  pub ready_runs : run_as a opts k piece room ≡ ran_as (run_piece a opts piece (state_of k) room)
  unfolding run_as
  ready_runs = rw e

  pub ready_bytes : run_bytes a opts k piece room ≡ (run_piece a opts piece (state_of k) room).wrote
  unfolding run_bytes
  ready_bytes = rw e
