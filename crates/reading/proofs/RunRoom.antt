-- A run does not depend on its room where there is room for a byte for each byte of the piece. Assumes nothing.
use Prim.Native.Nat.{ℕ, zero, suc, ◌≤◌}
use mathlib.Core.Path.{◌≡◌, refl, ap}
use mathlib.Core.List.{List, [], ◌∷◌}
use native.Mathlib.Omega.{arith}
use lib.ListN.{length}
use Rattle.reading.specs.Reader.{State, Step, takes, gives, refuses, step}
use Rattle.reading.specs.Piece.{Ran, after, on_step, run}

module _ (a opts : ℕ) where
  pub run_room : (piece : List ℕ) (s : State) (room other : ℕ) → length piece ≤ room → length piece ≤ other → run a opts piece s room ≡ run a opts piece s other
  unfolding run on_step
  run_room [] s room other h l = refl
  run_room (c ∷ cs) s room other h l = go (λ n room other h l. run_room cs n room other h l) (step a opts s c) room other h l
    where
      go : ((n : State) (room other : ℕ) → length cs ≤ room → length cs ≤ other → run a opts cs n room ≡ run a opts cs n other) → (t : Step) (room other : ℕ) → suc (length cs) ≤ room → suc (length cs) ≤ other
          → on_step s t (λ n. run a opts cs n room) room (λ n r. run a opts cs n r) ≡ on_step s t (λ n. run a opts cs n other) other (λ n r. run a opts cs n r)
      go f (takes n) room other h l = ap (λ (r : Ran). after 1 [] r) (f n room other (omega arith) (omega arith))
      go f (gives x n) zero other h l = absurd (omega arith)
      go f (gives x n) (suc room) zero h l = absurd (omega arith)
      go f (gives x n) (suc room) (suc other) h l = ap (λ (r : Ran). after 1 (x ∷ []) r) (f n room other (omega arith) (omega arith))
      go f (refuses k) room other h l = refl
