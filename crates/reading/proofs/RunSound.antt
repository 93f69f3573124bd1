-- A run over a piece keeps the state's numbers fitting together. Assumes nothing.
use Prim.Native.Nat.{ℕ, zero, suc, ◌<◌}
use mathlib.Core.List.{List, [], ◌∷◌}
use Rattle.reading.specs.Reader.{State, Step, takes, gives, refuses, step}
use Rattle.reading.specs.Sound.{Sound}
use Rattle.reading.specs.Piece.{on_step, run}
use Rattle.reading.proofs.StepLaws.{Keeps, keeps}

module _ (a opts : ℕ) (h : a < 6) where
  pub run_sound : (piece : List ℕ) (s : State) (room : ℕ) → Sound a s → Sound a (run a opts piece s room).state
  unfolding run on_step
  run_sound [] s room f = f
  run_sound (c ∷ cs) s room f = go (step a opts s c) room (keeps a h s f opts c) (λ n m g. run_sound cs n m g)
    where
      go : (t : Step) (room : ℕ) → Keeps a s t → ((n : State) (m : ℕ) → Sound a n → Sound a (run a opts cs n m).state)
          → Sound a (on_step s t (λ n. run a opts cs n room) room (λ n r. run a opts cs n r)).state
      go (takes n) room k rec = rec n room k.sound
      go (gives x n) zero k rec = f
      go (gives x n) (suc room) k rec = rec n room k.0.sound
      go (refuses j) room k rec = f
