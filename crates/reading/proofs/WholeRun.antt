-- A run over a whole text, by why it stopped: what the verdict is then, and that with room for the good bytes it never stops for want of room.
-- Assumes nothing.
use Prim.Native.Nat.{ℕ, ◌≤◌}
use mathlib.Core.Path.{◌≡◌, refl, sym, ◌∙◌}
use mathlib.Core.Logic.{◌⊎◌, inl, inr}
use mathlib.Core.Bool.{Bool, true, false}
use mathlib.Core.List.{List, []}
use native.Mathlib.Omega.{arith}
use lib.Dec.{eqb}
use lib.ListN.{length}
use borrow.Author.Tests.{eqb-true, eqb-false}
use Rattle.reading.specs.Reader.{going, fresh, feed_all, ending, judged}
use Rattle.reading.specs.Piece.{all, refused, full, run_piece, answer_of, verdict_of}
use Rattle.reading.proofs.Fronts.{read}
use Rattle.reading.proofs.PieceLaws.{all_full, full_refused}
use Rattle.reading.proofs.Positions.{refuses_range}
use Rattle.reading.proofs.PieceLimit.{piece_feeds}
use Rattle.reading.proofs.PieceJudged.{piece_means, run_judges, room_lacks}

module _ (a opts : ℕ) (t : List ℕ) (room : ℕ) where
  pub never_full : length (judged a opts t).good ≤ room → (run_piece a opts t fresh room).why ≡ full → ⊥
  never_full l e = omega (arith, (room_lacks a opts t room).0 e)

  pub all_verdict : (run_piece a opts t fresh room).why ≡ all
      → judged a opts t
      ≡ record { answer = ending a opts (run_piece a opts t fresh room).state; position = (run_piece a opts t fresh room).state.taken; good = (run_piece a opts t fresh room).wrote }
  unfolding verdict_of answer_of
  all_verdict e = run_judges a opts t room (λ f. all_full (sym e ∙ f)) ∙ rw e

  pub refused_verdict : (k : ℕ) → (run_piece a opts t fresh room).why ≡ refused k
      → judged a opts t ≡ record { answer = k; position = (run_piece a opts t fresh room).state.taken; good = (run_piece a opts t fresh room).wrote }
  unfolding verdict_of answer_of
  refused_verdict k e = run_judges a opts t room (λ f. full_refused (sym f ∙ e)) ∙ rw e

  -- the answers of a refused byte
  pub refused_range : (k : ℕ) → (run_piece a opts t fresh room).why ≡ refused k → (k ≡ 2) ⊎ ((4 ≤ k) × (k ≤ 8))
  refused_range k e = go (eqb k 2) refl
    where
      go : (x : Bool) → eqb k 2 ≡ x → (k ≡ 2) ⊎ ((4 ≤ k) × (k ≤ 8))
      go true f = inl (eqb-true k 2 f)
      go false f =
          let r = refuses_range a opts _ _ k ((piece_feeds a opts t fresh room [] (omega arith)).refused_step k e (eqb-false k 2 f)) in
          inr (r.0, omega arith)

  -- all of it is read, into the run's state
  pub all_read : (run_piece a opts t fresh room).why ≡ all → read a opts t ≡ going (run_piece a opts t fresh room).state (run_piece a opts t fresh room).wrote
  unfolding feed_all
  all_read e = (piece_means a opts [] fresh [] refl (omega arith) t room).all_reads e
