-- A text read in pieces: what the pieces gave, and the answer at the end or at the refused byte, are those of the whole text's verdict. Assumes nothing.
use Prim.Native.Nat.{ℕ, suc, ◌+◌, ◌-◌, ◌<◌, ◌≤◌}
use mathlib.Core.Path.{◌≡◌, ap, ◌∙◌}
use mathlib.Core.Bool.{Bool, true, false, cond}
use mathlib.Core.List.{List, [], ◌∷◌, ◌++◌}
use native.Mathlib.Omega.{arith}
use lib.Dec.{leb}
use lib.ListN.{length, take, length-append}
use lib.Seq.{take_at, take-append-add}
use borrow.Author.Tests.{le-leb, lt-leb}
use Rattle.reading.specs.Limit.{limit}
use Rattle.reading.specs.Reader.{State, refuses, Reading, going, stopped, fresh, step, ending, follow, feed, feed_all, finish, read_all, at_limit, judged}
use Rattle.reading.proofs.Seen.{feed_append, feed_stopped}
use Rattle.reading.proofs.Positions.{going_taken}
use Rattle.reading.proofs.Fronts.{read}

module _ (a opts : ℕ) where
  pub taken_all : (t : List ℕ) (s : State) (out : List ℕ) → read a opts t ≡ going s out → s.taken ≡ length t
  taken_all t s out e = going_taken a opts fresh s [] out t e ∙ omega arith

  -- what a run over a piece took is read after the text before it
  pub reads_on : (t u : List ℕ) (s n : State) (out w : List ℕ) → read a opts t ≡ going s out → feed_all a opts (going s out) u ≡ going n w → read a opts (t ++ u) ≡ going n w
  reads_on t u s n out w e f = feed_append a opts (going fresh []) t u ∙ ap (λ (r : Reading). feed_all a opts r u) e ∙ f

  -- a text that is read to its end
  pub judged_end : (t : List ℕ) (s : State) (out : List ℕ) → read a opts t ≡ going s out → length t ≤ limit
      → judged a opts t ≡ record { answer = ending a opts s; position = s.taken; good = out }
  unfolding judged read_all finish
  judged_end t s out e l = rw (le-leb (length t) limit l, e)

  -- a byte is refused, whatever follows
  stops_at : (t : List ℕ) (c : ℕ) (u : List ℕ) (s : State) (out : List ℕ) (k : ℕ) → read a opts t ≡ going s out → step a opts s c ≡ refuses k
      → read a opts (t ++ c ∷ u) ≡ stopped k s.taken out
  unfolding feed_all feed follow
  stops_at t c u s out k e f =
      feed_append a opts (going fresh []) t (c ∷ u) ∙ ap (λ (r : Reading). feed_all a opts r (c ∷ u)) e ∙ rw f (feed_stopped a opts k s.taken out u)

  pub judged_refused : (t : List ℕ) (c : ℕ) (u : List ℕ) (s : State) (out : List ℕ) (k : ℕ) → read a opts t ≡ going s out → step a opts s c ≡ refuses k → length t < limit
      → judged a opts (t ++ c ∷ u) ≡ record { answer = k; position = s.taken; good = out }
  unfolding judged read_all finish at_limit
  judged_refused t c u s out k e f l = go (leb (length (t ++ c ∷ u)) limit)
    where
      m : ℕ
      m = limit - length t - 1

      front : take limit (t ++ c ∷ u) ≡ t ++ c ∷ take m u
      front = let q : limit ≡ length t + suc m = omega arith in ap (λ (n : ℕ). take n (t ++ c ∷ u)) q ∙ take-append-add t (c ∷ u) (suc m)

      go : (x : Bool) → cond x (read_all a opts (t ++ c ∷ u)) (at_limit (read a opts (take limit (t ++ c ∷ u)))) ≡ record { answer = k; position = s.taken; good = out }
      go true = ap (finish a opts) (stops_at t c u s out k e f)
      go false = ap (λ (w : List ℕ). at_limit (read a opts w)) front ∙ ap at_limit (stops_at t c (take m u) s out k e f)

  -- a byte at the limit is refused, whatever it is
  pub judged_past : (t : List ℕ) (c : ℕ) (u : List ℕ) (s : State) (out : List ℕ) → read a opts t ≡ going s out → length t ≡ limit
      → judged a opts (t ++ c ∷ u) ≡ record { answer = 2; position = limit; good = out }
  unfolding judged at_limit
  judged_past t c u s out e l = rw (lt-leb (length (t ++ c ∷ u)) limit (omega (arith, length-append t (c ∷ u))), take_at t (c ∷ u) limit l, e)
