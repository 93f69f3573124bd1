-- What a run over a piece did is what the reader's rule does: it took and gave what feeding takes and gives, and stopped at the piece's end, at a
-- refused byte, or at a byte that needs room. Over any state, and any bytes handed out before. Assumes nothing.
use Prim.Native.Nat.{ℕ, zero, suc, ◌+◌, ◌<◌, ◌≤◌}
use mathlib.Core.Path.{◌≡◌, refl, sym, ap, ◌∙◌}
use mathlib.Core.List.{List, [], ◌∷◌, ◌++◌, append_assoc, append-nil}
use native.Mathlib.Nat.{add-zero}
use native.Mathlib.Numerals.{one-add}
use native.Mathlib.Omega.{arith}
use lib.ListN.{length, take, drop, get_or, length-append}
use lib.Seq.{take-length, split_at}
use Rattle.reading.specs.Continuation.{Begins}
use Rattle.reading.specs.Reader.{State, Step, gives, refuses, Reading, going, stopped, step, follow, feed, feed_all}
use Rattle.reading.specs.Piece.{Why, all, refused, full, Ran, stop, after, on_step, run}
use Rattle.reading.proofs.Seen.{feed_append, feed_stopped}
use Rattle.reading.proofs.Positions.{Moves, took, gave, blamed, step_moves, given}
use Rattle.reading.proofs.Shared.{reading_adds}

-- the byte c would complete a byte
pub record NeedsRoom (a opts : ℕ) (s : State) (c : ℕ) : Type 0 where
  pub byte : ℕ
  pub next : State
  pub step_gives : step a opts s c ≡ gives byte next

-- what a run r over the piece did, from the state s with room for so many bytes, where the bytes out were handed out before
pub record RunFeeds (a opts : ℕ) (piece : List ℕ) (s : State) (room : ℕ) (out : List ℕ) (r : Ran) : Type 0 where
  pub took_in : r.took ≤ length piece
  pub wrote_in : length r.wrote ≤ room
  pub taken : r.state.taken ≡ s.taken + r.took
  pub so_far : feed_all a opts (going s out) (take r.took piece) ≡ going r.state (out ++ r.wrote)
  pub all_took : r.why ≡ all → r.took ≡ length piece
  pub refused_inside : (k : ℕ) → r.why ≡ refused k → r.took < length piece
  pub refused_step : (k : ℕ) → r.why ≡ refused k → step a opts r.state (get_or piece r.took 0) ≡ refuses k
  pub full_inside : r.why ≡ full → r.took < length piece
  pub full_room : r.why ≡ full → length r.wrote ≡ room
  pub full_step : r.why ≡ full → NeedsRoom a opts r.state (get_or piece r.took 0)

pub all_full : all ≡ full → ⊥
all_full e = let z : ◌≡◌ {A = ℕ} 0 1 = cc in omega arith

pub all_refused : {k : ℕ} → all ≡ refused k → ⊥
all_refused e = let z : ◌≡◌ {A = ℕ} 0 1 = cc in omega arith

pub full_refused : {k : ℕ} → full ≡ refused k → ⊥
full_refused e = let z : ◌≡◌ {A = ℕ} 0 1 = cc in omega arith

pub refused_same : {j k : ℕ} → refused j ≡ refused k → j ≡ k
refused_same e = cc

module _ (a opts : ℕ) where
  -- one byte taken, and then a run over the rest
  taken_then : (c : ℕ) (cs : List ℕ) (s n : State) (room left : ℕ) (out w : List ℕ) (r : Ran) → feed a opts (going s out) c ≡ going n (out ++ w)
      → n.taken ≡ s.taken + 1 → length w + left ≡ room → RunFeeds a opts cs n left (out ++ w) r → RunFeeds a opts (c ∷ cs) s room out (after 1 w r)
  unfolding feed_all
  taken_then c cs s n room left out w r f m e x =
      record {
        took_in = omega (arith, x.took_in);
        wrote_in = simp length-append (omega (arith, x.wrote_in));
        taken = omega (arith, x.taken);
        so_far =
            ap (λ (k : ℕ). feed_all a opts (going s out) (take k (c ∷ cs))) (one-add r.took)
            ∙ ap (λ (z : Reading). feed_all a opts z (take r.took cs)) f
            ∙ x.so_far
            ∙ ap (going r.state) (append_assoc out w r.wrote);
        all_took = λ y. omega (arith, x.all_took y);
        refused_inside = λ k y. omega (arith, x.refused_inside k y);
        refused_step = λ k y. rw (one-add r.took) (x.refused_step k y);
        full_inside = λ y. omega (arith, x.full_inside y);
        full_room = λ y. simp length-append (omega (arith, x.full_room y));
        full_step = λ y. rw (one-add r.took) (x.full_step y);
      }

  -- no byte taken
  stopped_here : (piece : List ℕ) (s : State) (room : ℕ) (out : List ℕ) (w : Why) → (w ≡ all → 0 ≡ length piece)
      → ((k : ℕ) → w ≡ refused k → (0 < length piece) × (step a opts s (get_or piece 0 0) ≡ refuses k))
      → (w ≡ full → (0 < length piece) × ((0 ≡ room) × NeedsRoom a opts s (get_or piece 0 0))) → RunFeeds a opts piece s room out (stop s w)
  unfolding feed_all
  stopped_here piece s room out w p q x =
      record {
        took_in = omega arith;
        wrote_in = omega arith;
        taken = sym (add-zero s.taken);
        so_far = ap (going s) (sym (append-nil out));
        all_took = p;
        refused_inside = λ k y. (q k y).0;
        refused_step = λ k y. (q k y).1;
        full_inside = λ y. (x y).0;
        full_room = λ y. (x y).1.0;
        full_step = λ y. (x y).1.1;
      }

  pub run_feeds : (piece : List ℕ) (s : State) (room : ℕ) (out : List ℕ) → RunFeeds a opts piece s room out (run a opts piece s room)
  unfolding run on_step feed follow
  run_feeds [] s room out = stopped_here [] s room out all (λ e. refl) (λ k e. absurd (all_refused e)) (λ e. absurd (all_full e))
  run_feeds (c ∷ cs) s room out = go (step_moves a opts s c) refl room (λ n m o. run_feeds cs n m o)
    where
      go : {x : Step} → Moves s x → step a opts s c ≡ x → (room : ℕ)
          → ((n : State) (m : ℕ) (o : List ℕ) → RunFeeds a opts cs n m o (run a opts cs n m))
          → RunFeeds a opts (c ∷ cs) s room out (on_step s (step a opts s c) (λ n. run a opts cs n room) room (λ n r. run a opts cs n r))
      go (took {n} m) f room rec =
          rw f
          (taken_then c cs s n room room out [] (run a opts cs n room) (ap (follow s out) f ∙ ap (going n) (sym (append-nil out))) m (omega arith)
          (rw append-nil (rec n room out)))
      go (gave {x} {n} m) f zero rec =
          rw f
          (stopped_here (c ∷ cs) s 0 out full (λ e. absurd (all_full (sym e))) (λ k e. absurd (full_refused e))
          (λ e. (omega arith, (refl, record { byte = x; next = n; step_gives = f }))))
      go (gave {x} {n} m) f (suc room) rec =
          rw f (taken_then c cs s n (suc room) room out (x ∷ []) (run a opts cs n room) (ap (follow s out) f) m (omega arith) (rec n room (out ++ x ∷ [])))
      go (blamed {k = j} l m) f room rec =
          rw f
          (stopped_here (c ∷ cs) s room out (refused j) (λ e. absurd (all_refused (sym e))) (λ k e. (omega arith, f ∙ ap refuses (refused_same e)))
          (λ e. absurd (full_refused (sym e))))

  module _ (piece : List ℕ) (s : State) (room : ℕ) (out : List ℕ) where
    -- the piece is all taken: this is what feeding it does
    pub all_feeds : (run a opts piece s room).why ≡ all → feed_all a opts (going s out) piece ≡ going (run a opts piece s room).state (out ++ (run a opts piece s room).wrote)
    all_feeds e =
        let x : RunFeeds a opts piece s room out (run a opts piece s room) = run_feeds piece s room out in
        ap (feed_all a opts (going s out)) (sym (take-length piece) ∙ ap (λ (n : ℕ). take n piece) (sym (x.all_took e))) ∙ x.so_far

    -- the piece's byte after those taken, and the rest
    feeds_next : (run a opts piece s room).took < length piece
        → feed_all a opts (going s out) piece
        ≡ feed_all a opts (feed a opts (going (run a opts piece s room).state (out ++ (run a opts piece s room).wrote)) (get_or piece (run a opts piece s room).took 0)) (drop (suc (run a opts piece s room).took) piece)
    unfolding feed_all
    feeds_next l =
        let n : ℕ = (run a opts piece s room).took in
        let rest : List ℕ = get_or piece n 0 ∷ drop (suc n) piece in
        ap (feed_all a opts (going s out)) (split_at piece n 0 l)
        ∙ feed_append a opts (going s out) (take n piece) rest
        ∙ ap (λ (z : Reading). feed_all a opts z rest) (run_feeds piece s room out).so_far

    -- a byte is refused: so does feeding, there
    pub refused_feeds : (k : ℕ) → (run a opts piece s room).why ≡ refused k
        → feed_all a opts (going s out) piece ≡ stopped k (run a opts piece s room).state.taken (out ++ (run a opts piece s room).wrote)
    unfolding feed follow
    refused_feeds k e =
        let x : RunFeeds a opts piece s room out (run a opts piece s room) = run_feeds piece s room out in
        feeds_next (x.refused_inside k e) ∙ rw (x.refused_step k e) (feed_stopped a opts k _ _ _)

    -- with room for all that feeding gives, room never lacks
    pub room_enough : length (given (feed_all a opts (going s out) piece)) ≤ length out + room → (run a opts piece s room).why ≡ full → ⊥
    unfolding feed follow
    room_enough l e =
        let x : RunFeeds a opts piece s room out (run a opts piece s room) = run_feeds piece s room out in
        let y : NeedsRoom a opts (run a opts piece s room).state (get_or piece (run a opts piece s room).took 0) = x.full_step e in
        let w : List ℕ = out ++ (run a opts piece s room).wrote in
        let on : Begins (w ++ y.byte ∷ []) (given (feed_all a opts (going s out) piece)) =
        rw (feeds_next (x.full_inside e), y.step_gives)
        (reading_adds a opts (going y.next (w ++ y.byte ∷ [])) (drop (suc (run a opts piece s room).took) piece)) in
        omega (arith, x.full_room e, simp length-append at (ap length on.whole_is))
