-- A run over a piece that stops at the limit: it takes and gives what feeding does, never goes past the limit, and refuses with 2 exactly the byte
-- that stands there. Assumes nothing.
use Prim.Native.Nat.{ℕ, ◌+◌, ◌-◌, ◌<◌, ◌≤◌}
use mathlib.Core.Path.{◌≡◌, refl, sym, ap, ◌∙◌, subst}
use mathlib.Core.Bool.{Bool, true, false, cond}
use mathlib.Core.List.{List, ◌++◌}
use native.Mathlib.Omega.{arith}
use lib.Dec.{ltb}
use lib.ListN.{length, take, get_or}
use lib.Seq.{take-take, get_or-take, length-take-le}
use borrow.Author.Tests.{ltb-true, ltb-false}
use Rattle.reading.specs.Limit.{limit}
use Rattle.reading.specs.Reader.{State, refuses, going, step, feed_all}
use Rattle.reading.specs.Piece.{Why, all, refused, full, Ran, run, why_at_limit, at_limit_ran, run_piece}
use Rattle.reading.proofs.Positions.{refuses_range}
use Rattle.reading.proofs.PieceLaws.{NeedsRoom, RunFeeds, run_feeds, all_full, all_refused, full_refused, refused_same}

-- what a run r over the piece did, from the state s with room for so many bytes, where the bytes out were handed out before
pub record PieceFeeds (a opts : ℕ) (piece : List ℕ) (s : State) (room : ℕ) (out : List ℕ) (r : Ran) : Type 0 where
  pub took_in : r.took ≤ length piece
  pub wrote_in : length r.wrote ≤ room
  pub taken : r.state.taken ≡ s.taken + r.took
  pub in_limit : r.state.taken ≤ limit
  pub so_far : feed_all a opts (going s out) (take r.took piece) ≡ going r.state (out ++ r.wrote)
  pub all_took : r.why ≡ all → r.took ≡ length piece
  pub refused_inside : (k : ℕ) → r.why ≡ refused k → r.took < length piece
  pub two_at : r.why ≡ refused 2 → r.state.taken ≡ limit
  pub two_when : r.state.taken ≡ limit → r.took < length piece → r.why ≡ refused 2
  pub refused_step : (k : ℕ) → r.why ≡ refused k → (k ≡ 2 → ⊥) → step a opts r.state (get_or piece r.took 0) ≡ refuses k
  pub refused_before : (k : ℕ) → r.why ≡ refused k → (k ≡ 2 → ⊥) → r.state.taken < limit
  pub full_inside : r.why ≡ full → r.took < length piece
  pub full_before : r.why ≡ full → r.state.taken < limit
  pub full_room : r.why ≡ full → length r.wrote ≡ room
  pub full_step : r.why ≡ full → NeedsRoom a opts r.state (get_or piece r.took 0)

-- ---- why, at the limit

pub not_all : (w : Why) → why_at_limit w ≡ all → ⊥
unfolding why_at_limit
not_all all e = all_refused (sym e)
not_all (refused k) e = all_refused (sym e)
not_all full e = all_full (sym e)

was_full : (w : Why) → why_at_limit w ≡ full → w ≡ full
unfolding why_at_limit
was_full all e = absurd (full_refused (sym e))
was_full (refused k) e = e
was_full full e = refl

was_refused : (w : Why) (k : ℕ) → why_at_limit w ≡ refused k → (k ≡ 2 → ⊥) → w ≡ refused k
unfolding why_at_limit
was_refused all k e n = absurd (n (sym (refused_same e)))
was_refused (refused j) k e n = e
was_refused full k e n = e

was_all : (w : Why) → (w ≡ refused 2 → ⊥) → why_at_limit w ≡ refused 2 → w ≡ all
unfolding why_at_limit
was_all all n e = refl
was_all (refused k) n e = absurd (n e)
was_all full n e = absurd (full_refused e)

is_two : (w : Why) → ((k : ℕ) → w ≡ refused k → ⊥) → (w ≡ full → ⊥) → why_at_limit w ≡ refused 2
unfolding why_at_limit
is_two all n m = refl
is_two (refused k) n m = absurd (n k refl)
is_two full n m = absurd (m refl)

-- ---- the run

module _ (a opts : ℕ) (piece : List ℕ) (s : State) (room : ℕ) (out : List ℕ) (h : s.taken ≤ limit) where
  -- the limit lies past the piece
  before_limit : length piece ≤ limit - s.taken → PieceFeeds a opts piece s room out (run a opts piece s room)
  before_limit l =
      let x : RunFeeds a opts piece s room out (run a opts piece s room) = run_feeds a opts piece s room out in
      record {
        took_in = x.took_in;
        wrote_in = x.wrote_in;
        taken = x.taken;
        in_limit = omega (arith, x.taken, x.took_in);
        so_far = x.so_far;
        all_took = x.all_took;
        refused_inside = x.refused_inside;
        two_at = λ e. absurd (omega (arith, refuses_range a opts _ _ 2 (x.refused_step 2 e)));
        two_when = λ e i. absurd (omega (arith, x.taken));
        refused_step = λ k e n. x.refused_step k e;
        refused_before = λ k e n. omega (arith, x.taken, x.refused_inside k e);
        full_inside = x.full_inside;
        full_before = λ e. omega (arith, x.taken, x.full_inside e);
        full_room = x.full_room;
        full_step = x.full_step;
      }

  -- the limit lies in the piece: the run is over the front before it
  to_limit : limit - s.taken < length piece → PieceFeeds a opts piece s room out (at_limit_ran (run a opts (take (limit - s.taken) piece) s room))
  unfolding at_limit_ran
  to_limit l =
      let left : ℕ = limit - s.taken in
      let front : List ℕ = take left piece in
      let q : Ran = run a opts front s room in
      let x : RunFeeds a opts front s room out q = run_feeds a opts front s room out in
      let size : length front ≡ left = length-take-le left piece (omega arith) in
      let inside : q.took ≤ left = omega (arith, x.took_in, size) in
      let next : q.took < left → get_or front q.took 0 ≡ get_or piece q.took 0 = λ i. get_or-take left piece q.took 0 i in
      record {
        took_in = omega arith;
        wrote_in = x.wrote_in;
        taken = x.taken;
        in_limit = omega (arith, x.taken);
        so_far = rw (take-take q.took left piece inside) at x.so_far;
        all_took = λ e. absurd (not_all q.why e);
        refused_inside = λ k e. omega arith;
        two_at = λ e. omega (arith, x.taken, x.all_took (was_all q.why (λ y. omega (arith, refuses_range a opts _ _ 2 (x.refused_step 2 y))) e), size);
        two_when =
            λ e i. is_two q.why (λ k y. omega (arith, x.taken, x.refused_inside k y, size)) (λ y. omega (arith, x.taken, x.full_inside y, size));
        refused_step =
            λ k e n. let y : q.why ≡ refused k = was_refused q.why k e n in
            ap (step a opts q.state) (sym (next (omega (arith, x.refused_inside k y, size)))) ∙ x.refused_step k y;
        refused_before = λ k e n. omega (arith, x.taken, x.refused_inside k (was_refused q.why k e n), size);
        full_inside = λ e. omega arith;
        full_before = λ e. omega (arith, x.taken, x.full_inside (was_full q.why e), size);
        full_room = λ e. x.full_room (was_full q.why e);
        full_step =
            λ e. let y : q.why ≡ full = was_full q.why e in
            subst (NeedsRoom a opts q.state) (next (omega (arith, x.full_inside y, size))) (x.full_step y);
      }

  pub piece_feeds : PieceFeeds a opts piece s room out (run_piece a opts piece s room)
  unfolding run_piece
  piece_feeds = go (ltb (limit - s.taken) (length piece)) refl
    where
      go : (x : Bool) → ltb (limit - s.taken) (length piece) ≡ x
          → PieceFeeds a opts piece s room out (cond x (at_limit_ran (run a opts (take (limit - s.taken) piece) s room)) (run a opts piece s room))
      go true e = to_limit (ltb-true (limit - s.taken) (length piece) e)
      go false e = before_limit (ltb-false (limit - s.taken) (length piece) e)
