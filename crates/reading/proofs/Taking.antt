-- One run over a piece: a text that is read is taken whole, with room for its bytes; a byte that is refused, or stands at the limit, stops it at once.
-- Assumes nothing.
use Prim.Native.Nat.{ℕ, ◌+◌, ◌-◌, ◌<◌, ◌≤◌}
use mathlib.Core.Path.{◌≡◌, refl, sym, ◌∙◌}
use mathlib.Core.List.{List, [], ◌∷◌, ◌++◌}
use native.Mathlib.Omega.{arith}
use lib.ListN.{length}
use borrow.Author.Tests.{le-ltb}
use Rattle.reading.specs.Limit.{limit}
use Rattle.reading.specs.Reader.{State, gives, refuses, Reading, going, stopped, step, follow, feed, feed_all}
use Rattle.reading.specs.Piece.{Why, all, refused, full, Ran, stop, on_step, run, why_at_limit, at_limit_ran, run_piece}
use Rattle.reading.proofs.PieceLaws.{run_feeds, all_feeds, refused_feeds, room_enough}

-- ---- no byte, and one that completes a byte

pub reads_none : (a opts : ℕ) (r : Reading) → feed_all a opts r [] ≡ r
unfolding feed_all
reads_none a opts r = refl

pub reads_one : (a opts : ℕ) (s n : State) (out : List ℕ) (c x : ℕ) → step a opts s c ≡ gives x n → feed_all a opts (going s out) (c ∷ []) ≡ going n (out ++ x ∷ [])
unfolding feed_all feed follow
reads_one a opts s n out c x e = rw e

-- ---- one run

module _ (a opts : ℕ) (s : State) where
  module _ (text : List ℕ) {n : State} {out : List ℕ} (e : feed_all a opts (going s []) text ≡ going n out) where
    why_all : (run a opts text s (length out)).why ≡ all
    why_all = go (run a opts text s (length out)).why refl
      where
        go : (w : Why) → (run a opts text s (length out)).why ≡ w → (run a opts text s (length out)).why ≡ all
        go all f = f
        go (refused k) f =
            absurd (let z : going n out ≡ stopped k _ _ = sym e ∙ refused_feeds a opts text s (length out) [] k f in
            let y : ◌≡◌ {A = ℕ} 0 1 = cc in omega arith)
        go full f = absurd (room_enough a opts text s (length out) [] (rw e (omega arith)) f)

    run_takes : run a opts text s (length out) ≡ record { state = n; why = all; took = length text; wrote = out }
    run_takes =
        let r : Ran = run a opts text s (length out) in
        let g : going r.state r.wrote ≡ going n out = sym (all_feeds a opts text s (length out) [] why_all) ∙ e in
        let states : r.state ≡ n = cc in
        let bytes : r.wrote ≡ out = cc in
        let took : r.took ≡ length text = (run_feeds a opts text s (length out) []).all_took why_all in
        λ j. record { state = states j; why = why_all j; took = took j; wrote = bytes j }

    pub takes_all : s.taken + length text ≤ limit → run_piece a opts text s (length out) ≡ record { state = n; why = all; took = length text; wrote = out }
    unfolding run_piece
    takes_all l = rw (le-ltb (limit - s.taken) (length text) (omega arith)) run_takes

  module _ (c : ℕ) (room : ℕ) where
    pub refuses_one : {k : ℕ} → s.taken < limit → step a opts s c ≡ refuses k → run_piece a opts (c ∷ []) s room ≡ stop s (refused k)
    unfolding run_piece run on_step
    refuses_one l e = rw (le-ltb (limit - s.taken) 1 (omega arith), e)

    pub refuses_at_limit : s.taken ≡ limit → run_piece a opts (c ∷ []) s room ≡ stop s (refused 2)
    unfolding run_piece run at_limit_ran why_at_limit
    refuses_at_limit e = let z : limit - s.taken ≡ 0 = omega arith in rw z
