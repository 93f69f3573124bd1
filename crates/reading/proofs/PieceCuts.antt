-- A piece cut in two is read as a whole: the second part goes on where the first ended, into the room that is left. Assumes nothing.
use Prim.Native.Nat.{ℕ, zero, suc, ◌+◌, ◌-◌, ◌<◌, ◌≤◌}
use mathlib.Core.Path.{◌≡◌, refl, sym, ap, ◌∙◌}
use mathlib.Core.Bool.{Bool, true, false}
use mathlib.Core.List.{List, [], ◌∷◌, ◌++◌, append_assoc}
use native.Mathlib.Nat.{zero-add, add_assoc, sub-zero}
use native.Mathlib.Omega.{arith}
use lib.Dec.{ltb}
use lib.ListN.{length, take, length-append}
use lib.Seq.{take-append-add, take-append-le}
use borrow.Author.Tests.{ltb-true, ltb-false, lt-ltb, le-ltb}
use Rattle.reading.specs.Limit.{limit}
use Rattle.reading.specs.Reader.{State, Step, takes, gives, refuses, step}
use Rattle.reading.specs.Piece.{Why, all, refused, full, Ran, after, on_step, run, why_at_limit, at_limit_ran, run_piece}
use Rattle.reading.proofs.PieceLimit.{not_all}
use Rattle.reading.proofs.PieceLaws.{RunFeeds, run_feeds, all_full, all_refused}

after_none : (r : Ran) → after 0 [] r ≡ r
after_none r j = record { state = r.state; why = r.why; took = zero-add r.took j; wrote = r.wrote }

after_after : (m n : ℕ) (v w : List ℕ) (r : Ran) → after m v (after n w r) ≡ after (m + n) (v ++ w) r
after_after m n v w r j = record { state = r.state; why = r.why; took = sym (add_assoc m n r.took) j; wrote = sym (append_assoc v w r.wrote) j }

-- at the limit a run that had stopped before is as it was
limit_same : (r : Ran) → (r.why ≡ all → ⊥) → at_limit_ran r ≡ r
unfolding at_limit_ran why_at_limit
limit_same r n j = record { state = r.state; why = same r.why n j; took = r.took; wrote = r.wrote }
  where
    same : (w : Why) → (w ≡ all → ⊥) → why_at_limit w ≡ w
    same all n = absurd (n refl)
    same (refused k) n = refl
    same full n = refl

module _ (a opts : ℕ) where
  -- the second part, after a run q over the first
  abbrev pub goes_on_law : Ran → List ℕ → ℕ → Ran
  goes_on_law q ys room = after q.took q.wrote (run a opts ys q.state (room - length q.wrote))

  pub run_cut : (xs ys : List ℕ) (s : State) (room : ℕ) → (run a opts xs s room).why ≡ all → run a opts (xs ++ ys) s room ≡ goes_on_law (run a opts xs s room) ys room
  unfolding run on_step
  run_cut [] ys s room e = sym (after_none (run a opts ys s room)) ∙ ap (λ (n : ℕ). after 0 [] (run a opts ys s n)) (sym (sub-zero room))
  run_cut (x ∷ xs) ys s room e = go (step a opts s x) refl room e (λ n m. run_cut xs ys n m)
    where
      go : (z : Step) → step a opts s x ≡ z → (room : ℕ) → (on_step s z (λ n. run a opts xs n room) room (λ n r. run a opts xs n r)).why ≡ all
          → ((n : State) (m : ℕ) → (run a opts xs n m).why ≡ all → run a opts (xs ++ ys) n m ≡ goes_on_law (run a opts xs n m) ys m)
          → on_step s z (λ n. run a opts (xs ++ ys) n room) room (λ n r. run a opts (xs ++ ys) n r)
          ≡ goes_on_law (on_step s z (λ n. run a opts xs n room) room (λ n r. run a opts xs n r)) ys room
      go (takes n) f room e rec =
          ap (after 1 []) (rec n room e) ∙ after_after 1 (run a opts xs n room).took [] (run a opts xs n room).wrote _
      go (gives b n) f zero e rec = absurd (all_full (sym e))
      go (gives b n) f (suc room) e rec =
          ap (after 1 (b ∷ [])) (rec n room e)
          ∙ after_after 1 (run a opts xs n room).took (b ∷ []) (run a opts xs n room).wrote _
          ∙ ap (λ (m : ℕ). after (1 + (run a opts xs n room).took) (b ∷ (run a opts xs n room).wrote) (run a opts ys (run a opts xs n room).state m)) (omega arith)
      go (refuses k) f room e rec = absurd (all_refused (sym e))

  -- a run that stopped before the end stops there whatever follows
  pub run_stops : (xs ys : List ℕ) (s : State) (room : ℕ) → ((run a opts xs s room).why ≡ all → ⊥) → run a opts (xs ++ ys) s room ≡ run a opts xs s room
  unfolding run on_step
  run_stops [] ys s room n = absurd (n refl)
  run_stops (x ∷ xs) ys s room n = go (step a opts s x) room n (λ m r. run_stops xs ys m r)
    where
      go : (z : Step) (room : ℕ) → ((on_step s z (λ n. run a opts xs n room) room (λ n r. run a opts xs n r)).why ≡ all → ⊥)
          → ((n : State) (m : ℕ) → ((run a opts xs n m).why ≡ all → ⊥) → run a opts (xs ++ ys) n m ≡ run a opts xs n m)
          → on_step s z (λ n. run a opts (xs ++ ys) n room) room (λ n r. run a opts (xs ++ ys) n r) ≡ on_step s z (λ n. run a opts xs n room) room (λ n r. run a opts xs n r)
      go (takes n) room f rec = ap (after 1 []) (rec n room f)
      go (gives b n) zero f rec = refl
      go (gives b n) (suc room) f rec = ap (after 1 (b ∷ [])) (rec n room f)
      go (refuses k) room f rec = refl

  -- ---- the same with the limit

  -- the second part, after a run q over the first
  abbrev pub piece_goes_on : Ran → List ℕ → ℕ → Ran
  piece_goes_on q ys room = after q.took q.wrote (run_piece a opts ys q.state (room - length q.wrote))

  -- the limit lies past the piece, or in it
  piece_before : (piece : List ℕ) (s : State) (room : ℕ) → length piece ≤ limit - s.taken → run_piece a opts piece s room ≡ run a opts piece s room
  unfolding run_piece
  piece_before piece s room l = rw (le-ltb (limit - s.taken) (length piece) l)

  piece_past : (piece : List ℕ) (s : State) (room : ℕ) → limit - s.taken < length piece
      → run_piece a opts piece s room ≡ at_limit_ran (run a opts (take (limit - s.taken) piece) s room)
  unfolding run_piece
  piece_past piece s room l = rw (lt-ltb (limit - s.taken) (length piece) l)

  all_fits : (xs : List ℕ) (s : State) (room : ℕ) → (run_piece a opts xs s room).why ≡ all → length xs ≤ limit - s.taken
  unfolding at_limit_ran
  all_fits xs s room e = go (ltb (limit - s.taken) (length xs)) refl
    where
      go : (x : Bool) → ltb (limit - s.taken) (length xs) ≡ x → length xs ≤ limit - s.taken
      go true f =
          absurd
          (not_all (run a opts (take (limit - s.taken) xs) s room).why
          (ap (λ (r : Ran). r.why) (sym (piece_past xs s room (ltb-true (limit - s.taken) (length xs) f))) ∙ e))
      go false f = ltb-false (limit - s.taken) (length xs) f

  pub piece_cut : (xs ys : List ℕ) (s : State) (room : ℕ) → (run_piece a opts xs s room).why ≡ all
      → run_piece a opts (xs ++ ys) s room ≡ piece_goes_on (run_piece a opts xs s room) ys room
  unfolding at_limit_ran
  piece_cut xs ys s room e =
      go (ltb (limit - s.taken) (length (xs ++ ys))) refl ∙ ap (λ (r : Ran). piece_goes_on r ys room) (sym w)
    where
      q : Ran
      q = run a opts xs s room

      l : length xs ≤ limit - s.taken
      l = all_fits xs s room e

      w : run_piece a opts xs s room ≡ q
      w = piece_before xs s room l

      d : q.why ≡ all
      d = ap (λ (r : Ran). r.why) (sym w) ∙ e

      left : limit - s.taken ≡ length xs + (limit - q.state.taken)
      left = let x : RunFeeds a opts xs s room [] q = run_feeds a opts xs s room [] in omega (arith, l, x.taken, x.all_took d)

      go : (x : Bool) → ltb (limit - s.taken) (length (xs ++ ys)) ≡ x → run_piece a opts (xs ++ ys) s room ≡ piece_goes_on q ys room
      go true f =
          let m : limit - s.taken < length (xs ++ ys) = ltb-true (limit - s.taken) (length (xs ++ ys)) f in
          piece_past (xs ++ ys) s room m
          ∙ ap (λ (u : List ℕ). at_limit_ran (run a opts u s room)) (ap (λ (n : ℕ). take n (xs ++ ys)) left ∙ take-append-add xs ys (limit - q.state.taken))
          ∙ ap at_limit_ran (run_cut xs (take (limit - q.state.taken) ys) s room d)
          ∙ ap (after q.took q.wrote) (sym (piece_past ys q.state (room - length q.wrote) (omega (arith, left, m, length-append xs ys))))
      go false f =
          let m : length (xs ++ ys) ≤ limit - s.taken = ltb-false (limit - s.taken) (length (xs ++ ys)) f in
          piece_before (xs ++ ys) s room m
          ∙ run_cut xs ys s room d
          ∙ ap (after q.took q.wrote) (sym (piece_before ys q.state (room - length q.wrote) (omega (arith, left, m, length-append xs ys))))

  -- a run that stopped before the first part's end stops there whatever follows
  pub piece_stops : (xs ys : List ℕ) (s : State) (room : ℕ) → ((run_piece a opts xs s room).why ≡ all → ⊥)
      → run_piece a opts (xs ++ ys) s room ≡ run_piece a opts xs s room
  piece_stops xs ys s room n = go (ltb (limit - s.taken) (length xs)) refl (ltb (limit - s.taken) (length (xs ++ ys))) refl
    where
      stops : length xs ≤ limit - s.taken → (run a opts xs s room).why ≡ all → ⊥
      stops l e = n (ap (λ (r : Ran). r.why) (piece_before xs s room l) ∙ e)

      go : (x : Bool) → ltb (limit - s.taken) (length xs) ≡ x → (y : Bool) → ltb (limit - s.taken) (length (xs ++ ys)) ≡ y
          → run_piece a opts (xs ++ ys) s room ≡ run_piece a opts xs s room
      go true e y f =
          let l : limit - s.taken < length xs = ltb-true (limit - s.taken) (length xs) e in
          piece_past (xs ++ ys) s room (omega (arith, length-append xs ys))
          ∙ ap (λ (u : List ℕ). at_limit_ran (run a opts u s room)) (take-append-le (limit - s.taken) xs ys (omega arith))
          ∙ sym (piece_past xs s room l)
      go false e true f =
          let l : length xs ≤ limit - s.taken = ltb-false (limit - s.taken) (length xs) e in
          let left : limit - s.taken ≡ length xs + (limit - s.taken - length xs) = omega arith in
          piece_past (xs ++ ys) s room (ltb-true (limit - s.taken) (length (xs ++ ys)) f)
          ∙ ap (λ (u : List ℕ). at_limit_ran (run a opts u s room)) (ap (λ (k : ℕ). take k (xs ++ ys)) left ∙ take-append-add xs ys (limit - s.taken - length xs))
          ∙ ap at_limit_ran (run_stops xs (take (limit - s.taken - length xs) ys) s room (stops l))
          ∙ limit_same (run a opts xs s room) (stops l)
          ∙ sym (piece_before xs s room l)
      go false e false f =
          let l : length xs ≤ limit - s.taken = ltb-false (limit - s.taken) (length xs) e in
          piece_before (xs ++ ys) s room (ltb-false (limit - s.taken) (length (xs ++ ys)) f)
          ∙ run_stops xs ys s room (stops l)
          ∙ sym (piece_before xs s room l)
