-- T3: a step stops only when the piece is taken, a byte is refused or the room is full for the byte that needs it, and with room for a byte and a
-- byte offered it takes one or refuses. Assumes nothing.
use Prim.Native.Nat.{ℕ, ◌<◌}
use mathlib.Core.Path.{◌≡◌, refl, sym, ap, ◌∙◌}
use mathlib.Core.Logic.{◌⊎◌, inl, inr}
use mathlib.Core.Bool.{Bool, true, false}
use mathlib.Core.List.{List, []}
use native.Mathlib.Omega.{arith}
use lib.Dec.{eqb, ltb}
use lib.ListN.{length, take, get_or}
use borrow.Author.Tests.{eqb-true, eqb-false, ltb-true, ltb-false}
use Rattle.reading.specs.Limit.{limit}
use Rattle.reading.specs.Reader.{refuses, going, step, feed_all}
use Rattle.reading.specs.Piece.{Why, all, refused, full, Ran}
use Rattle.reading.proofs.PieceLaws.{NeedsRoom}
use Rattle.reading.proofs.PieceLimit.{PieceFeeds, piece_feeds}
use Rattle.reading.proofs.Taking.{reads_none}
use Rattle.streaming.specs.Stream.{live, Stream}
use Rattle.streaming.specs.Given.{given}
use Rattle.streaming.specs.Calls.{Called, why_status, why_answer, ran, step_of}
use Rattle.streaming.specs.Driving.{Refused}
use Rattle.streaming.specs.Promises.{TookAll, RefusedNext, NextNeedsRoom, GoesOn}
use Rattle.streaming.proofs.Order.{live_step}
use Rattle.streaming.proofs.GivenLaws.{Sound, given_says}

-- the same of any call c
abbrev Stops : ℕ → ℕ → List ℕ → ℕ → Called → Type 0
Stops a opts piece room c = TookAll piece c ⊎ (RefusedNext a opts piece c ⊎ NextNeedsRoom a opts piece room c)

abbrev Moves : List ℕ → ℕ → Called → Type 0
Moves piece room c = 0 < length piece → 0 < room → (0 < c.took) ⊎ Refused c.stream

module _ (s : Stream) (piece : List ℕ) (room : ℕ) (r : Ran) (f : PieceFeeds s.alphabet s.options piece s.state room [] r) where
  refused_why : (k : ℕ) → r.why ≡ refused k
      → ((k ≡ 2) × (r.state.taken ≡ limit)) ⊎ ((r.state.taken < limit) × (step s.alphabet s.options r.state (get_or piece r.took 0) ≡ refuses k))
  refused_why k e = go (eqb k 2) refl
    where
      go : (x : Bool) → eqb k 2 ≡ x → ((k ≡ 2) × (r.state.taken ≡ limit)) ⊎ ((r.state.taken < limit) × (step s.alphabet s.options r.state (get_or piece r.took 0) ≡ refuses k))
      go true q = let k2 : k ≡ 2 = eqb-true k 2 q in inl (k2, f.two_at (e ∙ ap refused k2))
      go false q = inr (f.refused_before k e (eqb-false k 2 q), f.refused_step k e (eqb-false k 2 q))

  ran_stops : Stops s.alphabet s.options piece room (ran s r)
  unfolding ran why_status why_answer
  ran_stops = go r.why refl
    where
      go : (w : Why) → r.why ≡ w → Stops s.alphabet s.options piece room (ran s r)
      go all e = inl (record { answer = rw e; took = f.all_took e; goes = rw e })
      go (refused k) e = inr (inl (record { status = rw e; inside = f.refused_inside k e; place = refl; why = rw e (refused_why k e) }))
      go full e =
          let n : NeedsRoom s.alphabet s.options r.state (get_or piece r.took 0) = f.full_step e in
          inr
          (inr
          (record {
            answer = rw e;
            inside = f.full_inside e;
            place = refl;
            before = f.full_before e;
            full = f.full_room e;
            byte = n.byte;
            next = n.next;
            needs = n.step_gives;
            goes = rw e;
          }))

  -- what takes no byte writes none
  none_written : r.took ≡ 0 → length r.wrote ≡ 0
  none_written e =
      let g : going s.state [] ≡ going r.state r.wrote =
      sym (reads_none s.alphabet s.options (going s.state []))
      ∙ ap (λ (n : ℕ). feed_all s.alphabet s.options (going s.state []) (take n piece)) (sym e)
      ∙ f.so_far in
      let w : r.wrote ≡ [] = cc in
      ap length w

  ran_moves : Moves piece room (ran s r)
  unfolding ran why_status
  ran_moves p q = go (ltb 0 r.took) refl r.why refl
    where
      go : (x : Bool) → ltb 0 r.took ≡ x → (w : Why) → r.why ≡ w → (0 < r.took) ⊎ Refused (ran s r).stream
      go true e w g = inl (ltb-true 0 r.took e)
      go false e all g = absurd (omega (arith, ltb-false 0 r.took e, f.all_took g))
      go false e (refused k) g = inr (record { answer = k; is = ap why_status g })
      go false e full g = absurd (omega (arith, f.full_room g, none_written (omega (arith, ltb-false 0 r.took e))))

  ran_goes_on : step_of s piece room ≡ ran s r → GoesOn s piece room
  unfolding ran
  ran_goes_on e = record { stops = rw e ran_stops; moves = rw e ran_moves; within = rw e f.took_in; fits = rw e f.wrote_in }

pub step_goes_on : (s : Stream) → given s ≡ true → s.status ≡ live → (piece : List ℕ) (room : ℕ) → GoesOn s piece room
step_goes_on s g e piece room =
    let x : Sound s = given_says s g in
    ran_goes_on s piece room _ (piece_feeds s.alphabet s.options piece s.state room [] x.readable.within)
    (live_step s refl refl g e piece room)
