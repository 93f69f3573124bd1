-- T2: for any text, any cutting and any rooms, once every byte was taken or one was refused, a finish with the bytes joined gives the verdict on the
-- whole text, with all that is promised of it. T3: where each call offers a byte and has room for one, it comes to that. Assumes nothing.
use Prim.Native.Nat.{ℕ, suc, ◌<◌, ◌≤◌}
use mathlib.Core.Path.{◌≡◌, refl, sym, ap, ◌∙◌}
use mathlib.Core.Logic.{◌⊎◌, inl, inr}
use mathlib.Core.Bool.{Bool, true, false}
use mathlib.Core.List.{List, [], ◌∷◌, ◌++◌, append-nil}
use native.Mathlib.Omega.{arith}
use lib.Dec.{ltb}
use lib.ListN.{length, take, drop, get_or, length-take, length-drop}
use lib.Seq.{drop-cons}
use borrow.Author.Tests.{ltb-true, ltb-false}
use Rattle.alphabet.specs.Bits.{Below}
use Rattle.reading.specs.Limit.{limit}
use Rattle.reading.specs.Reader.{refuses, step, judged}
use Rattle.reading.proofs.Meaning.{promised}
use Rattle.reading.proofs.OptionLaws.{allowed_alphabet}
use Rattle.reading.proofs.Joined.{judged_end, judged_past, judged_refused}
use Rattle.streaming.specs.Stream.{Status, live, shut, Stream, started, start_of}
use Rattle.streaming.specs.Calls.{unmoved, step_of, closes, finish_of}
use Rattle.streaming.specs.Driving.{Offer, Driven, begin, told, offer, drive, Offering, Refused, Settled}
use Rattle.streaming.specs.Promises.{finish_verdict, Settles, GoesOn}
use Rattle.streaming.proofs.Order.{refusal_sticks, live_finish}
use Rattle.streaming.proofs.Reaching.{standing_given}
use Rattle.streaming.proofs.GoesOn.{step_goes_on}
use Rattle.streaming.proofs.Again.{live_shut, zero_finishes}
use Rattle.streaming.proofs.DrivingLaws.{How, goes, past, blames, Drove, offer_sticks, drove_offer, drove_all, drove_begin}

module _ {a opts : ℕ} (text : List ℕ) (d : Driven) (x : Drove a opts text d) where
  -- a finish writes nothing, so the verdict is what it tells of the bytes handed out
  by_finish : {s : Stream} {k i : ℕ} → finish_of d.stream ≡ record { stream = s; answer = k; position = i; took = 0; wrote = [] }
      → judged a opts text ≡ record { answer = k; position = i; good = d.out } → finish_verdict d ≡ judged a opts text
  by_finish e f = rw (e, append-nil) (sym f)

  live_verdict : d.stream.status ≡ live → d.left ≡ [] → finish_verdict d ≡ judged a opts text
  unfolding closes
  live_verdict e n =
      by_finish (live_finish d.stream x.stands.alphabet x.stands.options (standing_given x.stands) e)
      (ap (judged a opts) (x.whole ∙ ap (λ (u : List ℕ). x.front ++ u) n ∙ append-nil x.front)
      ∙ judged_end a opts x.front d.stream.state d.out x.stands.reads x.stands.within)

  sticks : {k : ℕ} → d.stream.status ≡ shut k → finish_of d.stream ≡ unmoved d.stream k d.stream.state.taken
  sticks e = (refusal_sticks d.stream (standing_given x.stands) e).finish

  past_verdict : d.stream.status ≡ shut 2 → 0 < length d.left → d.stream.state.taken ≡ limit → finish_verdict d ≡ judged a opts text
  past_verdict e l m =
      by_finish (sticks e)
      (ap (judged a opts) (x.whole ∙ ap (λ (u : List ℕ). x.front ++ u) (drop-cons d.left 0 0 l))
      ∙ judged_past a opts x.front (get_or d.left 0 0) (drop 1 d.left) d.stream.state d.out x.stands.reads (omega (arith, x.stands.taken))
      ∙ λ j. record { answer = 2; position = sym m j; good = d.out })

  blamed_verdict : {k : ℕ} → d.stream.status ≡ shut k → 0 < length d.left → d.stream.state.taken < limit
      → step a opts d.stream.state (get_or d.left 0 0) ≡ refuses k → finish_verdict d ≡ judged a opts text
  blamed_verdict {k} e l m f =
      by_finish (sticks e)
      (ap (judged a opts) (x.whole ∙ ap (λ (u : List ℕ). x.front ++ u) (drop-cons d.left 0 0 l))
      ∙ judged_refused a opts x.front (get_or d.left 0 0) (drop 1 d.left) d.stream.state d.out k x.stands.reads f (omega (arith, x.stands.taken)))

  settled_verdict : Settled d → finish_verdict d ≡ judged a opts text
  settled_verdict y = go x.how refl y
    where
      go : {u : Status} → How a opts d.left d.stream.state u → d.stream.status ≡ u → Settled d → finish_verdict d ≡ judged a opts text
      go goes e (inl n) = live_verdict e n
      go goes e (inr r) = absurd (live_shut (sym e ∙ r.is))
      go (past l m) e y = past_verdict e l m
      go (blames l m f) e y = blamed_verdict e l m f

  settles : Settled d → Settles a opts text d
  settles y =
      let e : finish_verdict d ≡ judged a opts text = settled_verdict y in
      record { whole = e; promised = rw e (promised a (allowed_alphabet a opts x.stands.choice) opts text); finished = zero_finishes d.stream (standing_given x.stands) }

-- whatever the cutting and the rooms
pub any_cutting : (a opts : ℕ) (text : List ℕ) → Below 256 text → (s : Stream) → start_of a opts ≡ started s → (os : List Offer)
    → Settled (drive os (begin s text)) → Settles a opts text (drive os (begin s text))
any_cutting a opts text b s e os y = settles text (drive os (begin s text)) (drove_all text b os (begin s text) (drove_begin text s e)) y

-- ---- it comes to that

-- a call that offers a byte, with room for one, leaves less or refuses
offer_less : {a opts : ℕ} {text : List ℕ} (d : Driven) → Drove a opts text d → d.stream.status ≡ live → (o : Offer) → 0 < o.size → 0 < o.room
    → (n : ℕ) → length d.left ≤ suc n → (length (offer o d).left ≤ n) ⊎ Refused (offer o d).stream
unfolding offer told
offer_less d x e o p q n l = go (ltb 0 (length d.left)) refl
  where
    piece : List ℕ
    piece = take o.size d.left

    g : GoesOn d.stream piece o.room
    g = step_goes_on d.stream (standing_given x.stands) e piece o.room

    took : ℕ
    took = (step_of d.stream piece o.room).took

    moved : (0 < took) ⊎ Refused (step_of d.stream piece o.room).stream → (length (drop took d.left) ≤ n) ⊎ Refused (step_of d.stream piece o.room).stream
    moved (inl m) = inl (omega (arith, length-drop took d.left))
    moved (inr r) = inr r

    go : (y : Bool) → ltb 0 (length d.left) ≡ y → (length (drop took d.left) ≤ n) ⊎ Refused (step_of d.stream piece o.room).stream
    go true f = moved (g.moves (omega (arith, length-take o.size d.left, ltb-true 0 (length d.left) f)) q)
    go false f = inl (omega (arith, length-drop took d.left, ltb-false 0 (length d.left) f))

module _ {a opts : ℕ} (text : List ℕ) (b : Below 256 text) where
  settles_by : (os : List Offer) → Offering os → (d : Driven) → Drove a opts text d → (length d.left ≤ length os) ⊎ Refused d.stream → Settled (drive os d)
  unfolding drive
  settles_by [] f d x (inl l) = inl (none d.left l)
    where
      none : (xs : List ℕ) → length xs ≤ 0 → xs ≡ []
      none [] l = refl
      none (y ∷ ys) l = absurd (omega arith)
  settles_by [] f d x (inr r) = inr r
  settles_by (o ∷ os) f d x y = settles_by os f.2 (offer o d) (drove_offer text b d x o) (go x.how refl y)
    where
      stays : {k : ℕ} → d.stream.status ≡ shut k → Refused (offer o d).stream
      stays {k} e = rw (offer_sticks d x e o) (record { answer = k; is = e })

      go : {u : Status} → How a opts d.left d.stream.state u → d.stream.status ≡ u → (length d.left ≤ suc (length os)) ⊎ Refused d.stream
          → (length (offer o d).left ≤ length os) ⊎ Refused (offer o d).stream
      go goes e (inl l) = offer_less d x e o f.0 f.1 (length os) l
      go goes e (inr r) = absurd (live_shut (sym e ∙ r.is))
      go (past l m) e y = inr (stays e)
      go (blames l m q) e y = inr (stays e)

-- as many calls as the text has bytes are enough
pub offering_ends : (a opts : ℕ) (text : List ℕ) → Below 256 text → (s : Stream) → start_of a opts ≡ started s → (os : List Offer) → Offering os
    → length text ≤ length os → Settled (drive os (begin s text))
offering_ends a opts text b s e os f l = settles_by {a = a} {opts = opts} text b os f (begin s text) (drove_begin text s e) (inl l)
