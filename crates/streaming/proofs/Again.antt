-- T6: what a call leaves passes the test; a refusal that it leaves is given again by every call, at the same position and changing nothing, and a
-- finish that answered 0 leaves a finished stream. Assumes nothing.
use Prim.Native.Nat.{ℕ}
use mathlib.Core.Path.{◌≡◌, refl, sym, ap, ◌∙◌}
use mathlib.Core.Logic.{◌⊎◌, inl, inr}
use mathlib.Core.Bool.{Bool, true, false, cond}
use mathlib.Core.List.{List}
use native.Mathlib.Omega.{arith}
use lib.Dec.{eqb}
use borrow.Author.Tests.{eq-eqb}
use Rattle.alphabet.specs.Bits.{Below}
use Rattle.reading.specs.Reader.{ending}
use Rattle.streaming.specs.Stream.{Status, live, shut, done, Stream}
use Rattle.streaming.specs.Given.{given}
use Rattle.streaming.specs.Calls.{Called, unmoved, step_of, end_status, closes, finish_of}
use Rattle.streaming.specs.Reached.{stepped, closed}
use Rattle.streaming.specs.Promises.{GivenAgain, TookAll, RefusedNext, NextNeedsRoom}
use Rattle.streaming.proofs.Order.{ten_sticks, refusal_sticks, live_finish}
use Rattle.streaming.proofs.Standing.{Stands}
use Rattle.streaming.proofs.GivenLaws.{given_says}
use Rattle.streaming.proofs.Reaching.{calls_given, given_reached}
use Rattle.streaming.proofs.NineExactly.{refusal_some}
use Rattle.streaming.proofs.GoesOn.{step_goes_on}

pub live_shut : {k : ℕ} → live ≡ shut k → ⊥
live_shut e = let z : ◌≡◌ {A = ℕ} 0 1 = cc in omega arith

pub done_shut : {k : ℕ} → done ≡ shut k → ⊥
done_shut e = let z : ◌≡◌ {A = ℕ} 0 1 = cc in omega arith

shut_same : {j k : ℕ} → shut j ≡ shut k → j ≡ k
shut_same e = cc

module _ (s : Stream) (g : given s ≡ true) where
  pub step_given : (piece : List ℕ) → Below 256 piece → (room : ℕ) → given (step_of s piece room).stream ≡ true
  step_given piece b room = calls_given (stepped (given_reached s g).calls piece b room)

  pub finish_given : given (finish_of s).stream ≡ true
  finish_given = calls_given (closed (given_reached s g).calls)

  -- the answer and the position of a call that leaves a refusal
  Tells : Called → Type 0
  Tells c = (k : ℕ) → c.stream.status ≡ shut k → (c.answer ≡ k) × (c.position ≡ c.stream.state.taken)

  unmoved_tells : {j : ℕ} (c : Called) → s.status ≡ shut j → c ≡ unmoved s j s.state.taken → Tells c
  unfolding Tells
  unmoved_tells c f e = rw e (λ k q. (shut_same (sym f ∙ q), refl))

  finished_tells : (c : Called) → s.status ≡ done → c ≡ unmoved s 10 0 → Tells c
  unfolding Tells
  finished_tells c f e = rw e (λ k q. absurd (done_shut (sym f ∙ q)))

  again : (c : Called) → given c.stream ≡ true → Tells c → GivenAgain c
  unfolding Tells
  again c h t =
      record {
        refused = λ {k} e. rw ((t k e).0, (t k e).1) (refusal_sticks c.stream h e);
        finished = λ e. ten_sticks c.stream h e;
      }

  -- ---- a step

  stops_tells : (piece : List ℕ) (room : ℕ) (c : Called)
      → TookAll piece c ⊎ (RefusedNext s.alphabet s.options piece c ⊎ NextNeedsRoom s.alphabet s.options piece room c) → Tells c
  unfolding Tells
  stops_tells piece room c (inl x) k e = absurd (live_shut (sym x.goes ∙ e))
  stops_tells piece room c (inr (inl x)) k e = (shut_same (sym x.status ∙ e), x.place)
  stops_tells piece room c (inr (inr x)) k e = absurd (live_shut (sym x.goes ∙ e))

  pub step_again : (piece : List ℕ) → Below 256 piece → (room : ℕ) → GivenAgain (step_of s piece room)
  step_again piece b room = again (step_of s piece room) (step_given piece b room) (go s.status refl)
    where
      go : (u : Status) → s.status ≡ u → Tells (step_of s piece room)
      go live f = stops_tells piece room (step_of s piece room) (step_goes_on s g f piece room).stops
      go (shut j) f = unmoved_tells (step_of s piece room) f ((refusal_sticks s g f).step piece room)
      go done f = finished_tells (step_of s piece room) f ((ten_sticks s g f).step piece room)

  -- ---- a finish

  closes_tells : Tells (closes s (ending s.alphabet s.options s.state))
  unfolding Tells closes end_status
  closes_tells k e = (go (eqb (ending s.alphabet s.options s.state) 0) e, refl)
    where
      go : (x : Bool) → cond x done (shut (ending s.alphabet s.options s.state)) ≡ shut k → ending s.alphabet s.options s.state ≡ k
      go true e = absurd (done_shut e)
      go false e = shut_same e

  pub finish_again : GivenAgain (finish_of s)
  finish_again = again (finish_of s) finish_given (go s.status refl)
    where
      go : (u : Status) → s.status ≡ u → Tells (finish_of s)
      go live f = rw (live_finish s refl refl g f) closes_tells
      go (shut j) f = unmoved_tells (finish_of s) f (refusal_sticks s g f).finish
      go done f = finished_tells (finish_of s) f (ten_sticks s g f).finish

  -- answer 0 of a finish finishes the stream
  pub zero_finishes : (finish_of s).answer ≡ 0 → (finish_of s).stream.status ≡ done
  unfolding closes end_status
  zero_finishes z = go s.status refl (given_says s g).stands
    where
      is : {c : Called} → finish_of s ≡ c → c.answer ≡ 0
      is f = ap (λ (c : Called). c.answer) (sym f) ∙ z

      go : (u : Status) → s.status ≡ u → Stands s.alphabet s.options s.state u → (finish_of s).stream.status ≡ done
      go live f x =
          let c = live_finish s refl refl g f in
          ap (λ (c : Called). c.stream.status) c ∙ rw (eq-eqb (ending s.alphabet s.options s.state) 0 (is c))
      go (shut k) f x = absurd (omega (arith, refusal_some x, is (refusal_sticks s g f).finish))
      go done f x = absurd (omega (arith, is (ten_sticks s g f).finish))
