-- T5, of the answers: 9 is given exactly on the states that no calls give. Assumes nothing.
use Prim.Native.Nat.{ℕ, ◌<◌, ◌≤◌}
use mathlib.Core.Path.{◌≡◌, refl, sym, ap, ◌∙◌, subst}
use mathlib.Core.Logic.{◌⊎◌, inl, inr, ⊎_elim}
use mathlib.Core.Bool.{Bool, true, false}
use mathlib.Core.List.{List}
use native.Mathlib.Omega.{arith}
use Rattle.reading.specs.Reader.{State}
use Rattle.reading.proofs.Positions.{refuses_range}
use Rattle.reading.proofs.Refusals.{Ended, whole, spare, short, ended}
use Rattle.streaming.specs.Stream.{Status, live, shut, done, Stream}
use Rattle.streaming.specs.Given.{given}
use Rattle.streaming.specs.Calls.{Called, step_of, closes, finish_of}
use Rattle.streaming.specs.Reached.{Reachable}
use Rattle.streaming.specs.Promises.{Sticks, NineExactly, TookAll, RefusedNext, NextNeedsRoom}
use Rattle.streaming.proofs.Order.{nine_sticks, ten_sticks, refusal_sticks, live_finish}
use Rattle.streaming.proofs.Standing.{Refusal, at_limit, at_byte, at_end, Stands}
use Rattle.streaming.proofs.GivenLaws.{given_says}
use Rattle.streaming.proofs.Reaching.{calls_given, given_reached}
use Rattle.streaming.proofs.GoesOn.{step_goes_on}

-- ---- no other answer is 9

ended_small : {a opts : ℕ} {s : State} {k : ℕ} → Ended a opts s k → k ≤ 8
ended_small whole = omega arith
ended_small (spare x n) = omega arith
ended_small short = omega arith

pub refusal_some : {a opts : ℕ} {s : State} {k : ℕ} → Refusal a opts s k → 0 < k
refusal_some (at_limit e) = omega arith
refusal_some {a} {opts} {s} (at_byte {k = k} l c b e) = omega (arith, refuses_range a opts s c k e)
refusal_some (at_end e l) = l

refusal_small : {a opts : ℕ} {s : State} {k : ℕ} → Refusal a opts s k → k ≤ 8
refusal_small (at_limit e) = omega arith
refusal_small {a} {opts} {s} (at_byte {k = k} l c b e) = omega (arith, refuses_range a opts s c k e)
refusal_small {a} {opts} {s} (at_end e l) = ended_small (subst (Ended a opts s) e (ended a opts s))

stops_small : {a opts : ℕ} (piece : List ℕ) (room : ℕ) (c : Called) → TookAll piece c ⊎ (RefusedNext a opts piece c ⊎ NextNeedsRoom a opts piece room c) → c.answer ≤ 8
stops_small piece room c (inl x) = omega (arith, x.answer)
stops_small {a} {opts} piece room c (inr (inl x)) = ⊎_elim (λ y. omega (arith, y.0)) (λ y. omega (arith, refuses_range a opts _ _ c.answer y.1)) x.why
stops_small piece room c (inr (inr x)) = omega (arith, x.answer)

module _ (s : Stream) (g : given s ≡ true) where
  step_not_nine : (piece : List ℕ) (room : ℕ) → (step_of s piece room).answer ≡ 9 → ⊥
  step_not_nine piece room e = go s.status refl (given_says s g).stands
    where
      is : {k i : ℕ} → Sticks s k i → k ≡ 9
      is x = ap (λ (c : Called). c.answer) (sym (x.step piece room)) ∙ e

      go : (u : Status) → s.status ≡ u → Stands s.alphabet s.options s.state u → ⊥
      go live f x = omega (arith, stops_small piece room (step_of s piece room) (step_goes_on s g f piece room).stops)
      go (shut k) f x = omega (arith, refusal_small x, is (refusal_sticks s g f))
      go done f x = omega (arith, is (ten_sticks s g f))

  finish_not_nine : (finish_of s).answer ≡ 9 → ⊥
  unfolding closes
  finish_not_nine e = go s.status refl (given_says s g).stands
    where
      is : {c : Called} → finish_of s ≡ c → c.answer ≡ 9
      is f = ap (λ (c : Called). c.answer) (sym f) ∙ e

      go : (u : Status) → s.status ≡ u → Stands s.alphabet s.options s.state u → ⊥
      go live f x = omega (arith, ended_small (ended s.alphabet s.options s.state), is (live_finish s refl refl g f))
      go (shut k) f x = omega (arith, refusal_small x, is (refusal_sticks s g f).finish)
      go done f x = omega (arith, is (ten_sticks s g f).finish)

pub nine_exactly : (s : Stream) → NineExactly s
nine_exactly s =
    record {
      step = λ piece room. (λ e r. step_not_nine s (calls_given r.calls) piece room e, λ n. ap (λ (c : Called). c.answer) ((nine_sticks s (not_given n)).step piece room));
      finish = (λ e r. finish_not_nine s (calls_given r.calls) e, λ n. ap (λ (c : Called). c.answer) (nine_sticks s (not_given n)).finish);
    }
  where
    not_given : (Reachable s → ⊥) → given s ≡ false
    not_given n = go (given s) refl
      where
        go : (x : Bool) → given s ≡ x → given s ≡ false
        go true e = absurd (n (given_reached s e))
        go false e = e
