-- What the methods return tells the calls of the definitions, whatever state they are called on. Assumes nothing.
use Prim.Native.Nat.{ℕ}
use mathlib.Core.Path.{◌≡◌, refl, sym, ap, ◌∙◌, subst}
use mathlib.Core.Logic.{◌⊎◌, inl, inr}
use mathlib.Core.Bool.{Bool, true, false}
use mathlib.Core.List.{List, []}
use lib.ListN.{length, drop}
use lib.Seq.{take_at, drop_at}
use Rattle.answer.specs.Told.{told}
use Rattle.answer.proofs.ToldCases.{told_accepted, told_long, told_room, told_foreign, told_pad, told_spare, told_after, told_short, told_bad, told_finished}
use Rattle.reading.specs.Reader.{ending}
use Rattle.reading.specs.Piece as P
use Rattle.reading.specs.Piece.{run_piece}
use Rattle.reading.proofs.PieceLimit.{piece_feeds}
use Rattle.reading.proofs.Refusals.{ended}
use Rattle.rule.specs.declared.Cause.{Cause}
use Rattle.rule.specs.declared.Cause.TheVariants as C
use Rattle.rule.specs.Meaning.{kind_by, state_of, number}
use Rattle.reading.specs.Buffer.{filled}
use Rattle.rule.proofs.Causes.{long_number, foreign_number, pad_number, spare_number, after_number, short_number, cause_back}
use Rattle.states.specs.declared.Status.{Status}
use Rattle.states.specs.declared.Status.TheVariants as U
use Rattle.stream.specs.declared.reader.Reader.{Reader}
use Rattle.streaming.specs.Stream as S
use Rattle.streaming.specs.Stream.{Stream}
use Rattle.streaming.specs.Given.{given}
use Rattle.streaming.specs.Calls.{Called, unmoved, why_status, why_answer, ran, step_of, end_status, closes, finish_of}
use Rattle.streaming.specs.Promises.{Sticks}
use Rattle.states.specs.Status.{status_of}
use Rattle.stream.specs.Stepped.{status_as, stream_of, place, count, kind_of, outcome_of, returned, stepped, written, finished}
use Rattle.stream.specs.Made.{Tells}
use Rattle.streaming.proofs.Order.{nine_sticks, ten_sticks, refusal_sticks, live_step, live_finish}
use Rattle.streaming.proofs.GivenLaws.{given_says}
use Rattle.stream.proofs.Causes.{IsCause, ended_cause, some_number, number_back, status_back, refused_outcome}
use Rattle.stream.proofs.Returns.{ran_cause}

-- ---- the answers and statuses that calls give

data Answer : ℕ → ℕ → Type 0 where
  accepted : {i : ℕ} → Answer 0 i
  refused : {k i : ℕ} → IsCause k → Answer k i
  full : {i : ℕ} → Answer 3 i
  bad : Answer 9 0
  over : Answer 10 0

cause_told : (c : Cause) (i n : ℕ) → told (outcome_of (number c) i n) ≡ record { answer = number c; position = i; count = n }
unfolding kind_by
cause_told C.TooLong i n = rw (refused_outcome C.TooLong i n, long_number) (told_long (place i) (count n))
cause_told C.Foreign i n = rw (refused_outcome C.Foreign i n, foreign_number) (told_foreign (place i) (count n))
cause_told C.PadPlace i n = rw (refused_outcome C.PadPlace i n, pad_number) (told_pad (place i) (count n))
cause_told C.Spare i n = rw (refused_outcome C.Spare i n, spare_number) (told_spare (place i) (count n))
cause_told C.AfterPad i n = rw (refused_outcome C.AfterPad i n, after_number) (told_after (place i) (count n))
cause_told C.Short i n = rw (refused_outcome C.Short i n, short_number) (told_short (place i) (count n))

answer_told : {k i : ℕ} → Answer k i → (n : ℕ) → told (outcome_of k i n) ≡ record { answer = k; position = i; count = n }
unfolding outcome_of kind_of
answer_told {i = i} accepted n = told_accepted (place i) (count n)
answer_told {i = i} (refused x) n = subst (λ (k : ℕ). told (outcome_of k i n) ≡ record { answer = k; position = i; count = n }) x.is (cause_told x.cause i n)
answer_told {i = i} full n = told_room (place i) (count n)
answer_told bad n = told_bad (count n)
answer_told over n = told_finished (count n)

abbrev Kept : S.Status → Type 0
Kept u = status_of (status_as u) ≡ u

kept_of : (u : Status) → Kept (status_of u)
kept_of u = ap status_of (status_back u)

record Regular (c : Called) : Type 0 where
  says : Answer c.answer c.position
  keeps : Kept c.stream.status

regular_tells : (c : Called) (out : List ℕ) → Regular c → Tells (returned c) out (filled c.wrote out) c
regular_tells c out r =
    let t = answer_told r.says (length c.wrote) in
    let n : (told (outcome_of c.answer c.position (length c.wrote))).count ≡ length c.wrote = ap (λ x. x.count) t in
    record {
      stream = rw r.keeps;
      answer = ap (λ x. x.answer) t;
      position = ap (λ x. x.position) t;
      took = refl;
      count = n;
      wrote = rw n (take_at c.wrote (drop (length c.wrote) out) (length c.wrote) refl);
      rest = rw n (drop_at c.wrote (drop (length c.wrote) out) (length c.wrote) refl);
    }

-- ---- the calls

closes_none : (s : Stream) (k : ℕ) → (closes s k).wrote ≡ []
unfolding closes
closes_none s k = refl

-- a finish writes nothing
pub nothing_written : (s : Stream) → (finish_of s).wrote ≡ []
nothing_written s = go (given s) refl s.status refl
  where
    go : (x : Bool) → given s ≡ x → (u : S.Status) → s.status ≡ u → (finish_of s).wrote ≡ []
    go false e u f = ap (λ (c : Called). c.wrote) (nine_sticks s e).finish
    go true e S.live f = ap (λ (c : Called). c.wrote) (live_finish s refl refl e f) ∙ closes_none s (ending s.alphabet s.options s.state)
    go true e (S.shut k) f = ap (λ (c : Called). c.wrote) (refusal_sticks s e f).finish
    go true e S.done f = ap (λ (c : Called). c.wrote) (ten_sticks s e f).finish

unmoved_regular : (r : Reader) {c : Called} {k i : ℕ} → Answer k i → c ≡ unmoved (stream_of r) k i → Regular c
unmoved_regular r x e = subst Regular (sym e) (record { says = x; keeps = kept_of r.status })

why_answer_law : (w : P.Why) → ((k : ℕ) → w ≡ P.refused k → IsCause k) → (i : ℕ) → Answer (why_answer w) i
unfolding why_answer
why_answer_law P.all f i = accepted
why_answer_law (P.refused k) f i = refused (f k refl)
why_answer_law P.full f i = full

why_kept : (w : P.Why) → ((k : ℕ) → w ≡ P.refused k → IsCause k) → Kept (why_status w)
unfolding why_status status_of status_as
why_kept P.all f = refl
why_kept (P.refused k) f = ap S.shut (number_back (f k refl))
why_kept P.full f = refl

ran_regular : (s : Stream) (q : P.Ran) → ((k : ℕ) → q.why ≡ P.refused k → IsCause k) → Regular (ran s q)
unfolding ran
ran_regular s q f = record { says = why_answer_law q.why f q.state.taken; keeps = why_kept q.why f }

closed_regular : (s : Stream) (k : ℕ) → (k ≡ 0) ⊎ IsCause k → Regular (closes s k)
unfolding closes end_status status_of status_as
closed_regular s k (inl e) = subst (λ (j : ℕ). Regular (closes s j)) (sym e) (record { says = accepted; keeps = refl })
closed_regular s k (inr x) =
    subst (λ (j : ℕ). Regular (closes s j)) x.is
    (record { says = refused (record { cause = x.cause; is = refl }); keeps = rw (some_number x.cause) (ap S.shut (ap number (cause_back x.cause))) })

module _ (r : Reader) where
  -- 9, 10 and an earlier refusal are regular, and what else a call gives is the rest
  in_order_law : (c : Called) → ((k i : ℕ) → Sticks (stream_of r) k i → c ≡ unmoved (stream_of r) k i)
      → (given (stream_of r) ≡ true → r.status ≡ U.Open → Regular c) → Regular c
  unfolding status_of
  in_order_law c sticks live = go (given (stream_of r)) refl r.status refl
    where
      go : (x : Bool) → given (stream_of r) ≡ x → (u : Status) → r.status ≡ u → Regular c
      go false e u f = unmoved_regular r bad (sticks 9 0 (nine_sticks (stream_of r) e))
      go true e U.Open f = live e f
      go true e (U.Shut c) f =
          unmoved_regular r (refused (record { cause = c; is = refl })) (sticks _ _ (refusal_sticks (stream_of r) e (rw f)))
      go true e U.Done f = unmoved_regular r over (sticks 10 0 (ten_sticks (stream_of r) e (rw f)))

  pub step_tells : (piece out : List ℕ) → Tells (stepped r piece out) out (written r piece out) (step_of (stream_of r) piece (length out))
  unfolding stepped written status_of
  step_tells piece out =
      regular_tells (step_of (stream_of r) piece (length out)) out
      (in_order_law (step_of (stream_of r) piece (length out)) (λ k i x. x.step piece (length out))
      (λ e f.
      let run : P.Ran = run_piece r.choice.alphabet r.choice.options piece (state_of r.core) (length out) in
      subst Regular (sym (live_step (stream_of r) refl refl e (rw f) piece (length out)))
      (ran_regular (stream_of r) run
      (ran_cause r.choice.alphabet r.choice.options (state_of r.core) piece (length out) run
      (piece_feeds r.choice.alphabet r.choice.options piece (state_of r.core) (length out) [] (given_says (stream_of r) e).readable.within)))))

  finish_none : (finish_of (stream_of r)).wrote ≡ []
  finish_none = nothing_written (stream_of r)

  pub finish_tells : Tells (finished r) [] [] (finish_of (stream_of r))
  unfolding finished status_of
  finish_tells =
      subst (λ (l : List ℕ). Tells (returned (finish_of (stream_of r))) [] (filled l []) (finish_of (stream_of r))) finish_none
      (regular_tells (finish_of (stream_of r)) []
      (in_order_law (finish_of (stream_of r)) (λ k i x. x.finish)
      (λ e f.
      subst Regular (sym (live_finish (stream_of r) refl refl e (rw f)))
      (closed_regular (stream_of r) (ending r.choice.alphabet r.choice.options (state_of r.core))
      (ended_cause (ended r.choice.alphabet r.choice.options (state_of r.core)))))))
