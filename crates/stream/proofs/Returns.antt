-- What the definitions of the calls give in the code's types: at 9, at 10, at an earlier refusal, from a run over the piece, and from the end of the
-- text; and so by what a state refuses to every call. Assumes nothing.
use Prim.Native.Nat.{ℕ}
use mathlib.Core.Path.{◌≡◌, refl, sym, ap, ◌∙◌, subst}
use mathlib.Core.Bool.{Bool, true, false, cond}
use mathlib.Core.List.{List, []}
use lib.Dec.{eqb}
use lib.ListN.{length, get_or}
use borrow.Author.Tests.{eqb-true, eqb-false}
use Rattle.std.specs.Prelude.{Some, None, Result, Ok, Err}
use Rattle.answer.specs.declared.Kind.{Kind}
use Rattle.answer.specs.declared.Kind.TheVariants as K
use Rattle.answer.specs.declared.Outcome.TheVariants as O
use Rattle.answer.specs.declared.Stepped.{Stepped}
use Rattle.reading.specs.Options.{allowed}
use Rattle.reading.specs.Reader.{State, fresh, ending}
use Rattle.reading.specs.Piece as P
use Rattle.reading.specs.Piece.{run_piece}
use Rattle.reading.proofs.PieceLimit.{PieceFeeds, piece_feeds}
use Rattle.reading.proofs.Refusals.{blame}
use Rattle.rule.specs.declared.Core.{Core}
use Rattle.rule.specs.declared.Cause.{Cause}
use Rattle.rule.specs.declared.choice.Choice.{Choice}
use Rattle.engine.specs.declared.piece.Ran.{Ran}
use Rattle.rule.specs.Meaning.{kind_by, state_of, number, end_of, core_of}
use Rattle.reading.specs.Buffer.{filled}
use Rattle.rule.specs.State.{ready}
use Rattle.engine.specs.Ran.{why_as, ran_as, run_as, run_bytes}
use Rattle.engine.proofs.FromFresh.{all_as, refused_as, full_as}
use Rattle.rule.proofs.Causes.{cause_back}
use Rattle.engine.proofs.States.{ready_runs, ready_bytes}
use Rattle.states.specs.declared.Status.{Status}
use Rattle.states.specs.declared.Status.TheVariants as U
use Rattle.stream.specs.declared.reader.Reader.{Reader}
use Rattle.streaming.specs.Stream.{live, start_of}
use Rattle.streaming.specs.Given.{given}
use Rattle.streaming.specs.Calls.{Called, unmoved, why_status, why_answer, ran, step_of, end_status, closes}
use Rattle.streaming.specs.Promises.{Sticks}
use Rattle.states.specs.Status.{status_of}
use Rattle.stream.specs.Stepped.{status_as, stream_of, place, count, kind_of, outcome_of, returned, stepped, written, finished, start_as, begun}
use Rattle.stream.specs.Packed.{reader, packed, untold, refused_by, refusal_of, by_why, as_step, as_end}
use Rattle.streaming.proofs.Order.{nine_sticks, ten_sticks, refusal_sticks, live_step, live_finish}
use Rattle.streaming.proofs.GivenLaws.{given_says}
use Rattle.states.proofs.Tests.{given_ready}
use Rattle.stream.proofs.Causes.{IsCause, long_cause, blame_cause, some_number, status_back, refused_outcome, cause_outcome}

-- ---- a start

pub start_allowed : (q : Choice) {k : Core} → allowed q.alphabet q.options ≡ true → k ≡ core_of fresh
    → Ok (reader q k U.Open) ≡ begun q.alphabet q.options
unfolding begun start_of start_as status_as
start_allowed q e f = rw (e, f)

pub start_declined : (a opts : ℕ) → allowed a opts ≡ false → Err K.Choice ≡ begun a opts
unfolding begun start_of start_as
start_declined a opts e = rw e

-- ---- what moves nothing

module _ (r : Reader) where
  -- answer k at i, as the refusal x
  pub record Unmoved (x : Kind) : Type 0 where
    pub answer : ℕ
    pub position : ℕ
    pub sticks : Sticks (stream_of r) answer position
    pub says : outcome_of answer position 0 ≡ O.Refused x (count 0)

  pub bad : given (stream_of r) ≡ false → Unmoved K.BadState
  unfolding outcome_of kind_of
  bad e = record { answer = 9; position = 0; sticks = nine_sticks (stream_of r) e; says = refl }

  pub over : given (stream_of r) ≡ true → r.status ≡ U.Done → Unmoved K.Finished
  unfolding outcome_of kind_of status_of
  over e f = record { answer = 10; position = 0; sticks = ten_sticks (stream_of r) e (rw f); says = refl }

  pub again : given (stream_of r) ≡ true → (c : Cause) → r.status ≡ U.Shut c → Unmoved (kind_by c (place r.core.taken))
  unfolding status_of
  again e c f =
      record {
        answer = number c;
        position = r.core.taken;
        sticks = refusal_sticks (stream_of r) e (rw f);
        says = refused_outcome c r.core.taken 0;
      }

  -- what the state refuses to every call moves nothing
  pub refuses : {x : Kind} → refusal_of r ≡ Some x → Unmoved x
  unfolding refusal_of refused_by
  refuses {x} e = go (given (stream_of r)) refl r.status refl (sym e)
    where
      go : (b : Bool) → given (stream_of r) ≡ b → (u : Status) → r.status ≡ u → Some x ≡ cond b (refused_by r.core u) (Some K.BadState) → Unmoved x
      go false f u g h = subst Unmoved (cc) (bad f)
      go true f U.Open g h = cc
      go true f (U.Shut c) g h = subst Unmoved (cc) (again f c g)
      go true f U.Done g h = subst Unmoved (cc) (over f g)

  -- a state that calls give, and that goes on
  pub record Goes : Type 0 where
    pub given : given (stream_of r) ≡ true
    pub is_open : r.status ≡ U.Open

  -- a state that refuses nothing to every call goes on
  pub goes : refusal_of r ≡ None → Goes
  unfolding refusal_of refused_by
  goes e = go (given (stream_of r)) refl r.status refl (sym e)
    where
      go : (b : Bool) → given (stream_of r) ≡ b → (u : Status) → r.status ≡ u → None ≡ cond b (refused_by r.core u) (Some K.BadState) → Goes
      go false f u g h = cc
      go true f U.Open g h = record { given = f; is_open = g }
      go true f (U.Shut c) g h = cc
      go true f U.Done g h = cc

  returned_back : {x : Kind} (u : Unmoved x) → returned (unmoved (stream_of r) u.answer u.position) ≡ untold r x
  returned_back u = rw (status_back r.status, u.says)

  module _ {x : Kind} (u : Unmoved x) {y : Stepped Reader} (e : y ≡ untold r x) where
    pub unmoved_step : (piece out : List ℕ) → (y ≡ stepped r piece out) × (out ≡ written r piece out)
    unfolding stepped written
    unmoved_step piece out =
        let s = u.sticks.step piece (length out) in
        (e ∙ sym (returned_back u) ∙ sym (ap returned s), rw s)

    pub unmoved_finish : y ≡ finished r
    unfolding finished
    unmoved_finish = e ∙ sym (returned_back u) ∙ sym (ap returned u.sticks.finish)

-- ---- a run

module _ (q : Choice) (s : State) (took n : ℕ) where
  why_returned : (w : P.Why) → ((k : ℕ) → w ≡ P.refused k → IsCause k)
      → by_why q (core_of s) took n (why_as w)
      ≡ packed (reader q (core_of s) (status_as (why_status w))) (outcome_of (why_answer w) s.taken n) took
  unfolding by_why why_status why_answer status_as outcome_of kind_of
  why_returned P.all f = rw all_as
  why_returned (P.refused k) f = rw (refused_as k, cause_outcome (f k refl) s.taken n)
  why_returned P.full f = rw full_as

-- what a run over a piece refuses with is a cause
pub ran_cause : (a opts : ℕ) (s : State) (piece : List ℕ) (room : ℕ) (r : P.Ran) → PieceFeeds a opts piece s room [] r
    → (k : ℕ) → r.why ≡ P.refused k → IsCause k
ran_cause a opts s piece room r f k e = go (eqb k 2) refl
  where
    go : (x : Bool) → eqb k 2 ≡ x → IsCause k
    go true q = subst IsCause (sym (eqb-true k 2 q)) long_cause
    go false q = blame_cause (blame a opts r.state (get_or piece r.took 0) k (f.refused_step k e (eqb-false k 2 q)))

module _ (r : Reader) (e : given (stream_of r) ≡ true) where
  pub is_ready : ready r.choice.alphabet r.choice.options r.core ≡ true
  unfolding given
  is_ready = given_ready r.choice.alphabet r.choice.options r.core (status_of r.status) e

  module _ (on : r.status ≡ U.Open) where
    going : status_of r.status ≡ live
    unfolding status_of
    going = rw on

    module _ (piece : List ℕ) (room : ℕ) where
      abbrev run : P.Ran
      run = run_piece r.choice.alphabet r.choice.options piece (state_of r.core) room

      feeds : PieceFeeds r.choice.alphabet r.choice.options piece (state_of r.core) room [] run
      feeds = piece_feeds r.choice.alphabet r.choice.options piece (state_of r.core) room [] (given_says (stream_of r) e).readable.within

      ran_returned : as_step r.choice (ran_as run) ≡ returned (step_of (stream_of r) piece room)
      unfolding ran
      ran_returned =
          why_returned r.choice run.state run.took (length run.wrote) run.why
          (ran_cause r.choice.alphabet r.choice.options (state_of r.core) piece room run feeds)
          ∙ sym (ap returned (live_step (stream_of r) refl refl e going piece room))

      ran_wrote : run.wrote ≡ (step_of (stream_of r) piece room).wrote
      unfolding ran
      ran_wrote = sym (ap (λ (c : Called). c.wrote) (live_step (stream_of r) refl refl e going piece room))

    pub open_step : (piece out : List ℕ) {q : Ran} {out' : List ℕ} {x : Stepped Reader}
        → (q ≡ run_as r.choice.alphabet r.choice.options r.core piece (length out))
        × (out' ≡ filled (run_bytes r.choice.alphabet r.choice.options r.core piece (length out)) out)
        → x ≡ as_step r.choice q → (x ≡ stepped r piece out) × (out' ≡ written r piece out)
    unfolding stepped written
    open_step piece out f g = (
      g
          ∙ ap (as_step r.choice) (f.0 ∙ ready_runs r.choice.alphabet r.choice.options r.core is_ready piece (length out))
          ∙ ran_returned piece (length out),
      f.1
          ∙ ap (λ (w : List ℕ). filled w out)
          (ready_bytes r.choice.alphabet r.choice.options r.core is_ready piece (length out) ∙ ran_wrote piece (length out)),
    )

    end_returned : (end : Result (Unit {0}) Cause) → as_end r.choice r.core end ≡ returned (closes (stream_of r) (end_of end))
    unfolding as_end closes end_status status_as outcome_of
    end_returned (Ok _) = refl
    end_returned (Err c) = rw (sym (refused_outcome c r.core.taken 0), some_number c, cause_back c)

    pub open_finish : (end : Result (Unit {0}) Cause) {x : Stepped Reader} → end_of end ≡ ending r.choice.alphabet r.choice.options (state_of r.core)
        → x ≡ as_end r.choice r.core end → x ≡ finished r
    unfolding finished
    open_finish end f g =
        g
        ∙ end_returned end
        ∙ ap (λ (k : ℕ). returned (closes (stream_of r) k)) f
        ∙ sym (ap returned (live_finish (stream_of r) refl refl e going))

-- ---- the calls, by what the state refuses to every call

module _ (r : Reader) where
  pub shut_stepped : {x : Kind} (piece out : List ℕ) → refusal_of r ≡ Some x → stepped r piece out ≡ untold r x
  shut_stepped piece out e = sym ((unmoved_step r (refuses r e) refl piece out).0)

  pub shut_written : {x : Kind} (piece out : List ℕ) → refusal_of r ≡ Some x → written r piece out ≡ out
  shut_written piece out e = sym ((unmoved_step r (refuses r e) refl piece out).1)

  pub shut_finished : {x : Kind} → refusal_of r ≡ Some x → finished r ≡ untold r x
  shut_finished e = sym (unmoved_finish r (refuses r e) refl)

  pub open_stepped : (piece out : List ℕ) → refusal_of r ≡ None
      → stepped r piece out ≡ as_step r.choice (run_as r.choice.alphabet r.choice.options r.core piece (length out))
  open_stepped piece out e = let x : Goes r = goes r e in sym ((open_step r x.given x.is_open piece out (refl, refl) refl).0)

  pub open_written : (piece out : List ℕ) → refusal_of r ≡ None
      → written r piece out ≡ filled (run_bytes r.choice.alphabet r.choice.options r.core piece (length out)) out
  open_written piece out e = let x : Goes r = goes r e in sym ((open_step r x.given x.is_open piece out (refl, refl) refl).1)

  pub open_finished : (end : Result (Unit {0}) Cause) → refusal_of r ≡ None → end_of end ≡ ending r.choice.alphabet r.choice.options (state_of r.core)
      → finished r ≡ as_end r.choice r.core end
  open_finished end e f = let x : Goes r = goes r e in sym (open_finish r x.given x.is_open end f refl)

-- what the methods give, for their proofs
pub ruleset calls = (start_allowed, start_declined, shut_stepped, shut_written, shut_finished, open_stepped, open_written, open_finished)
