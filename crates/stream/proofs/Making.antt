-- Sequences of calls of the methods are sequences of calls of the definitions, and the other way. Assumes nothing.
use Prim.Native.Nat.{ℕ}
use mathlib.Core.Path.{◌≡◌, refl, sym, ap, ◌∙◌, ap₂, subst}
use mathlib.Core.Logic.{◌↔◌, ⊎_elim}
use mathlib.Core.Bool.{true}
use mathlib.Core.List.{List, ◌++◌, append-nil}
use native.Mathlib.Omega.{arith}
use lib.ListN.{length, take, replicate, length-replicate}
use Rattle.std.specs.Prelude.{Ok}
use Rattle.reading.specs.Reader.{State}
use Rattle.reading.proofs.Refusals.{blame, Ended, ended}
use Rattle.stream.specs.declared.reader.Reader.{Reader}
use Rattle.streaming.specs.Stream.{Status, live, shut, done, Stream, Start, declined, started, start_of}
use Rattle.streaming.specs.Given.{given}
use Rattle.streaming.specs.Calls.{Called, step_of, finish_of}
use Rattle.streaming.specs.Reached as R
use Rattle.streaming.specs.Reached.{Calls, Reachable}
use Rattle.states.specs.Status.{status_of}
use Rattle.stream.specs.Stepped.{status_as, stream_of, reader_of, stepped, finished, start_as, begun}
use Rattle.stream.specs.Made.{Made, starts, steps, finishes, Reached}
use Rattle.streaming.proofs.Standing.{Refusal, at_limit, at_byte, at_end, Stands}
use Rattle.streaming.proofs.GivenLaws.{given_says}
use Rattle.streaming.proofs.Reaching.{calls_given, given_reached}
use Rattle.stream.proofs.Causes.{IsCause, long_cause, blame_cause, ended_cause, number_back, reader_back}
use Rattle.stream.proofs.Telling.{step_tells, finish_tells, nothing_written}

-- ---- a stream that calls give is that of its reader

refusal_cause : {a opts : ℕ} {s : State} {k : ℕ} → Refusal a opts s k → IsCause k
refusal_cause (at_limit e) = long_cause
refusal_cause {a} {opts} {s} (at_byte {k = k} l c b e) = blame_cause (blame a opts s c k e)
refusal_cause {a} {opts} {s} (at_end e l) = ⊎_elim (λ z. absurd (omega arith)) (λ x. x) (ended_cause (subst (Ended a opts s) e (ended a opts s)))

module _ (a opts : ℕ) (s : State) where
  stands_back : (u : Status) → Stands a opts s u → status_of (status_as u) ≡ u
  unfolding status_of status_as
  stands_back live x = refl
  stands_back (shut k) x = ap shut (number_back (refusal_cause x))
  stands_back done x = refl

pub stream_back : (s : Stream) → given s ≡ true → stream_of (reader_of s) ≡ s
stream_back s e = rw (stands_back s.alphabet s.options s.state s.status (given_says s e).stands)

-- ---- from the methods to the definitions

pub start_tells : (a opts : ℕ) (r : Reader) → begun a opts ≡ Ok r → start_of a opts ≡ started (stream_of r)
unfolding begun start_as
start_tells a opts r e = go (start_of a opts) refl e
  where
    go : (x : Start) → start_of a opts ≡ x → start_as x ≡ Ok r → start_of a opts ≡ started (stream_of r)
    go declined f e = let z : ◌≡◌ {A = ℕ} 0 1 = cc in absurd (omega arith)
    go (started s) f e =
        let q : reader_of s ≡ r = cc in
        f ∙ ap started (sym (stream_back s (calls_given (R.begun f))) ∙ ap stream_of q)

module _ {a opts : ℕ} where
  calls_at : {t t' out out' : List ℕ} {s s' : Stream} → t ≡ t' → out ≡ out' → s ≡ s' → Calls a opts t out s → Calls a opts t' out' s'
  calls_at {t' = t'} {out} {out'} {s} {s'} e f g k =
      subst (λ (x : Stream). Calls a opts t' out' x) g (subst (λ (x : List ℕ). Calls a opts t' x s) f (subst (λ (x : List ℕ). Calls a opts x out s) e k))

  pub made_calls : {t out : List ℕ} {r : Reader} → Made a opts t out r → Calls a opts t out (stream_of r)
  made_calls (starts {r = r} e) = R.begun (start_tells a opts r e)
  made_calls (steps {t = t} {out = out} {r = r} m piece b buffer) =
      let x = step_tells r piece buffer in
      calls_at (ap (λ (n : ℕ). t ++ take n piece) (sym x.took)) (ap (λ (w : List ℕ). out ++ w) (sym x.wrote)) (sym x.stream)
      (R.stepped (made_calls m) piece b (length buffer))
  made_calls (finishes {t = t} {out = out} {r = r} m) =
      calls_at refl (ap (λ (w : List ℕ). out ++ w) (nothing_written (stream_of r)) ∙ append-nil out) (sym (finish_tells r).stream) (R.closed (made_calls m))

  -- ---- and back

  made_at : {t t' out out' : List ℕ} {r r' : Reader} → t ≡ t' → out ≡ out' → r ≡ r' → Made a opts t out r → Made a opts t' out' r'
  made_at {t' = t'} {out} {out'} {r} {r'} e f g m =
      subst (λ (x : Reader). Made a opts t' out' x) g (subst (λ (x : List ℕ). Made a opts t' x r) f (subst (λ (x : List ℕ). Made a opts x out r) e m))

  pub calls_made : {t out : List ℕ} {s : Stream} → Calls a opts t out s → Made a opts t out (reader_of s)
  unfolding begun start_as
  calls_made (R.begun e) = starts (ap start_as e)
  calls_made (R.stepped {t = t} {out = out} {s = s} k piece b room) =
      let buffer : List ℕ = replicate room 0 in
      let e : step_of (stream_of (reader_of s)) piece (length buffer) ≡ step_of s piece room =
      ap₂ (λ (x : Stream) (n : ℕ). step_of x piece n) (stream_back s (calls_given k)) (length-replicate room 0) in
      let x = step_tells (reader_of s) piece buffer in
      made_at (ap (λ (n : ℕ). t ++ take n piece) (x.took ∙ ap (λ (c : Called). c.took) e))
      (ap (λ (w : List ℕ). out ++ w) (x.wrote ∙ ap (λ (c : Called). c.wrote) e))
      (sym (reader_back (stepped (reader_of s) piece buffer).state) ∙ ap reader_of (x.stream ∙ ap (λ (c : Called). c.stream) e))
      (steps (calls_made k) piece b buffer)
  calls_made (R.closed {t = t} {out = out} {s = s} k) =
      let e : finish_of (stream_of (reader_of s)) ≡ finish_of s = ap finish_of (stream_back s (calls_given k)) in
      made_at refl (sym (append-nil out) ∙ ap (λ (w : List ℕ). out ++ w) (sym (nothing_written s)))
      (sym (reader_back (finished (reader_of s)).state) ∙ ap reader_of ((finish_tells (reader_of s)).stream ∙ ap (λ (c : Called). c.stream) e))
      (finishes (calls_made k))

-- ---- the states that calls leave

pub reached_given : (r : Reader) → Reached r → given (stream_of r) ≡ true
reached_given r x = calls_given (made_calls x.made)

pub given_made : (r : Reader) → given (stream_of r) ≡ true → Reached r
given_made r e =
    let x : Reachable (stream_of r) = given_reached (stream_of r) e in
    record {
      alphabet = x.alphabet;
      options = x.options;
      text = x.text;
      out = x.out;
      made = subst (Made x.alphabet x.options x.text x.out) (reader_back r) (calls_made x.calls);
    }

pub reached_exactly : (r : Reader) → Reachable (stream_of r) ↔ Reached r
reached_exactly r = (
  λ x. given_made r (calls_given x.calls),
  λ x. record { alphabet = x.alphabet; options = x.options; text = x.text; out = x.out; calls = made_calls x.made },
)
