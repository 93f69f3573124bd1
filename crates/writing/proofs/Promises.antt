-- What the stream's functions promise, from what their code returns: case by case, and the text handed out read off the buffer. Assumes nothing.
use Prim.Native.Nat.{ℕ, ◌+◌, ◌<◌, ◌≤◌}
use mathlib.Core.Path.{◌≡◌, refl, sym, ap, ◌∙◌}
use mathlib.Core.Bool.{Bool, true, false, cond}
use mathlib.Core.List.{List}
use lib.Dec.{ltb}
use lib.ListN.{length, drop}
use lib.Seq.{paste, take-append_seam}
use borrow.Author.Tests.{lt-ltb, le-ltb}
use Rattle.answer.specs.declared.Kind.{Kind}
use Rattle.answer.specs.declared.Kind.TheVariants as K
use Rattle.answer.specs.declared.Outcome.{Outcome}
use Rattle.answer.specs.declared.Outcome.TheVariants as O
use Rattle.answer.specs.declared.Stepped.{Stepped}
use Rattle.answer.specs.Told.{Told, told}
use Rattle.answer.proofs.ToldCases.{told_accepted, told_refused}
use Rattle.spelling.specs.declared.Why.{Why}
use Rattle.spelling.specs.declared.Why.TheVariants as W
use Rattle.writing.specs.declared.Status.{Status}
use Rattle.writing.specs.declared.Status.TheVariants as U
use Rattle.writing.specs.declared.Ran.{Ran}
use Rattle.writing.specs.declared.front.Front.{Front}
use Rattle.writing.specs.declared.Writer.{Writer}
use Rattle.spelling.specs.Front.{ending}
use Rattle.spelling.specs.Machine.{Run, run}
use Rattle.writing.specs.Stream.{at, count, sound, Turn, unmoved, closed, by_why, close, by_status, in_order, ran_of, step_of, finish_of}
use Rattle.reading.specs.Buffer.{filled}
use Rattle.writing.specs.Promised.{RanAs, given, as_stepped, opened, OpenAs, ShutAs, MovedAs, ClosedAs, handed_out, SteppedAs, FinishedAs}
use Rattle.writing.proofs.NumberLaws.{step_numbers_law, finish_numbers_law}
use Rattle.writing.proofs.Moments.{step_moment, finish_moment}
use Rattle.spelling.proofs.EndingLaws.{paste_front}

-- ---- the count told is the length of the text written

abbrev Counted : Turn → Type 0
Counted t = (told t.outcome).count ≡ length t.wrote

count_unmoved : (s : Writer) (k : Kind) → Counted (unmoved s k)
count_unmoved s k = ap (λ (x : Told). x.count) (told_refused k (count 0))

count_why : (w : Why) (s : Writer) (R : Run) → Counted (by_why w s R)
unfolding by_why
count_why W.All s R = ap (λ (x : Told). x.count) (told_accepted _ _)
count_why W.Limit s R = ap (λ (x : Told). x.count) (told_refused _ _)
count_why W.Room s R = ap (λ (x : Told). x.count) (told_refused _ _)

count_close : (s : Writer) (e : List ℕ) (room : ℕ) → Counted (close s e room)
unfolding close
count_close s e room = go (ltb room (length e)) refl
  where
    go : (t : Bool) → ltb room (length e) ≡ t → Counted (close s e room)
    go true l = rw l (count_unmoved s (K.NoRoom (at s.taken)))
    go false l = rw l (ap (λ (x : Told). x.count) (told_accepted _ _))

count_status : (u : Status) (s : Writer) (t : Turn) → Counted t → Counted (by_status u s t)
unfolding by_status
count_status U.Open s t c = c
count_status U.TooLong s t c = count_unmoved s (K.TooLong (at s.taken))
count_status U.Done s t c = count_unmoved s K.Finished

count_order : (s : Writer) (t : Turn) → Counted t → Counted (in_order s t)
unfolding in_order
count_order s t c = go (sound s)
  where
    go : (x : Bool) → Counted (cond x (by_status s.status s t) (unmoved s K.BadState))
    go true = count_status s.status s t c
    go false = count_unmoved s K.BadState

pub step_counts : (s : Writer) (piece : List ℕ) (room : ℕ) → Counted (step_of s piece room)
unfolding step_of
step_counts s piece room = count_order s _ (count_why (ran_of s piece room).why s (ran_of s piece room))

pub finish_counts : (s : Writer) (room : ℕ) → Counted (finish_of s room)
unfolding finish_of
finish_counts s room = count_order s _ (count_close s (ending s.alphabet s.taken s.held) room)

-- what is read off the buffer is what was written
read_off : (t : Turn) (r : Stepped Writer) (o o' : List ℕ) → Counted t → r ≡ as_stepped t → o' ≡ filled t.wrote o → handed_out r o' ≡ t.wrote
read_off t r o o' c e b = rw (e, b, c) (take-append_seam t.wrote (drop (length t.wrote) o))

-- ---- from the equation to the promise

pub step_promise : (s : Writer) (piece o o' : List ℕ) (r : Stepped Writer) → r ≡ as_stepped (step_of s piece (length o)) → o' ≡ filled (step_of s piece (length o)).wrote o
    → SteppedAs s piece o o' r
step_promise s piece o o' r e b =
    record {
      result = e;
      buffer = b;
      answer = rw e (step_numbers_law s piece (length o));
      moment = λ src text m.
          rw (read_off (step_of s piece (length o)) r o o' (step_counts s piece (length o)) e b, e) (step_moment m piece (length o));
    }

pub finish_promise : (s : Writer) (o o' : List ℕ) (r : Stepped Writer) → r ≡ as_stepped (finish_of s (length o)) → o' ≡ filled (finish_of s (length o)).wrote o
    → FinishedAs s o o' r
finish_promise s o o' r e b =
    record {
      result = e;
      buffer = b;
      answer = rw e (finish_numbers_law s (length o));
      moment = λ src text m. rw (read_off (finish_of s (length o)) r o o' (finish_counts s (length o)) e b, e) (finish_moment m (length o));
    }

-- ---- a run's answer as a step's

abbrev pub status_by : Why → Status
status_by W.All = U.Open
status_by W.Limit = U.TooLong
status_by W.Room = U.Open

abbrev pub outcome_by : Why → ℕ → ℕ → Outcome
outcome_by W.All n m = O.Accepted (at n) (count m)
outcome_by W.Limit n m = O.Refused (K.TooLong (at n)) (count m)
outcome_by W.Room n m = O.Refused (K.NoRoom (at n)) (count m)

wrote_why : (w : Why) (s : Writer) (R : Run) → R.wrote ≡ (by_why w s R).wrote
unfolding by_why
wrote_why W.All s R = refl
wrote_why W.Limit s R = refl
wrote_why W.Room s R = refl

same_why : (w : Why) (s : Writer) (R : Run)
    → given (record { alphabet = s.alphabet; taken = s.taken + R.took; held = R.held; status = status_by w }) (outcome_by w (s.taken + R.took) (length R.wrote)) R.took
    ≡ as_stepped (by_why w s R)
unfolding by_why
same_why W.All s R = refl
same_why W.Limit s R = refl
same_why W.Room s R = refl

pub moved : (a n held : ℕ) (piece o : List ℕ) (w : Why) {o' : List ℕ} {x : Ran} {r : Stepped Writer} → RanAs (run a n held piece (length o)) x o o' → x.why ≡ w
    → r ≡ given (record { alphabet = a; taken = n + x.taken; held = x.held; status = status_by w }) (outcome_by w (n + x.taken) x.written) x.taken
    → MovedAs a n held piece o o' r
moved a n held piece o w ran e f =
    let s : Writer = opened a n held in
    let R : Run = run a n held piece (length o) in
    let k : R.why ≡ w = sym ran.why ∙ e in
    record {
      result = f ∙ rw (ran.held, ran.taken, ran.written) (same_why w s R) ∙ ap (λ (v : Why). as_stepped (by_why v s R)) (sym k);
      buffer = ran.buffer ∙ ap (λ (t : List ℕ). filled t o) (wrote_why R.why s R);
    }

-- ---- the cases as the code takes them, by the order in a call

pub bad_order : (s : Writer) (t : Turn) → sound s ≡ false → in_order s t ≡ unmoved s K.BadState
unfolding in_order
bad_order s t e = ap (λ (x : Bool). cond x (by_status s.status s t) (unmoved s K.BadState)) e

pub in_order_law : (s : Writer) (t : Turn) {u : Status} → sound s ≡ true → s.status ≡ u → in_order s t ≡ by_status u s t
unfolding in_order
in_order_law s t e f =
    ap (λ (x : Bool). cond x (by_status s.status s t) (unmoved s K.BadState)) e ∙ ap (λ (v : Status). by_status v s t) f

pub long_order : (s : Writer) (t : Turn) → sound s ≡ true → s.status ≡ U.TooLong → in_order s t ≡ unmoved s (K.TooLong (at s.taken))
unfolding by_status
long_order s t e f = in_order_law s t e f

pub done_order : (s : Writer) (t : Turn) → sound s ≡ true → s.status ≡ U.Done → in_order s t ≡ unmoved s K.Finished
unfolding by_status
done_order s t e f = in_order_law s t e f

pub open_order : (s : Writer) (t : Turn) → sound s ≡ true → s.status ≡ U.Open → in_order s t ≡ t
unfolding by_status
open_order s t e f = in_order_law s t e f

module _ (s : Writer) (piece o : List ℕ) where
  step_by : (t : Turn) (o' : List ℕ) (r : Stepped Writer) → step_of s piece (length o) ≡ t → r ≡ as_stepped t → o' ≡ filled t.wrote o → SteppedAs s piece o o' r
  step_by t o' r q e b = step_promise s piece o o' r (rw q e) (rw q b)

  finish_by : (t : Turn) (o' : List ℕ) (r : Stepped Writer) → finish_of s (length o) ≡ t → r ≡ as_stepped t → o' ≡ filled t.wrote o → FinishedAs s o o' r
  finish_by t o' r q e b = finish_promise s o o' r (rw q e) (rw q b)

  pub step_shut : {k : Kind} {r : Stepped Writer} → ShutAs s k → r ≡ as_stepped (unmoved s k) → SteppedAs s piece o o r
  unfolding step_of
  step_shut {k} {r} e f = step_by (unmoved s k) o r (e _) f refl

  pub finish_shut : {k : Kind} {r : Stepped Writer} → ShutAs s k → r ≡ as_stepped (unmoved s k) → FinishedAs s o o r
  unfolding finish_of
  finish_shut {k} {r} e f = finish_by (unmoved s k) o r (e _) f refl

  module _ {f : Front} (k : OpenAs s f) where
    pub step_open : {o' : List ℕ} {r : Stepped Writer} → MovedAs f.alphabet f.taken f.held piece o o' r → SteppedAs s piece o o' r
    unfolding step_of ran_of
    step_open {o'} {r} m =
        let T : Writer → Turn = λ w. by_why (ran_of w piece (length o)).why w (ran_of w piece (length o)) in
        step_by (T s) o' r (k.goes_on _)
        (m.result ∙ ap (λ (w : Writer). as_stepped (T w)) (sym k.state))
        (m.buffer ∙ ap (λ (w : Writer). filled (T w).wrote o) (sym k.state))

    pub finish_open : {o' : List ℕ} {r : Stepped Writer} → ClosedAs f.alphabet f.taken f.held o o' r → FinishedAs s o o' r
    unfolding finish_of
    finish_open {o'} {r} m =
        let T : Writer → Turn = λ w. close w (ending w.alphabet w.taken w.held) (length o) in
        finish_by (T s) o' r (k.goes_on _)
        (m.result ∙ ap (λ (w : Writer). as_stepped (T w)) (sym k.state))
        (m.buffer ∙ ap (λ (w : Writer). filled (T w).wrote o) (sym k.state))

-- ---- the finish of an open writer

module _ (a n held : ℕ) (o : List ℕ) {need : ℕ} (e : need ≡ length (ending a n held)) where
  pub closed_short : (r : Stepped Writer) → length o < need → r ≡ as_stepped (unmoved (opened a n held) (K.NoRoom (at n))) → ClosedAs a n held o o r
  unfolding close
  closed_short r l f = let k : ltb (length o) (length (ending a n held)) ≡ true = lt-ltb (length o) (length (ending a n held)) (rw e at l) in record { result = rw k f; buffer = rw k }

  pub closed_done : (o' : List ℕ) (r : Stepped Writer) → need ≤ length o → o' ≡ paste o 0 (ending a n held) (length (ending a n held))
      → r ≡ given (closed (opened a n held)) (O.Accepted (at n) (count need)) 0 → ClosedAs a n held o o' r
  unfolding close
  closed_done o' r l p f =
      let k : ltb (length o) (length (ending a n held)) ≡ false = le-ltb (length o) (length (ending a n held)) (rw e at l) in
      record { result = rw k (rw e at f); buffer = rw k (p ∙ paste_front o (ending a n held)) }
