-- What the whole writer promises, by what it measured, and that its buffer has the written form. Assumes nothing.
use Prim.Native.Nat.{ℕ, ◌+◌, ◌<◌, ◌≤◌}
use mathlib.Core.Path.{◌≡◌, refl, sym, ap, ◌∙◌}
use mathlib.Core.List.{List, []}
use native.Mathlib.Omega.{arith}
use lib.Dec.{eqb}
use lib.ListN.{length, drop, length-append}
use lib.Seq.{paste, take-length, take_at, drop-append-add, drop-drop}
use Rattle.answer.specs.declared.Outcome.{Outcome}
use Rattle.answer.specs.declared.Outcome.TheVariants as O
use Rattle.answer.specs.declared.Kind.{Kind}
use Rattle.answer.specs.declared.Place.{Place}
use Rattle.answer.specs.declared.Count.{Count}
use Rattle.answer.specs.Told.{Told, told}
use Rattle.answer.proofs.ToldCases.{told_accepted, told_refused}
use Rattle.answer.proofs.ToldLaws.{refusal}
use Rattle.alphabet.specs.Alphabet.{bits}
use Rattle.alphabet.specs.Written.{written, written_length}
use Rattle.alphabet.proofs.AlphabetLaws.{bits_low}
use Rattle.reading.specs.Limit.{limit}
use Rattle.reading.specs.Buffer.{filled}
use Rattle.spelling.specs.Front.{front, held_of, ending, rest}
use Rattle.spelling.specs.Machine.{run}
use Rattle.spelling.specs.Whole.{write_of}
use Rattle.spelling.specs.Size.{FormFits}
use Rattle.spelling.specs.Sound.{Sound}
use Rattle.spelling.proofs.FrontLaws.{full_flow, front_length, front_rest}
use Rattle.spelling.proofs.EndingLaws.{ending_length}
use Rattle.spelling.proofs.Through.{Through, runs_through}
use Rattle.spelling.proofs.MeasureLaws.{accepted, refused}
use Rattle.writing.specs.declared.Ran.{Ran}
use Rattle.writing.specs.Promised.{RanAs, WroteAs}

module _ (a : ℕ) (src o : List ℕ) {r : Outcome} (e : told r ≡ (write_of a src (length o)).told) where
  pub accepted_fits : (p : Place) (q : Count) → r ≡ O.Accepted p q → FormFits a src (length o)
  accepted_fits p q f = (accepted a src (length o) (ap (λ (t : Told). t.answer) (sym e ∙ ap told f ∙ told_accepted p q))).0

  pub wrote_all : (p : Place) (q : Count) → r ≡ O.Accepted p q → {o' : List ℕ} → o' ≡ filled (written a src) o → WroteAs a src o o' r
  wrote_all p q f b =
      let t : (write_of a src (length o)).text ≡ written a src = (accepted a src (length o) (ap (λ (t : Told). t.answer) (sym e ∙ ap told f ∙ told_accepted p q))).1 in
      record { answer = e; buffer = rw t b }

  pub wrote_none : (k : Kind) (q : Count) → r ≡ O.Refused k q → WroteAs a src o o r
  wrote_none k q f =
      let t : (write_of a src (length o)).text ≡ [] =
      refused a src (length o) (ap (λ (t : Told). eqb t.answer 0) (sym e ∙ ap told f ∙ told_refused k q) ∙ refusal k) in
      record { answer = e; buffer = rw t }

-- ---- the front laid by the run, and the ending after it

module _ (a : ℕ) (h : a < 6) (src o o' : List ℕ) (r : Ran) (w : written_length a (length src) ≤ limit) (l : written_length a (length src) ≤ length o)
    (ran : RanAs (run a 0 0 src (length o)) r o o') where
  room_for_front : length (front a src) ≤ length o
  room_for_front = omega (arith, front_length a h src, ending_length a (length src) 0 h)

  through : Through a src (run a 0 0 src (length o))
  through = runs_through a h src (length o) w room_for_front

  held_is : r.held ≡ held_of (bits a) src
  held_is = ran.held ∙ through.held

  pub source_sound : Sound a (length src) r.held
  source_sound = record { known = h; within = w; small = rw held_is (full_flow (bits a) (omega (arith, bits_low a h)) src).small }

  at_is : r.written ≡ length (front a src)
  at_is = ran.written ∙ ap length through.wrote

  front_laid : o' ≡ filled (front a src) o
  front_laid = ran.buffer ∙ ap (λ (x : List ℕ). filled x o) through.wrote

  pub room_for_ending : r.written + length (ending a (length src) r.held) ≤ length o
  room_for_ending = rw at_is (omega (arith, front_length a h src, ending_length a (length src) r.held h))

  pub whole_laid : paste o' r.written (ending a (length src) r.held) (length (ending a (length src) r.held)) ≡ filled (written a src) o
  unfolding rest
  whole_laid =
      let f : List ℕ = front a src in
      let e : List ℕ = rest a src in
      rw (held_is, at_is, front_laid, take_at f (drop (length f) o) (length f) refl, drop-append-add f (drop (length f) o) (length e), take-length e, drop-drop (length e) (length f) o, ← length-append f e, front_rest a h src)
