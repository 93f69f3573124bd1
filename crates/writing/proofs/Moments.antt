-- T4: whatever calls were made from a start, the state is that of the source taken and the text handed out is the front of its written form, the
-- whole of it after a finish. Assumes nothing.
use Prim.Native.Nat.{ℕ, ◌+◌, ◌*◌, ◌%◌, ◌^◌, ◌<◌, ◌≤◌}
use mathlib.Core.Path.{◌≡◌, refl, sym, ap, ◌∙◌, subst}
use mathlib.Core.Bool.{Bool, true, false}
use mathlib.Core.List.{List, [], ◌∷◌, ◌++◌, append-nil}
use native.Mathlib.Omega.{arith}
use lib.Dec.{ltb}
use lib.ListN.{length, take, length-append}
use lib.Seq.{length-take-le}
use borrow.Author.Tests.{ltb-true, lt-ltb, le-leb}
use Rattle.alphabet.specs.Alphabet.{bits}
use Rattle.alphabet.specs.Written.{written, written_length}
use Rattle.alphabet.proofs.AlphabetLaws.{bits_low}
use Rattle.std.specs.Prelude.{Result, Ok, Err}
use Rattle.answer.specs.declared.Kind.{Kind}
use Rattle.answer.specs.declared.Kind.TheVariants as K
use Rattle.alphabet.proofs.Lengths.{written_length_law}
use Rattle.reading.specs.Limit.{limit}
use Rattle.spelling.specs.declared.Why.{Why}
use Rattle.spelling.specs.declared.Why.TheVariants as W
use Rattle.writing.specs.declared.Status.{Status}
use Rattle.writing.specs.declared.Status.TheVariants as U
use Rattle.writing.specs.declared.Writer.{Writer}
use Rattle.spelling.specs.Front.{front, held_of, ending, rest}
use Rattle.spelling.specs.Machine.{Run}
use Rattle.writing.specs.Stream.{fresh, start_of, fits_status, sound_by, sound, Turn, moved, by_why, close, by_status, in_order, ran_of, step_of, finish_of}
use Rattle.writing.specs.Moment.{Calls, start, step, finish, handed, After}
use Rattle.spelling.proofs.FrontLaws.{held_none, full_flow, front_none, front_rest}
use Rattle.spelling.proofs.LengthLaws.{none_within}
use Rattle.spelling.proofs.RunLaws.{RunAs, Because, run_means}

-- one byte more, as a length
pub longer : (a : ℕ) (src : List ℕ) (c : ℕ) → length (written a (src ++ c ∷ [])) ≡ written_length a (length src + 1)
longer a src c = written_length_law a (src ++ c ∷ []) ∙ ap (written_length a) (length-append src (c ∷ []))

module _ {s : Writer} {src text : List ℕ} (m : After s src text) where
  pub source_within : written_length s.alphabet (length src) ≤ limit
  source_within = rw (written_length_law s.alphabet src) at m.within

  fits : (u : Status) → s.status ≡ u → fits_status u s.alphabet (length src) ≡ true
  unfolding fits_status
  fits U.Open e = refl
  fits U.TooLong e = lt-ltb limit (written_length s.alphabet (length src + 1)) (rw (longer s.alphabet src 0) at (m.shut e 0))
  fits U.Done e = refl

  -- it passes the test
  pub after_sound : sound s ≡ true
  unfolding sound_by
  after_sound =
      rw
      (m.taken, m.held, lt-ltb s.alphabet 6 m.known, le-leb (written_length s.alphabet (length src)) limit source_within, lt-ltb (held_of (bits s.alphabet) src) (2 ^ (8 * length src % bits s.alphabet)) (full_flow (bits s.alphabet) (omega (arith, bits_low s.alphabet m.known)) src).small, fits s.status refl)

  -- what takes and writes nothing changes nothing
  same : {t : List ℕ} → t ≡ [] → (piece : List ℕ) → After s (src ++ take 0 piece) (text ++ t)
  same e piece = rw (e, append-nil src, append-nil text) m

-- ---- one call more

-- what a call gives is the state after what it took, with what it wrote
abbrev Onward : List ℕ → List ℕ → List ℕ → Turn → Type 0
Onward src text piece t = After t.state (src ++ take t.took piece) (text ++ t.wrote)

no_long : {A : Type 0} {u : Status} → u ≡ U.Open → u ≡ U.TooLong → A
no_long e f = let z : ◌≡◌ {A = ℕ} 0 1 = cc in absurd (omega arith)

module _ {s : Writer} {src text : List ℕ} (m : After s src text) where
  in_turn : (t : Turn) → in_order s t ≡ by_status s.status s t
  unfolding in_order
  in_turn t = rw (after_sound m)

  stays : After s (src ++ []) (text ++ [])
  stays = rw (append-nil src, append-nil text) m

  module _ (o : s.status ≡ U.Open) where
    text_front : text ≡ front s.alphabet src
    unfolding handed
    text_front = rw o at m.text_is

    module _ (piece : List ℕ) (room : ℕ) (R : Run) (r : RunAs s.alphabet src piece room R) where
      taken_is : s.taken + R.took ≡ length (src ++ take R.took piece)
      taken_is = rw (m.taken, length-append src (take R.took piece), length-take-le R.took piece r.short)

      moved_after : (u : Status) → handed u s.alphabet (src ++ take R.took piece) ≡ front s.alphabet (src ++ take R.took piece)
          → (u ≡ U.TooLong → limit < written_length s.alphabet (length src + R.took + 1))
          → After (moved s R u) (src ++ take R.took piece) (text ++ R.wrote)
      moved_after u e f =
          record {
            known = m.known;
            taken = taken_is;
            held = r.held;
            within = rw (written_length_law s.alphabet (src ++ take R.took piece), ← taken_is, m.taken) r.within;
            shut = λ g c. rw (longer s.alphabet (src ++ take R.took piece) c, ← taken_is, m.taken) (f g);
            text_is = rw (e, text_front) r.text;
          }

      by_why_law : (w : Why) → Because w s.alphabet src piece room R.took → Onward src text piece (by_why w s R)
      unfolding by_why handed
      by_why_law W.All y = moved_after U.Open refl (λ e. no_long refl e)
      by_why_law W.Limit y = moved_after U.TooLong refl (λ e. y.1)
      by_why_law W.Room y = moved_after U.Open refl (λ e. no_long refl e)

  pub ran_as : (piece : List ℕ) (room : ℕ) → RunAs s.alphabet src piece room (ran_of s piece room)
  unfolding ran_of
  ran_as piece room = rw (m.taken, m.held) (run_means s.alphabet m.known src piece room (source_within m))

  pub step_moment : (piece : List ℕ) (room : ℕ) → Onward src text piece (step_of s piece room)
  unfolding step_of by_status
  step_moment piece room = rw (in_turn (by_why (ran_of s piece room).why s (ran_of s piece room))) (go s.status refl)
    where
      go : (u : Status) → s.status ≡ u → Onward src text piece (by_status u s (by_why (ran_of s piece room).why s (ran_of s piece room)))
      go U.Open e = by_why_law e piece room (ran_of s piece room) (ran_as piece room) (ran_of s piece room).why (ran_as piece room).why
      go U.TooLong e = stays
      go U.Done e = stays

  -- a finish: with room the written form is complete
  finished : s.status ≡ U.Open → (room : ℕ) (e : List ℕ) → ending s.alphabet s.taken s.held ≡ e → After (close s e room).state src (text ++ (close s e room).wrote)
  unfolding close rest handed
  finished o room e q = go (ltb room (length e)) refl
    where
      go : (t : Bool) → ltb room (length e) ≡ t → After (close s e room).state src (text ++ (close s e room).wrote)
      go true l = rw (l, append-nil text) m
      go false l =
          rw l
          (record {
            known = m.known;
            taken = m.taken;
            held = m.held;
            within = m.within;
            shut = λ g c. let z : ◌≡◌ {A = ℕ} 0 1 = cc in absurd (omega arith);
            text_is = rw (← q, text_front o, m.taken, m.held) (front_rest s.alphabet m.known src);
          })

  pub finish_moment : (room : ℕ) → After (finish_of s room).state src (text ++ (finish_of s room).wrote)
  unfolding finish_of by_status
  finish_moment room = rw (in_turn (close s (ending s.alphabet s.taken s.held) room)) (go s.status refl)
    where
      t : Turn
      t = close s (ending s.alphabet s.taken s.held) room

      go : (u : Status) → s.status ≡ u → After (by_status u s t).state src (text ++ (by_status u s t).wrote)
      go U.Open e = finished e room (ending s.alphabet s.taken s.held) refl
      go U.TooLong e = rw (append-nil text) m
      go U.Done e = rw (append-nil text) m

-- ---- all calls

fresh_moment : (a : ℕ) → a < 6 → After (fresh a) [] []
unfolding fresh handed
fresh_moment a h =
    record {
      known = h;
      taken = refl;
      held = sym (held_none (bits a) (omega (arith, bits_low a h)));
      within = rw (written_length_law a []) (none_within a h);
      shut = λ g c. let z : ◌≡◌ {A = ℕ} 0 1 = cc in absurd (omega arith);
      text_is = sym (front_none a h);
    }

start_moment : (a : ℕ) {s : Writer} → start_of a ≡ Ok s → After s [] []
unfolding start_of
start_moment a {s} e = go (ltb a 6) refl
  where
    go : (t : Bool) → ltb a 6 ≡ t → After s [] []
    go true l =
        let q : ◌≡◌ {A = Result Writer Kind} (Ok (fresh a)) (Ok s) = rw l at e in
        let r : fresh a ≡ s = cc in
        subst (λ (x : Writer). After x [] []) r (fresh_moment a (ltb-true a 6 l))
    go false l =
        let q : ◌≡◌ {A = Result Writer Kind} (Err K.Choice) (Ok s) = rw l at e in
        let z : ◌≡◌ {A = ℕ} 0 1 = cc in
        absurd (omega arith)

pub moments : {src text : List ℕ} {s : Writer} → Calls src text s → After s src text
moments (start a e) = start_moment a e
moments (step c piece b room) = step_moment (moments c) piece room
moments (finish c room) = finish_moment (moments c) room
