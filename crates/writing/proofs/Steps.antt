-- What a step of an open writer takes and refuses after any source, that offering again ends, and that any cutting and any rooms give the same.
-- Assumes nothing.
use Prim.Native.Nat.{ℕ, zero, suc, ◌+◌, ◌*◌, ◌/◌, ◌%◌, ◌<◌, ◌≤◌}
use mathlib.Core.Path.{◌≡◌, refl, sym, ap, ◌∙◌}
use mathlib.Core.Logic.{◌↔◌, ◌⊎◌, inl, inr}
use mathlib.Core.List.{List, ◌∷◌, ◌++◌}
use native.Mathlib.Nat.{div-lt_iff_lt-mul, mod-lt}
use native.Mathlib.Omega.{arith}
use lib.ListN.{length, take, length-append}
use lib.Seq.{length-take-le}
use Rattle.answer.specs.Told.{Told, told}
use Rattle.answer.proofs.ToldCases.{told_accepted, told_long, told_room}
use Rattle.alphabet.specs.Alphabet.{bits}
use Rattle.alphabet.specs.Written.{written, written_length}
use Rattle.alphabet.proofs.AlphabetLaws.{bits_low}
use Rattle.alphabet.proofs.Lengths.{written_length_law}
use Rattle.reading.specs.Limit.{limit}
use Rattle.spelling.specs.declared.Why.{Why}
use Rattle.spelling.specs.declared.Why.TheVariants as W
use Rattle.writing.specs.declared.Status.{Status}
use Rattle.writing.specs.declared.Status.TheVariants as U
use Rattle.writing.specs.declared.Writer.{Writer}
use Rattle.spelling.specs.Front.{front, held_of}
use Rattle.spelling.specs.Machine.{Run, full_runs}
use Rattle.writing.specs.Stream.{at, count, by_why, ran_of, step_of}
use Rattle.writing.specs.Moment.{Calls, After, handed}
use Rattle.spelling.proofs.RunLaws.{Because, front_more}
use Rattle.writing.proofs.Moments.{after_sound, ran_as, moments}
use Rattle.writing.proofs.Promises.{open_order}

-- how a step over a piece after a source ends: all is taken (0), the next byte would exceed the limit (2), or its digits do not all fit (3)
pub data Ends (a : ℕ) (src piece : List ℕ) (room answer took : ℕ) : Type 0 where
  all_taken : answer ≡ 0 → took ≡ length piece → Ends a src piece room answer took
  too_long : answer ≡ 2 → took < length piece → limit < length (written a (src ++ take (took + 1) piece)) → Ends a src piece room answer took
  no_room : answer ≡ 3 → took < length piece → length (written a (src ++ take (took + 1) piece)) ≤ limit
      → room + length (front a src) < length (front a (src ++ take (took + 1) piece)) → Ends a src piece room answer took

-- a byte completes one digit or two
two_most : (a n : ℕ) → a < 6 → full_runs (bits a) n ≤ 2
unfolding full_runs
two_most a n h =
    let b : ℕ = bits a in
    let l : 8 * n % b < b = mod-lt (8 * n) (omega (arith, bits_low a h)) in
    let k : (8 * n % b + 8) / b < 3 = (div-lt_iff_lt-mul {k = b} {x = 8 * n % b + 8} {y = 3} (omega (arith, bits_low a h))).1 (omega (arith, bits_low a h)) in
    omega arith

module _ {s : Writer} {src text : List ℕ} (m : After s src text) (o : s.status ≡ U.Open) (piece : List ℕ) (room : ℕ) where
  -- what the step gives, by why its run stopped
  step_is : step_of s piece room ≡ by_why (ran_of s piece room).why s (ran_of s piece room)
  unfolding step_of
  step_is = open_order s (by_why (ran_of s piece room).why s (ran_of s piece room)) (after_sound m) o

  -- the length of the written form through the next byte
  next_length : (k : ℕ) → k < length piece → length (written s.alphabet (src ++ take (k + 1) piece)) ≡ written_length s.alphabet (length src + k + 1)
  next_length k l =
      written_length_law s.alphabet (src ++ take (k + 1) piece)
      ∙ ap (written_length s.alphabet) (length-append src (take (k + 1) piece) ∙ ap (λ (n : ℕ). length src + n) (length-take-le (k + 1) piece (omega arith)) ∙ omega arith)

  ended : (w : Why) → Because w s.alphabet src piece room (ran_of s piece room).took
      → Ends s.alphabet src piece room (told (by_why w s (ran_of s piece room)).outcome).answer (by_why w s (ran_of s piece room)).took
  unfolding by_why
  ended W.All y = all_taken (ap (λ (t : Told). t.answer) (told_accepted _ _)) y
  ended W.Limit y = too_long (ap (λ (t : Told). t.answer) (told_long _ _)) y.0 (rw (next_length (ran_of s piece room).took y.0) y.1)
  ended W.Room y =
      no_room (ap (λ (t : Told). t.answer) (told_room _ _)) y.0 (rw (next_length (ran_of s piece room).took y.0) y.1) y.2

  pub step_ends : Ends s.alphabet src piece room (told (step_of s piece room).outcome).answer (step_of s piece room).took
  step_ends = rw step_is (ended (ran_of s piece room).why (ran_as m piece room).why)

  -- a byte is refused with 2 exactly when the finished text would exceed the limit
  pub refused_exactly : ((told (step_of s piece room).outcome).answer ≡ 2)
      ↔ (((step_of s piece room).took < length piece) × (limit < length (written s.alphabet (src ++ take ((step_of s piece room).took + 1) piece))))
  refused_exactly = (λ e. one step_ends e, λ l. other step_ends l)
    where
      one : {n k : ℕ} → Ends s.alphabet src piece room n k → n ≡ 2 → (k < length piece) × (limit < length (written s.alphabet (src ++ take (k + 1) piece)))
      one (all_taken e t) f = absurd (omega arith)
      one (too_long e t l) f = (t, l)
      one (no_room e t l r) f = absurd (omega arith)

      other : {n k : ℕ} → Ends s.alphabet src piece room n k → (k < length piece) × (limit < length (written s.alphabet (src ++ take (k + 1) piece))) → n ≡ 2
      other (all_taken e t) l = absurd (omega (arith, l.0))
      other (too_long e t l) f = e
      other (no_room e t l r) f = absurd (omega (arith, f.1))

-- a refusal with 2 is kept in the state, and its position is the bytes taken
pub refusal_kept : {s : Writer} {src text : List ℕ} (m : After s src text) (o : s.status ≡ U.Open) (piece : List ℕ) (room : ℕ)
    → (told (step_of s piece room).outcome).answer ≡ 2
    → ((step_of s piece room).state.status ≡ U.TooLong) × ((told (step_of s piece room).outcome).position ≡ (step_of s piece room).state.taken)
unfolding by_why
refusal_kept {s} m o piece room = rw (step_is m o piece room) (go (ran_of s piece room).why (ran_of s piece room))
  where
    go : (w : Why) (R : Run) → (told (by_why w s R).outcome).answer ≡ 2 → ((by_why w s R).state.status ≡ U.TooLong) × ((told (by_why w s R).outcome).position ≡ (by_why w s R).state.taken)
    go W.All R e = absurd (omega (arith, ap (λ (t : Told). t.answer) (told_accepted (at (s.taken + R.took)) (count (length R.wrote)))))
    go W.Limit R e = (refl, ap (λ (t : Told). t.position) (told_long (at (s.taken + R.took)) (count (length R.wrote))))
    go W.Room R e = absurd (omega (arith, ap (λ (t : Told). t.answer) (told_room (at (s.taken + R.took)) (count (length R.wrote)))))

-- with room for two digits and a byte offered, a step takes one or refuses it with 2
pub takes_or_refuses : {s : Writer} {src text : List ℕ} (m : After s src text) (o : s.status ≡ U.Open) (c : ℕ) (cs : List ℕ) (room : ℕ) → 2 ≤ room
    → (0 < (step_of s (c ∷ cs) room).took) ⊎ ((told (step_of s (c ∷ cs) room).outcome).answer ≡ 2)
takes_or_refuses {s} {src} m o c cs room h = go (step_of s (c ∷ cs) room).took (step_ends m o (c ∷ cs) room)
  where
    go : {n : ℕ} (k : ℕ) → Ends s.alphabet src (c ∷ cs) room n k → (0 < k) ⊎ (n ≡ 2)
    go k (all_taken e t) = inl (omega arith)
    go k (too_long e t l) = inr e
    go zero (no_room e t l r) = absurd (omega (arith, front_more s.alphabet m.known src c, two_most s.alphabet (length src) m.known))
    go (suc k) (no_room e t l r) = inl (omega arith)

-- any cutting and any rooms: the same source taken gives the same state and the same text
pub same_by_any_cutting : {src t u : List ℕ} {s r : Writer} → Calls src t s → Calls src u r → s.alphabet ≡ r.alphabet → s.status ≡ r.status → (s ≡ r) × (t ≡ u)
same_by_any_cutting {src} {t} {u} {s} {r} c d e f =
    let m : After s src t = moments c in
    let w : After r src u = moments d in
    let n : s.taken ≡ r.taken = m.taken ∙ sym w.taken in
    let h : s.held ≡ r.held = m.held ∙ ap (λ (a : ℕ). held_of (bits a) src) e ∙ sym w.held in (
      λ i. record { alphabet = e i; taken = n i; held = h i; status = f i },
      m.text_is ∙ ap (λ (a : ℕ). handed s.status a src) e ∙ ap (λ (v : Status). handed v r.alphabet src) f ∙ sym w.text_is,
    )

-- until a finish the text is the front of the source, and after it the whole written form
pub front_text : {src t : List ℕ} {s : Writer} → Calls src t s → (s.status ≡ U.Done → ⊥) → t ≡ front s.alphabet src
unfolding handed
front_text {src} {t} {s} c n = (moments c).text_is ∙ go s.status n
  where
    go : (u : Status) → (u ≡ U.Done → ⊥) → handed u s.alphabet src ≡ front s.alphabet src
    go U.Open f = refl
    go U.TooLong f = refl
    go U.Done f = absurd (f refl)

pub finished_text : {src t : List ℕ} {s : Writer} → Calls src t s → s.status ≡ U.Done → t ≡ written s.alphabet src
unfolding handed
finished_text {src} {t} {s} c e = (moments c).text_is ∙ ap (λ (v : Status). handed v s.alphabet src) e
