-- Up to the limit a step refuses a byte exactly when no continuation could save the text with it. Assumes nothing.
use Prim.Native.Nat.{ℕ, ◌+◌, ◌<◌, ◌≤◌}
use mathlib.Core.Path.{◌≡◌, sym, ap, ◌∙◌, subst, subst₂}
use mathlib.Core.Logic.{◌⊎◌, inl, inr, ⊎_elim}
use mathlib.Core.List.{List, [], ◌∷◌, ◌++◌, append_assoc}
use native.Mathlib.Numerals.{add-one}
use native.Mathlib.Omega.{arith}
use lib.ListN.{length, take, get_or, length-append}
use lib.Seq.{take-length, take-suc}
use Rattle.alphabet.specs.Bits.{Below}
use Rattle.reading.specs.Limit.{limit}
use Rattle.reading.specs.Continuation.{Continued}
use Rattle.reading.specs.Promises.{BlamesByte, LostAt}
use Rattle.reading.specs.Reader.{State, gives, refuses, going, fresh, step, feed_all, judged}
use Rattle.reading.proofs.OptionLaws.{allowed_alphabet}
use Rattle.reading.proofs.Continuations.{read_continued}
use Rattle.reading.proofs.Fronts.{seen_going}
use Rattle.reading.proofs.Joined.{reads_on, judged_refused}
use Rattle.reading.proofs.Meaning.{promised}
use Rattle.reading.proofs.Positions.{refuses_range}
use Rattle.reading.proofs.Taking.{reads_one}
use Rattle.streaming.specs.Stream.{live, Stream}
use Rattle.streaming.specs.Calls.{Called, step_of}
use Rattle.streaming.specs.Reached.{Calls, stepped}
use Rattle.streaming.specs.Promises.{AfterCalls, TookAll, RefusedNext, NextNeedsRoom, RefusesExactly}
use Rattle.streaming.proofs.Standing.{standing}
use Rattle.streaming.proofs.AfterCalls.{after_any_calls}
use Rattle.streaming.proofs.Reaching.{calls_given}
use Rattle.streaming.proofs.GoesOn.{step_goes_on}

-- ---- one byte after a text that is read

module _ (a : ℕ) (h : a < 6) (opts : ℕ) (t : List ℕ) (s : State) (out : List ℕ) (e : feed_all a opts (going fresh []) t ≡ going s out) (c : ℕ) where
  refused_lost : {k : ℕ} → length t < limit → step a opts s c ≡ refuses k → s.taken ≡ length t → Continued a opts (t ++ c ∷ []) → ⊥
  refused_lost {k} l f n m =
      let j : judged a opts (t ++ c ∷ []) ≡ record { answer = k; position = s.taken; good = out } = judged_refused a opts t c [] s out k e f l in
      let size : length (t ++ c ∷ []) ≡ length t + 1 = length-append t (c ∷ []) in
      let blames : BlamesByte (judged a opts (t ++ c ∷ [])) (length t) =
      rw j (record { place = n; low = (refuses_range a opts s c k f).0; high = (refuses_range a opts s c k f).1 }) in
      let lost : LostAt a opts (t ++ c ∷ []) (length t) = ((promised a h opts (t ++ c ∷ [])).byte_refused (length t) (omega arith) l).0 blames in
      lost.through (subst (Continued a opts) (sym (take-length (t ++ c ∷ [])) ∙ ap (λ (i : ℕ). take i (t ++ c ∷ [])) size) m)

  gives_continued : (x : ℕ) (n : State) → step a opts s c ≡ gives x n → Continued a opts (t ++ c ∷ [])
  gives_continued x n f =
      read_continued a h opts (t ++ c ∷ []) _
      (seen_going a h opts (t ++ c ∷ []) (reads_on a opts t (c ∷ []) s n out (out ++ x ∷ []) e (reads_one a opts s n out c x f)))

-- ---- a step

module _ {a opts : ℕ} {t out : List ℕ} {s : Stream} (k : Calls a opts t out s) (f : s.status ≡ live) (piece : List ℕ) (b : Below 256 piece) (room : ℕ) where
  c : Called
  c = step_of s piece room

  h : a < 6
  h = allowed_alphabet a opts (standing k).choice

  after : AfterCalls a opts (t ++ take c.took piece) (out ++ c.wrote) c.stream
  unfolding c
  after = after_any_calls (stepped k piece b room)

  more : c.took < length piece → t ++ take (c.took + 1) piece ≡ t ++ take c.took piece ++ get_or piece c.took 0 ∷ []
  more l =
      ap (λ (u : List ℕ). t ++ u) (ap (λ (n : ℕ). take n piece) (add-one c.took) ∙ take-suc piece c.took 0 l)
      ∙ sym (append_assoc t (take c.took piece) (get_or piece c.took 0 ∷ []))

  abbrev Lost : Type 0
  Lost = Continued a opts (t ++ take (c.took + 1) piece) → ⊥

  to : TookAll piece c ⊎ (RefusedNext a opts piece c ⊎ NextNeedsRoom a opts piece room c) → (4 ≤ c.answer) × (c.answer ≤ 7) → Lost
  to (inl x) r = absurd (omega (arith, r.0, x.answer))
  to (inr (inl x)) r =
      ⊎_elim (λ y. absurd (omega (arith, r.0, y.0)))
      (λ y m. refused_lost a h opts (t ++ take c.took piece) c.stream.state (out ++ c.wrote) after.reads (get_or piece c.took 0)
      (omega (arith, y.0, x.place, after.taken)) y.1 after.taken (subst (Continued a opts) (more x.inside) m))
      x.why
  to (inr (inr x)) r = absurd (omega (arith, r.0, x.answer))

  from : TookAll piece c ⊎ (RefusedNext a opts piece c ⊎ NextNeedsRoom a opts piece room c) → c.took < length piece → c.position < limit → Lost
      → (4 ≤ c.answer) × (c.answer ≤ 7)
  from (inl x) l p n = absurd (omega (arith, x.took))
  from (inr (inl x)) l p n =
      ⊎_elim (λ y. absurd (omega (arith, y.1))) (λ y. refuses_range a opts c.stream.state (get_or piece c.took 0) c.answer y.1) x.why
  from (inr (inr x)) l p n =
      absurd
      (n
      (subst (Continued a opts) (sym (more l))
      (gives_continued a h opts (t ++ take c.took piece) c.stream.state (out ++ c.wrote) after.reads (get_or piece c.took 0) x.byte x.next x.needs)))

  pub refuses_exactly : RefusesExactly a opts t piece (step_of s piece room)
  unfolding c
  refuses_exactly =
      let stops : TookAll piece c ⊎ (RefusedNext a opts piece c ⊎ NextNeedsRoom a opts piece room c) =
      subst₂ (λ (p q : ℕ). TookAll piece c ⊎ (RefusedNext p q piece c ⊎ NextNeedsRoom p q piece room c)) (standing k).alphabet (standing k).options
      (step_goes_on s (calls_given k) f piece room).stops in
      record { continued = after.continued; exactly = λ l p. (to stops, from stops l p) }
