-- What the tidier's code returns, by the place where it returns: the contract holds there. Assumes nothing.
use Prim.Native.Nat.{ℕ, ◌+◌, ◌<◌, ◌≤◌, ◌^◌}
use mathlib.Core.Path.{◌≡◌, refl, sym, ap, ◌∙◌, subst}
use mathlib.Core.Bool.{Bool, true, false, cond}
use mathlib.Core.List.{List, [], ◌++◌}
use native.Mathlib.Omega.{arith}
use lib.Dec.{T, eqb, ltb}
use lib.ListN.{length, drop}
use borrow.Author.Tests.{eq-eqb, lt-ltb, le-ltb}
use Rattle.answer.specs.declared.Place.{Place}
use Rattle.answer.specs.declared.Count.{Count}
use Rattle.answer.specs.declared.Kind.{Kind}
use Rattle.answer.specs.declared.Kind.TheVariants as K
use Rattle.answer.specs.declared.Outcome.{Outcome}
use Rattle.answer.specs.declared.Outcome.TheVariants as O
use Rattle.answer.specs.Told.{Told, number, position, told}
use Rattle.answer.proofs.ToldLaws.{refusal}
use Rattle.alphabet.specs.Alphabet.{group}
use Rattle.std.specs.Int.{next_multiple_of}
use Rattle.alphabet.proofs.WrittenLaws.{wanting_counted}
use Rattle.reading.specs.Options.{allowed}
use Rattle.reading.specs.Cleaning.{clean}
use Rattle.reading.specs.Reader.{judged}
use Rattle.reading.specs.Tidying.{Tidied}
use Rattle.reading.proofs.OptionLaws.{allowed_alphabet}
use Rattle.reading.proofs.LimitLaws.{limit_small}
use Rattle.reading.proofs.Tidied.{tidied_again}
use Rattle.engine.specs.declared.piece.Ran.{Ran}
use Rattle.reading.specs.Buffer.{filled}
use Rattle.engine.specs.Ran.{fresh_as}
use Rattle.engine.proofs.FromFresh.{fresh_runs}
use Rattle.block.specs.Whole.{choice, verdict, no_room, judge_of}
use Rattle.tidier.specs.Tidy.{tidy_of, tidy_text, TidyAs}
use Rattle.block.specs.Answered.{answered}
use Rattle.tidier.specs.Spelling.{spelt, Spelled}
use Rattle.block.proofs.Answers.{promised_of, count_answers}
use Rattle.tidier.proofs.AcceptedRun.{digits_counted, accepted_spelled}
use Rattle.tidier.proofs.CleanWritten.{clean_length}

-- the text is accepted, at the place p
pub record Accepts (a opts : ℕ) (t : List ℕ) (p : Place) : Type 0 where
  pub choice : allowed a opts ≡ true
  pub zero : (judged a opts t).answer ≡ 0
  pub place : p.0 ≡ length t

module _ (a opts : ℕ) (t : List ℕ) {ran : Ran} (counts : ran ≡ fresh_as a opts t) where
  judges : (r : Outcome) → told r ≡ answered a opts ran → told r ≡ judge_of a opts t
  judges r e = e ∙ ap (answered a opts) counts ∙ count_answers a opts t

  -- ---- the judge refuses

  refuses : (k : Kind) (n : Count) → told (O.Refused k n) ≡ judge_of a opts t → (room : ℕ)
      → (told (O.Refused k (record { 0 = 0 })) ≡ tidy_of a opts t room) × (tidy_text a opts t room ≡ [])
  unfolding told judge_of tidy_of tidy_text
  refuses k n e room = go (allowed a opts) e
    where
      go : (x : Bool) → told (O.Refused k n) ≡ cond x (verdict (judged a opts t)) choice
          → (◌≡◌ {A = Told} (record { answer = number k; position = position k; count = 0 })
          (cond x
          (cond (eqb (judged a opts t).answer 0)
          (cond (ltb room (length (clean a opts t))) (no_room (length (clean a opts t)))
          (record { answer = 0; position = length t; count = length (clean a opts t) }))
          (record { answer = (judged a opts t).answer; position = (judged a opts t).position; count = 0 }))
          choice))
          × (cond x (cond (eqb (judged a opts t).answer 0) (cond (ltb room (length (clean a opts t))) [] (clean a opts t)) []) [] ≡ [])
      go true e =
          let f : number k ≡ (judged a opts t).answer = ap (λ (x : Told). x.answer) e in
          let p : position k ≡ (judged a opts t).position = ap (λ (x : Told). x.position) e in
          let z : eqb (judged a opts t).answer 0 ≡ false = rw (← f) (refusal k) in
          (rw (z, f, p), rw z)
      go false e = (rw (ap (λ (x : Told). x.answer) e, ap (λ (x : Told). x.position) e), refl)

  pub refused : (o : List ℕ) {k : Kind} {n : Count} {r : Outcome} → told r ≡ answered a opts ran → r ≡ O.Refused k n
      → TidyAs a opts t o (O.Refused k (record { 0 = 0 })) o
  unfolding told
  refused o {k} {n} {r} e q =
      let d = refuses k n (sym (ap told q) ∙ judges r e) (length o) in
      record {
        is = d.0;
        buffer = ap (λ (w : List ℕ). filled w o) (sym d.1);
        promised = promised_of a opts t;
        tidied = λ z. absurd (subst T (sym (eq-eqb (number k) 0 z) ∙ refusal k) tt);
      }

  -- ---- the judge accepts

  pub accepts : {p : Place} {n : Count} {r : Outcome} → told r ≡ answered a opts ran → r ≡ O.Accepted p n → Accepts a opts t p
  unfolding told judge_of
  accepts {p} {n} {r} e q = go (allowed a opts) refl (sym (ap told q) ∙ judges r e)
    where
      go : (x : Bool) → allowed a opts ≡ x → ◌≡◌ {A = Told} (record { answer = 0; position = p.0; count = n.0 }) (cond x (verdict (judged a opts t)) choice)
          → Accepts a opts t p
      go true ok f =
          let z : (judged a opts t).answer ≡ 0 = sym (ap (λ (x : Told). x.answer) f) in
          record { choice = ok; zero = z; place = ap (λ (x : Told). x.position) f ∙ (promised_of a opts t ok).zero_place z }
      go false ok f = absurd (omega (arith, ap (λ (x : Told). x.answer) f))

  module _ {p : Place} (x : Accepts a opts t p) where
    pub known : a < 6
    known = allowed_alphabet a opts x.choice

    tidy : Tidied a opts t (judged a opts t).good
    tidy = tidied_again a opts x.choice t x.zero

    pub spells : Spelled a opts t ran.core.held
    spells =
        subst (λ (r : Ran). Spelled a opts t r.core.held) (sym (counts ∙ fresh_runs a opts t x.choice)) (accepted_spelled a opts t x.choice x.zero)

    module _ {g : ℕ} (q : g ≡ group a) where
      next_is : next_multiple_of ran.core.digits g ≡ length (clean a opts t)
      next_is =
          let d : length (spelt a opts t) ≡ ran.core.digits =
          digits_counted a opts t x.choice x.zero ∙ sym (ap (λ (r : Ran). r.core.digits) (counts ∙ fresh_runs a opts t x.choice)) in
          rw (q, ← d) (ap (λ (w : ℕ). length (spelt a opts t) + w) (wanting_counted (group a) (length (spelt a opts t))) ∙ sym (clean_length spells))

      pub need_small : next_multiple_of ran.core.digits g < 2 ^ 40
      need_small = omega (arith, next_is, tidy.fits, limit_small)

      pub need_is : {need : ℕ} → need ≡ next_multiple_of ran.core.digits g → need ≡ length (clean a opts t)
      need_is e = e ∙ next_is

    module _ (o : List ℕ) {need : ℕ} (e : need ≡ length (clean a opts t)) where
      pub lacking : length o < need → TidyAs a opts t o (O.Refused (K.NoRoom (record { 0 = 0 })) (record { 0 = need })) o
      unfolding told number position tidy_of tidy_text
      lacking l =
          let z : eqb (judged a opts t).answer 0 ≡ true = eq-eqb _ _ x.zero in
          let b : ltb (length o) (length (clean a opts t)) ≡ true = lt-ltb (length o) (length (clean a opts t)) (omega arith) in
          record {
            is = rw (x.choice, z, b, e);
            buffer = rw (x.choice, z, b);
            promised = promised_of a opts t;
            tidied = λ q. absurd (omega arith);
          }

      pub tidied : need ≤ length o → {w : List ℕ} → w ≡ clean a opts t → TidyAs a opts t o (O.Accepted p (record { 0 = need })) (w ++ drop need o)
      unfolding told tidy_of tidy_text
      tidied l f =
          let z : eqb (judged a opts t).answer 0 ≡ true = eq-eqb _ _ x.zero in
          let b : ltb (length o) (length (clean a opts t)) ≡ false = le-ltb (length o) (length (clean a opts t)) (omega arith) in
          record {
            is = rw (x.choice, z, b, x.place, e);
            buffer = rw (x.choice, z, b, f, e);
            promised = promised_of a opts t;
            tidied = λ q. tidy;
          }
