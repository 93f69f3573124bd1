-- A count that ends in answer 0: the text is accepted, and the state says how its cleaned text is spelled. Assumes nothing.
use Prim.Native.Nat.{ℕ, ◌<◌, ◌≤◌}
use mathlib.Core.Path.{◌≡◌, refl, sym, ap, ◌∙◌}
use mathlib.Core.Logic.{◌⊎◌, inl, inr}
use mathlib.Core.Bool.{true}
use mathlib.Core.List.{List, map}
use native.Mathlib.Omega.{arith}
use lib.ListN.{length, length-map}
use Rattle.alphabet.specs.Alphabet.{bits, digit}
use Rattle.alphabet.specs.Digits.{bytes_of, left_of}
use Rattle.alphabet.specs.Written.{written}
use Rattle.reading.specs.Options.{allowed}
use Rattle.reading.specs.Reader.{Verdict, going, fresh, ending, judged}
use Rattle.reading.specs.Piece as P
use Rattle.reading.specs.Piece.{run_piece}
use Rattle.reading.proofs.OptionLaws.{allowed_alphabet}
use Rattle.reading.proofs.ReaderLaws.{state}
use Rattle.reading.proofs.Seen.{Seen}
use Rattle.reading.proofs.Fronts.{read, seen_going}
use Rattle.reading.proofs.ZeroIsAccepted.{Closed, ended}
use Rattle.reading.proofs.WholeRun.{never_full, all_verdict, refused_verdict, refused_range, all_read}
use Rattle.tidier.specs.Spelling.{digits_among, spelt, spelled_out, Spelled}
use Rattle.block.proofs.Answers.{promised_of, within}
use Rattle.tidier.proofs.SpellingLaws.{among_shape}
use Rattle.tidier.proofs.TidyText.{spares_in_last, written_out}

refused_not_zero : {k : ℕ} → (k ≡ 2) ⊎ ((4 ≤ k) × (k ≤ 8)) → k ≡ 0 → ⊥
refused_not_zero (inl e) z = omega arith
refused_not_zero (inr x) z = omega (arith, x.0)

module _ (a opts : ℕ) (t : List ℕ) where
  module _ (ok : allowed a opts ≡ true) (zero : (judged a opts t).answer ≡ 0) where
    h : a < 6
    h = allowed_alphabet a opts ok

    abbrev ran : P.Ran
    ran = run_piece a opts t fresh (length t)

    reads_all : ran.why ≡ P.all
    reads_all = go ran.why refl
      where
        go : (w : P.Why) → ran.why ≡ w → ran.why ≡ P.all
        go P.all e = e
        go (P.refused k) e =
            absurd
            (refused_not_zero (refused_range a opts t (length t) k e) (sym (ap (λ (v : Verdict). v.answer) (refused_verdict a opts t (length t) k e)) ∙ zero))
        go P.full e = absurd (never_full a opts t (length t) (within a opts t ok) e)

    seen_all : Seen a opts t (read a opts t)
    seen_all = seen_going a h opts t (all_read a opts t (length t) reads_all)

    -- the state, by the values and pads seen
    same_state : (ran.state ≡ state a seen_all.values seen_all.pads (length t)) × (ran.wrote ≡ bytes_of (bits a) seen_all.values)
    same_state =
        let e : going ran.state ran.wrote ≡ going (state a seen_all.values seen_all.pads (length t)) (bytes_of (bits a) seen_all.values) =
        sym (all_read a opts t (length t) reads_all) ∙ seen_all.here in
        (cc, cc)

    closed : Closed a opts seen_all.values seen_all.pads
    closed =
        ended a h opts seen_all.values seen_all.pads (length t) seen_all.tailed
        (ap (ending a opts) (sym same_state.0) ∙ sym (ap (λ (v : Verdict). v.answer) (all_verdict a opts t (length t) reads_all)) ∙ zero)

    digits_are : spelt a opts t ≡ map (digit a) seen_all.values
    unfolding spelt
    digits_are = ap (digits_among a) seen_all.spelt ∙ among_shape a h seen_all.values seen_all.pads seen_all.below

    pub digits_counted : length (spelt a opts t) ≡ ran.state.digits
    digits_counted = rw same_state.0 (ap length digits_are ∙ length-map seen_all.values (digit a))

    pub accepted_spelled : Spelled a opts t ran.state.held
    accepted_spelled =
        rw same_state.0
        (record {
          choice = ok;
          clearable = λ l. rw digits_are (spares_in_last a h seen_all.values seen_all.below closed.few l);
          form =
              sym ((promised_of a opts t ok).form zero)
              ∙ ap (λ (v : Verdict). written a v.good) (all_verdict a opts t (length t) reads_all)
              ∙ ap (written a) same_state.1
              ∙ written_out a h seen_all.values seen_all.below closed.few
              ∙ ap (spelled_out a (left_of (bits a) seen_all.values)) (sym digits_are);
        })
