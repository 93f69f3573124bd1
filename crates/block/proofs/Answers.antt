-- What the engine's runs over a whole text answer is what the judge and the readers are to answer, and they give the good bytes. Assumes nothing.
use Prim.Native.Nat.{ℕ, ◌≤◌}
use mathlib.Core.Path.{◌≡◌, refl, sym, ap, ◌∙◌}
use mathlib.Core.Bool.{Bool, true, false, cond}
use mathlib.Core.List.{List, []}
use lib.ListN.{length}
use Rattle.answer.proofs.ToldCases.{told_accepted, told_refused, told_choice, told_room}
use Rattle.reading.specs.Options.{allowed}
use Rattle.reading.specs.Reader.{Verdict, fresh, judged}
use Rattle.reading.specs.Promises.{Promised}
use Rattle.reading.specs.Piece as P
use Rattle.reading.specs.Piece.{run_piece}
use Rattle.reading.proofs.OptionLaws.{allowed_alphabet}
use Rattle.reading.proofs.Meaning.{promised}
use Rattle.reading.proofs.GoodCount.{good_within}
use Rattle.reading.proofs.WholeRun.{never_full, all_verdict, refused_verdict, refused_range}
use Rattle.rule.proofs.Causes.{kind_number, kind_position}
use Rattle.engine.specs.Ran.{ran_as, fresh_as, fresh_bytes}
use Rattle.engine.proofs.FromFresh.{all_as, refused_as, number_cause, fresh_runs, fresh_runs_bytes, fresh_unfit, fresh_unfit_bytes}
use Rattle.block.specs.Whole.{verdict, choice, judge_of, in_place_bytes}
use Rattle.block.specs.Answered.{answered_by, answered}

module _ (a opts : ℕ) (t : List ℕ) where
  pub promised_of : allowed a opts ≡ true → Promised a opts t (judged a opts t)
  promised_of e = promised a (allowed_alphabet a opts e) opts t

  -- a run with room for the good bytes stands for the verdict
  module _ (room : ℕ) (ok : allowed a opts ≡ true) (enough : length (judged a opts t).good ≤ room) where
    abbrev ran : P.Ran
    ran = run_piece a opts t fresh room

    pub run_answers : answered a opts (ran_as (run_piece a opts t fresh room)) ≡ verdict (judged a opts t)
    unfolding answered_by
    run_answers = go ran.why refl
      where
        go : (w : P.Why) → ran.why ≡ w → answered a opts (ran_as ran) ≡ verdict (judged a opts t)
        go P.all e = rw (e, all_as) (sym (ap verdict (all_verdict a opts t room e)))
        go (P.refused k) e = rw (e, refused_as k, number_cause k (refused_range a opts t room k e)) (sym (ap verdict (refused_verdict a opts t room k e)))
        go P.full e = absurd (never_full a opts t room enough e)

    pub run_gives : (run_piece a opts t fresh room).wrote ≡ (judged a opts t).good
    run_gives = go ran.why refl
      where
        go : (w : P.Why) → ran.why ≡ w → ran.wrote ≡ (judged a opts t).good
        go P.all e = sym (ap (λ (v : Verdict). v.good) (all_verdict a opts t room e))
        go (P.refused k) e = sym (ap (λ (v : Verdict). v.good) (refused_verdict a opts t room k e))
        go P.full e = absurd (never_full a opts t room enough e)

  -- counted alone, or in place: room never lacks
  pub within : allowed a opts ≡ true → length (judged a opts t).good ≤ length t
  within e = good_within a (allowed_alphabet a opts e) opts t

  pub count_answers : answered a opts (fresh_as a opts t) ≡ judge_of a opts t
  unfolding judge_of answered_by
  count_answers = go (allowed a opts) refl
    where
      go : (x : Bool) → allowed a opts ≡ x → answered a opts (fresh_as a opts t) ≡ cond x (verdict (judged a opts t)) choice
      go true e = rw (fresh_runs a opts t e) (run_answers (length t) e (within e))
      go false e = rw (fresh_unfit a opts t e)

  pub in_place_gives : fresh_bytes a opts t ≡ in_place_bytes a opts t
  unfolding in_place_bytes
  in_place_gives = go (allowed a opts) refl
    where
      go : (x : Bool) → allowed a opts ≡ x → fresh_bytes a opts t ≡ cond x (judged a opts t).good []
      go true e = fresh_runs_bytes a opts t e ∙ run_gives (length t) e (within e)
      go false e = fresh_unfit_bytes a opts t e

-- an answer in 01's numbers, by its case
pub ruleset cases = (told_accepted, told_refused, told_choice, told_room, kind_number, kind_position)
