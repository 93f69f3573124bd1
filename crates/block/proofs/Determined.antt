-- Any two results of a whole call that its contract allows, with the buffer at exit, are equal. Assumes nothing.
use Prim.Native.Nat.{ℕ}
use mathlib.Core.Path.{◌≡◌, sym, ◌∙◌}
use mathlib.Core.List.{List}
use Rattle.answer.specs.declared.Outcome.{Outcome}
use Rattle.answer.proofs.ToldLaws.{told_determines}
use Rattle.answer.specs.Told.{told}
use Rattle.engine.specs.declared.piece.Ran.{Ran}
use Rattle.block.specs.Answered.{answered}
use Rattle.block.specs.Calls.{JudgeAs, ReadAs, InPlaceAs}

pub outcome_determined : (a opts : ℕ) (ran : Ran) {r s : Outcome} → told r ≡ answered a opts ran → told s ≡ answered a opts ran → r ≡ s
outcome_determined a opts ran {r} {s} x y = told_determines r s (x ∙ sym y)

pub judge_determined : (a opts : ℕ) (t : List ℕ) {r s : Outcome} → JudgeAs a opts t r → JudgeAs a opts t s → r ≡ s
judge_determined a opts t {r} {s} x y = told_determines r s (x.is ∙ sym y.is)

pub read_determined : (a opts : ℕ) (t o : List ℕ) {r s : Outcome} {p q : List ℕ} → ReadAs a opts t o r p → ReadAs a opts t o s q → (r ≡ s) × (p ≡ q)
read_determined a opts t o {r} {s} x y = (told_determines r s (x.is ∙ sym y.is), x.buffer ∙ sym y.buffer)

pub in_place_determined : (a opts : ℕ) (t : List ℕ) {r s : Outcome} {p q : List ℕ} → InPlaceAs a opts t r p → InPlaceAs a opts t s q → (r ≡ s) × (p ≡ q)
in_place_determined a opts t {r} {s} x y = (told_determines r s (x.is ∙ sym y.is), x.buffer ∙ sym y.buffer)
