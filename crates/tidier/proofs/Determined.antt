-- Any two results of the tidier that its contract allows, with the buffer at exit, are equal. Assumes nothing.
use Prim.Native.Nat.{ℕ}
use mathlib.Core.Path.{◌≡◌, sym, ◌∙◌}
use mathlib.Core.List.{List}
use Rattle.answer.specs.declared.Outcome.{Outcome}
use Rattle.answer.proofs.ToldLaws.{told_determines}
use Rattle.tidier.specs.Tidy.{TidyAs}

pub tidy_determined : (a opts : ℕ) (t o : List ℕ) {r s : Outcome} {p q : List ℕ} → TidyAs a opts t o r p → TidyAs a opts t o s q → (r ≡ s) × (p ≡ q)
tidy_determined a opts t o {r} {s} x y = (told_determines r s (x.is ∙ sym y.is), x.buffer ∙ sym y.buffer)
