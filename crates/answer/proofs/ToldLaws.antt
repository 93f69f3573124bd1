-- An answer is determined by its number, its position and its count. Assumes nothing.
use Prim.Native.Nat.{ℕ}
use mathlib.Core.Path.{◌≡◌, refl, sym, ap, ◌∙◌}
use mathlib.Core.Bool.{false, cond}
use mathlib.Core.List.{[], ◌∷◌}
use lib.Dec.{eqb}
use lib.ListN.{get_or}
use Rattle.answer.specs.declared.Place.{Place}
use Rattle.answer.specs.declared.Kind.{Kind}
use Rattle.answer.specs.declared.Kind.TheVariants as K
use Rattle.answer.specs.declared.Outcome.{Outcome}
use Rattle.answer.specs.declared.Outcome.TheVariants as O
use Rattle.answer.specs.Told.{Told, number, position, told}

-- the refusal of a number at a position
kind : ℕ → ℕ → Kind
kind n i =
    get_or
    (K.Choice
    ∷ K.Choice
    ∷ K.TooLong p
    ∷ K.NoRoom p
    ∷ K.Foreign p
    ∷ K.PadPlace p
    ∷ K.Spare p
    ∷ K.AfterPad p
    ∷ K.Short p
    ∷ K.BadState
    ∷ K.Finished
    ∷ [])
    n
    K.Choice
  where
    p : Place
    p = record { 0 = i }

kind_back : (k : Kind) → kind (number k) (position k) ≡ k
unfolding kind number position
kind_back K.Choice = refl
kind_back (K.TooLong p) = refl
kind_back (K.NoRoom p) = refl
kind_back (K.Foreign p) = refl
kind_back (K.PadPlace p) = refl
kind_back (K.Spare p) = refl
kind_back (K.AfterPad p) = refl
kind_back (K.Short p) = refl
kind_back K.BadState = refl
kind_back K.Finished = refl

-- the answer of three numbers
outcome : Told → Outcome
outcome t =
    cond (eqb t.answer 0) (O.Accepted (record { 0 = t.position }) (record { 0 = t.count })) (O.Refused (kind t.answer t.position) (record { 0 = t.count }))

-- no refusal is answered 0
pub refusal : (k : Kind) → eqb (number k) 0 ≡ false
unfolding number
refusal K.Choice = refl
refusal (K.TooLong p) = refl
refusal (K.NoRoom p) = refl
refusal (K.Foreign p) = refl
refusal (K.PadPlace p) = refl
refusal (K.Spare p) = refl
refusal (K.AfterPad p) = refl
refusal (K.Short p) = refl
refusal K.BadState = refl
refusal K.Finished = refl

outcome_back : (o : Outcome) → outcome (told o) ≡ o
unfolding outcome told
outcome_back (O.Accepted p n) = refl
outcome_back (O.Refused k n) = rw (refusal k, kind_back k)

-- two answers with the same three numbers are one
pub told_determines : (x y : Outcome) → told x ≡ told y → x ≡ y
told_determines x y e = sym (outcome_back x) ∙ ap outcome e ∙ outcome_back y
