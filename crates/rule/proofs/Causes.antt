-- The number of each refusal, and that it settles the refusal. Assumes nothing.
use mathlib.Core.Path.{◌≡◌, refl}
use Rattle.answer.specs.declared.Place.{Place}
use Rattle.answer.specs.Told as Told
use Rattle.rule.specs.declared.Cause.{Cause}
use Rattle.rule.specs.declared.Cause.TheVariants as C
use Rattle.rule.specs.Meaning.{cause_of, number, kind_by}

pub cause_back : (c : Cause) → cause_of (number c) ≡ c
unfolding cause_of number
cause_back C.TooLong = refl
cause_back C.Foreign = refl
cause_back C.PadPlace = refl
cause_back C.Spare = refl
cause_back C.AfterPad = refl
cause_back C.Short = refl

pub long_number : number C.TooLong ≡ 2
unfolding number
long_number = refl

pub foreign_number : number C.Foreign ≡ 4
unfolding number
foreign_number = refl

pub pad_number : number C.PadPlace ≡ 5
unfolding number
pad_number = refl

pub spare_number : number C.Spare ≡ 6
unfolding number
spare_number = refl

pub after_number : number C.AfterPad ≡ 7
unfolding number
after_number = refl

pub short_number : number C.Short ≡ 8
unfolding number
short_number = refl

-- a refusal as an answer has its number and its place
pub kind_number : (c : Cause) (p : Place) → Told.number (kind_by c p) ≡ number c
unfolding Told.number kind_by number
kind_number C.TooLong p = refl
kind_number C.Foreign p = refl
kind_number C.PadPlace p = refl
kind_number C.Spare p = refl
kind_number C.AfterPad p = refl
kind_number C.Short p = refl

pub kind_position : (c : Cause) (p : Place) → Told.position (kind_by c p) ≡ p.0
unfolding Told.position kind_by
kind_position C.TooLong p = refl
kind_position C.Foreign p = refl
kind_position C.PadPlace p = refl
kind_position C.Spare p = refl
kind_position C.AfterPad p = refl
kind_position C.Short p = refl
