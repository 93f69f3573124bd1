-- The three numbers of an answer, case by case. Assumes nothing.
use mathlib.Core.Path.{◌≡◌, refl}
use Rattle.answer.specs.declared.Place.{Place}
use Rattle.answer.specs.declared.Count.{Count}
use Rattle.answer.specs.declared.Kind.{Kind}
use Rattle.answer.specs.declared.Kind.TheVariants as K
use Rattle.answer.specs.declared.Outcome.TheVariants as O
use Rattle.answer.specs.Told.{number, position, told}

pub told_accepted : (p : Place) (n : Count) → told (O.Accepted p n) ≡ record { answer = 0; position = p.0; count = n.0 }
unfolding told
told_accepted p n = refl

pub told_refused : (k : Kind) (n : Count) → told (O.Refused k n) ≡ record { answer = number k; position = position k; count = n.0 }
unfolding told
told_refused k n = refl

pub told_choice : (n : Count) → told (O.Refused K.Choice n) ≡ record { answer = 1; position = 0; count = n.0 }
unfolding told number position
told_choice n = refl

pub told_long : (p : Place) (n : Count) → told (O.Refused (K.TooLong p) n) ≡ record { answer = 2; position = p.0; count = n.0 }
unfolding told number position
told_long p n = refl

pub told_room : (p : Place) (n : Count) → told (O.Refused (K.NoRoom p) n) ≡ record { answer = 3; position = p.0; count = n.0 }
unfolding told number position
told_room p n = refl

pub told_bad : (n : Count) → told (O.Refused K.BadState n) ≡ record { answer = 9; position = 0; count = n.0 }
unfolding told number position
told_bad n = refl

pub told_finished : (n : Count) → told (O.Refused K.Finished n) ≡ record { answer = 10; position = 0; count = n.0 }
unfolding told number position
told_finished n = refl

pub told_foreign : (p : Place) (n : Count) → told (O.Refused (K.Foreign p) n) ≡ record { answer = 4; position = p.0; count = n.0 }
unfolding told number position
told_foreign p n = refl

pub told_pad : (p : Place) (n : Count) → told (O.Refused (K.PadPlace p) n) ≡ record { answer = 5; position = p.0; count = n.0 }
unfolding told number position
told_pad p n = refl

pub told_spare : (p : Place) (n : Count) → told (O.Refused (K.Spare p) n) ≡ record { answer = 6; position = p.0; count = n.0 }
unfolding told number position
told_spare p n = refl

pub told_after : (p : Place) (n : Count) → told (O.Refused (K.AfterPad p) n) ≡ record { answer = 7; position = p.0; count = n.0 }
unfolding told number position
told_after p n = refl

pub told_short : (p : Place) (n : Count) → told (O.Refused (K.Short p) n) ≡ record { answer = 8; position = p.0; count = n.0 }
unfolding told number position
told_short p n = refl
