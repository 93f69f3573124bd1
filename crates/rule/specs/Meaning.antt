-- What the reader's state, a refusal and an end mean in the definitions of `reading`. Assumes nothing.
use Rattle.std.specs.Prelude.{ℕ, [], ◌∷◌, get_or, Result, Ok, Err}
use Rattle.answer.specs.declared.Place.{Place}
use Rattle.answer.specs.declared.Kind.{Kind}
use Rattle.answer.specs.declared.Kind.TheVariants as K
use Rattle.reading.specs.Reader.{State}
use Rattle.rule.specs.declared.Core.{Core}
use Rattle.rule.specs.declared.Cause.{Cause}
use Rattle.rule.specs.declared.Cause.TheVariants as C

abbrev pub state_of : Core → State
state_of k = record { digits = k.digits; held = k.held; pads = k.pads; taken = k.taken }

abbrev pub core_of : State → Core
core_of s = record { digits = s.digits; held = s.held; pads = s.pads; taken = s.taken }

-- 01's number of a refusal
unfoldable pub number : Cause → ℕ
number C.TooLong = 2
number C.Foreign = 4
number C.PadPlace = 5
number C.Spare = 6
number C.AfterPad = 7
number C.Short = 8

-- the refusal of 01's number
unfoldable pub cause_of : ℕ → Cause
cause_of k = get_or (C.TooLong ∷ C.TooLong ∷ C.TooLong ∷ C.TooLong ∷ C.Foreign ∷ C.PadPlace ∷ C.Spare ∷ C.AfterPad ∷ C.Short ∷ []) k C.TooLong

-- a refused byte or end, at its place
unfoldable pub kind_by : Cause → Place → Kind
kind_by C.TooLong = K.TooLong
kind_by C.Foreign = K.Foreign
kind_by C.PadPlace = K.PadPlace
kind_by C.Spare = K.Spare
kind_by C.AfterPad = K.AfterPad
kind_by C.Short = K.Short

-- 01's number of what the text's end gives
abbrev pub end_of : Result (Unit {0}) Cause → ℕ
end_of (Ok _) = 0
end_of (Err c) = number c
