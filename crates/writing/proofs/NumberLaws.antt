-- The stream's answers stand for 01's numbers. Assumes nothing.
use Prim.Native.Nat.{ℕ, ◌+◌}
use mathlib.Core.Path.{◌≡◌, refl}
use mathlib.Core.Bool.{Bool, true, false, cond}
use mathlib.Core.List.{List}
use lib.Dec.{ltb}
use lib.ListN.{length}
use Rattle.answer.specs.declared.Kind.TheVariants as K
use Rattle.answer.specs.Told.{Told, told}
use Rattle.answer.proofs.ToldCases.{told_accepted, told_long, told_room, told_bad, told_finished}
use Rattle.spelling.specs.declared.Why.{Why}
use Rattle.spelling.specs.declared.Why.TheVariants as W
use Rattle.writing.specs.declared.Status.{Status}
use Rattle.writing.specs.declared.Status.TheVariants as U
use Rattle.writing.specs.declared.Writer.{Writer}
use Rattle.spelling.specs.Front.{ending}
use Rattle.spelling.specs.Machine.{Run}
use Rattle.writing.specs.Stream.{sound, Turn, unmoved, by_why, close, by_status, in_order, ran_of, step_of, finish_of}
use Rattle.spelling.specs.Whole.{numbers}
use Rattle.writing.specs.Numbers.{why_numbers, status_numbers, in_order_numbers, step_numbers, close_numbers, finish_numbers}

why_numbers_law : (w : Why) (s : Writer) (R : Run) → told (by_why w s R).outcome ≡ why_numbers w (s.taken + R.took) (length R.wrote)
unfolding by_why why_numbers
why_numbers_law W.All s R = told_accepted _ _
why_numbers_law W.Limit s R = told_long _ _
why_numbers_law W.Room s R = told_room _ _

close_numbers_law : (s : Writer) (text : List ℕ) (room : ℕ) → told (close s text room).outcome ≡ close_numbers s text room
unfolding close close_numbers
close_numbers_law s text room = go (ltb room (length text)) refl
  where
    go : (t : Bool) → ltb room (length text) ≡ t → told (close s text room).outcome ≡ close_numbers s text room
    go true e = rw e (told_room _ _)
    go false e = rw e (told_accepted _ _)

status_numbers_law : (u : Status) (s : Writer) (t : Turn) {x : Told} → told t.outcome ≡ x → told (by_status u s t).outcome ≡ status_numbers u s.taken x
unfolding by_status status_numbers
status_numbers_law U.Open s t e = e
status_numbers_law U.TooLong s t e = told_long _ _
status_numbers_law U.Done s t e = told_finished _

order_numbers : (s : Writer) (t : Turn) {x : Told} → told t.outcome ≡ x → told (in_order s t).outcome ≡ in_order_numbers s x
unfolding in_order in_order_numbers
order_numbers s t {x} e = go (sound s)
  where
    go : (y : Bool) → told (cond y (by_status s.status s t) (unmoved s K.BadState)).outcome ≡ cond y (status_numbers s.status s.taken x) (numbers 9 0 0)
    go true = status_numbers_law s.status s t e
    go false = told_bad _

pub step_numbers_law : (s : Writer) (piece : List ℕ) (room : ℕ) → told (step_of s piece room).outcome ≡ step_numbers s piece room
unfolding step_of step_numbers
step_numbers_law s piece room = order_numbers s _ (why_numbers_law (ran_of s piece room).why s (ran_of s piece room))

pub finish_numbers_law : (s : Writer) (room : ℕ) → told (finish_of s room).outcome ≡ finish_numbers s room
unfolding finish_of finish_numbers
finish_numbers_law s room = order_numbers s _ (close_numbers_law s (ending s.alphabet s.taken s.held) room)
