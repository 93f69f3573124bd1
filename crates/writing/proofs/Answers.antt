-- T5 and T6: answer 9 exactly on states that no calls give; 9, 10 and an earlier refusal take and write nothing and return the state unchanged; and
-- a step with a byte offered and room for it takes it or refuses it for the limit. Assumes nothing.
use Prim.Native.Nat.{ℕ, ◌<◌}
use mathlib.Core.Path.{◌≡◌, refl, sym, ap, ◌∙◌, subst}
use mathlib.Core.Logic.{◌↔◌}
use mathlib.Core.Bool.{Bool, true, false}
use mathlib.Core.List.{List}
use native.Mathlib.Omega.{arith}
use lib.Dec.{ltb}
use lib.ListN.{length}
use Rattle.answer.specs.declared.Kind.{Kind}
use Rattle.answer.specs.declared.Kind.TheVariants as K
use Rattle.answer.specs.declared.Outcome.{Outcome}
use Rattle.answer.specs.Told.{Told, told}
use Rattle.answer.proofs.ToldCases.{told_accepted, told_long, told_room, told_bad, told_finished}
use Rattle.spelling.specs.declared.Why.{Why}
use Rattle.spelling.specs.declared.Why.TheVariants as W
use Rattle.writing.specs.declared.Status.{Status}
use Rattle.writing.specs.declared.Status.TheVariants as U
use Rattle.writing.specs.declared.Writer.{Writer}
use Rattle.spelling.specs.Front.{ending}
use Rattle.spelling.specs.Machine.{Run}
use Rattle.writing.specs.Stream.{at, count, sound, Turn, unmoved, by_why, close, by_status, in_order, ran_of, step_of, finish_of}
use Rattle.writing.specs.Moment.{Reachable}
use Rattle.writing.proofs.Promises.{bad_order, in_order_law, long_order, done_order}
use Rattle.writing.proofs.Reaching.{reached_passes, passes_reached}

-- ---- answer 9

abbrev answer : Turn → ℕ
answer t = (told t.outcome).answer

low : (x : Outcome) {t : Told} → told x ≡ t → t.answer < 4 → (told x).answer < 4
low x e l = subst (λ (y : Told). y.answer < 4) (sym e) l

why_answer_law : (w : Why) (s : Writer) (R : Run) → answer (by_why w s R) < 4
unfolding by_why
why_answer_law W.All s R = low _ (told_accepted _ _) (omega arith)
why_answer_law W.Limit s R = low _ (told_long _ _) (omega arith)
why_answer_law W.Room s R = low _ (told_room _ _) (omega arith)

close_answer : (s : Writer) (text : List ℕ) (room : ℕ) → answer (close s text room) < 4
unfolding close
close_answer s text room = go (ltb room (length text)) refl
  where
    go : (t : Bool) → ltb room (length text) ≡ t → answer (close s text room) < 4
    go true e = rw e (low _ (told_room _ _) (omega arith))
    go false e = rw e (low _ (told_accepted _ _) (omega arith))

status_answer : (u : Status) (s : Writer) (t : Turn) → answer t < 4 → answer (by_status u s t) ≡ 9 → ⊥
unfolding by_status
status_answer U.Open s t l e = omega arith
status_answer U.TooLong s t l e = omega (arith, ap (λ (y : Told). y.answer) (told_long (at s.taken) (count 0)))
status_answer U.Done s t l e = omega (arith, ap (λ (y : Told). y.answer) (told_finished (count 0)))

order_nine : (s : Writer) (t : Turn) → answer t < 4 → (answer (in_order s t) ≡ 9) ↔ (Reachable s → ⊥)
order_nine s t l = (
  λ e r. status_answer s.status s t l (rw (in_order_law s t (reached_passes s r) refl) at e),
  λ n. unreached n (sound s) refl,
)
  where
    unreached : (Reachable s → ⊥) → (x : Bool) → sound s ≡ x → answer (in_order s t) ≡ 9
    unreached n true e = absurd (n (passes_reached s e))
    unreached n false e = ap answer (bad_order s t e) ∙ ap (λ (y : Told). y.answer) (told_bad (count 0))

-- answer 9 exactly when no sequence of calls from a start gives that state
pub step_nine : (s : Writer) (piece : List ℕ) (room : ℕ) → ((told (step_of s piece room).outcome).answer ≡ 9) ↔ (Reachable s → ⊥)
unfolding step_of
step_nine s piece room = order_nine s _ (why_answer_law (ran_of s piece room).why s (ran_of s piece room))

pub finish_nine : (s : Writer) (room : ℕ) → ((told (finish_of s room).outcome).answer ≡ 9) ↔ (Reachable s → ⊥)
unfolding finish_of
finish_nine s room = order_nine s _ (close_answer s (ending s.alphabet s.taken s.held) room)

-- ---- the three answers that change nothing, in their order

pub record Sticky (s : Writer) (k : Kind) : Type 0 where
  pub steps : (piece : List ℕ) (room : ℕ) → step_of s piece room ≡ unmoved s k
  pub finishes : (room : ℕ) → finish_of s room ≡ unmoved s k

pub nine_sticks : (s : Writer) → sound s ≡ false → Sticky s K.BadState
unfolding step_of finish_of
nine_sticks s e = record { steps = λ piece room. bad_order s _ e; finishes = λ room. bad_order s _ e }

pub ten_sticks : (s : Writer) → sound s ≡ true → s.status ≡ U.Done → Sticky s K.Finished
unfolding step_of finish_of
ten_sticks s e u = record { steps = λ piece room. done_order s _ e u; finishes = λ room. done_order s _ e u }

-- the earlier refusal, with the same position: the bytes taken, of which the refused one is the next
pub refusal_sticks : (s : Writer) → sound s ≡ true → s.status ≡ U.TooLong → Sticky s (K.TooLong (at s.taken))
unfolding step_of finish_of
refusal_sticks s e u = record { steps = λ piece room. long_order s _ e u; finishes = λ room. long_order s _ e u }
