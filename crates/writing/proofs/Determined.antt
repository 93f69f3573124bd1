-- D1: any two results, with states and buffers at exit, that a contract allows are equal. Assumes nothing.
use Prim.Native.Nat.{ℕ}
use mathlib.Core.Path.{◌≡◌, sym, ◌∙◌}
use mathlib.Core.List.{List}
use Rattle.std.specs.Prelude.{Result}
use Rattle.answer.specs.declared.Kind.{Kind}
use Rattle.answer.specs.declared.Outcome.{Outcome}
use Rattle.answer.specs.declared.Stepped.{Stepped}
use Rattle.answer.specs.Told.{told}
use Rattle.answer.proofs.ToldLaws.{told_determines}
use Rattle.writing.specs.declared.Writer.{Writer}
use Rattle.writing.specs.Stream.{start_of}
use Rattle.spelling.specs.Whole.{write_of}
use Rattle.writing.specs.Promised.{SteppedAs, FinishedAs, WroteAs}

pub start_determined : (a : ℕ) (x y : Result Writer Kind) → x ≡ start_of a → y ≡ start_of a → x ≡ y
start_determined a x y e f = e ∙ sym f

pub step_determined : (s : Writer) (piece o p q : List ℕ) (x y : Stepped Writer) → SteppedAs s piece o p x → SteppedAs s piece o q y → (x ≡ y) × (p ≡ q)
step_determined s piece o p q x y e f = (e.result ∙ sym f.result, e.buffer ∙ sym f.buffer)

pub finish_determined : (s : Writer) (o p q : List ℕ) (x y : Stepped Writer) → FinishedAs s o p x → FinishedAs s o q y → (x ≡ y) × (p ≡ q)
finish_determined s o p q x y e f = (e.result ∙ sym f.result, e.buffer ∙ sym f.buffer)

pub write_determined : (a : ℕ) (src o p q : List ℕ) (x y : Outcome) → WroteAs a src o p x → WroteAs a src o q y → (x ≡ y) × (p ≡ q)
write_determined a src o p q x y e f = (told_determines x y (e.answer ∙ sym f.answer), e.buffer ∙ sym f.buffer)

pub measure_determined : (a : ℕ) (src : List ℕ) (room : ℕ) (x y : Outcome) → told x ≡ (write_of a src room).told → told y ≡ (write_of a src room).told → x ≡ y
measure_determined a src room x y e f = told_determines x y (e ∙ sym f)
