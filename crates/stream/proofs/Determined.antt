-- D1: any two results, with states and buffers at exit, that a contract of the reader's stream allows are equal. Assumes nothing.
use Prim.Native.Nat.{ℕ}
use mathlib.Core.Path.{◌≡◌, sym, ◌∙◌}
use mathlib.Core.List.{List}
use Rattle.std.specs.Prelude.{Result}
use Rattle.answer.specs.declared.Kind.{Kind}
use Rattle.answer.specs.declared.Stepped.{Stepped}
use Rattle.stream.specs.declared.reader.Reader.{Reader}
use Rattle.stream.specs.Stepped.{begun, stepped, written, finished}

pub start_determined : (a opts : ℕ) (x y : Result Reader Kind) → x ≡ begun a opts → y ≡ begun a opts → x ≡ y
start_determined a opts x y e f = e ∙ sym f

pub step_determined : (r : Reader) (piece o p q : List ℕ) (x y : Stepped Reader)
    → (x ≡ stepped r piece o) × (p ≡ written r piece o) → (y ≡ stepped r piece o) × (q ≡ written r piece o) → (x ≡ y) × (p ≡ q)
step_determined r piece o p q x y e f = (e.0 ∙ sym f.0, e.1 ∙ sym f.1)

pub finish_determined : (r : Reader) (x y : Stepped Reader) → x ≡ finished r → y ≡ finished r → x ≡ y
finish_determined r x y e f = e ∙ sym f
