-- D1: any two results, with buffers at exit, that the contract allows are equal. Assumes nothing.
use mathlib.Core.Path.{◌≡◌, sym, ◌∙◌}
use Prim.Native.Nat.{ℕ}
use mathlib.Core.List.{List}
use Rattle.spelling.specs.Machine.{Run}
use Rattle.spell.specs.declared.Went.{Went}
use Rattle.spell.specs.Promised.{WentAs}

pub spelled_determined : (R : Run) (o p q : List ℕ) (x y : Went) → WentAs R x o p → WentAs R y o q → (x ≡ y) × (p ≡ q)
spelled_determined R o p q x y e f =
    let h : x.held ≡ y.held = e.held ∙ sym f.held in
    let t : x.taken ≡ y.taken = e.taken ∙ sym f.taken in
    let w : x.written ≡ y.written = e.written ∙ sym f.written in
    (λ i. record { held = h i; taken = t i; written = w i }, e.buffer ∙ sym f.buffer)
