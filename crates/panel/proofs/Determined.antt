-- D1: any two results, with the buffers at exit, that a contract of the C face allows are equal. Assumes nothing.
use Prim.Native.Nat.{ℕ}
use mathlib.Core.Path.{◌≡◌, sym, ◌∙◌}
use mathlib.Core.List.{List}
use Rattle.panel.specs.Calls.{ReadCall, WriteCall}

-- a call that asks one number of an answer: its contract is an equation with that number
pub number_determined : (n x y : ℕ) → x ≡ n → y ≡ n → x ≡ y
number_determined n x y e f = e ∙ sym f

pub read_determined : (a opts : ℕ) (t o p q : List ℕ) (x y : ℕ) → ReadCall a opts t o x p → ReadCall a opts t o y q → (x ≡ y) × (p ≡ q)
read_determined a opts t o p q x y e f = (e.answer ∙ sym f.answer, e.buffer ∙ sym f.buffer)

pub write_determined : (a : ℕ) (src o p q : List ℕ) (x y : ℕ) → WriteCall a src o x p → WriteCall a src o y q → (x ≡ y) × (p ≡ q)
write_determined a src o p q x y e f = (e.answer ∙ sym f.answer, e.buffer ∙ sym f.buffer)
