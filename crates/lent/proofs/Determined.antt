-- D1: any two answers, with the states and buffers at exit, that a contract of the lent form allows are equal. Assumes nothing.
use Prim.Native.Nat.{ℕ}
use mathlib.Core.Path.{◌≡◌, sym, ap, ◌∙◌}
use mathlib.Core.List.{List}
use Rattle.answer.specs.declared.Told.{Told}
use Rattle.answer.specs.declared.Stepped.{Stepped}
use Rattle.stream.specs.declared.reader.Reader.{Reader}
use Rattle.stream.specs.Stepped.{stepped, written, finished}
use Rattle.writing.specs.declared.Writer.{Writer}
use Rattle.writing.specs.Promised.{SteppedAs, FinishedAs}
use Rattle.writing.proofs.Determined.{step_determined, finish_determined}

module _ {S : Type 0} {s t : S} {x y : Told} where
  told_one : ◌≡◌ {A = Stepped S} (record { state = s; told = x }) (record { state = t; told = y }) → (x ≡ y) × (s ≡ t)
  told_one e = (ap (λ (r : Stepped S). r.told) e, ap (λ (r : Stepped S). r.state) e)

  both_one : {p q : List ℕ} → (◌≡◌ {A = Stepped S} (record { state = s; told = x }) (record { state = t; told = y })) × (p ≡ q) → (x ≡ y) × (s ≡ t) × (p ≡ q)
  both_one e = let z = told_one e.0 in (z.0, z.1, e.1)

module _ {s t : Reader} {x y : Told} where
  pub reader_step_determined : (r : Reader) (piece o : List ℕ) {p q : List ℕ}
      → (record { state = s; told = x } ≡ stepped r piece o) × (p ≡ written r piece o)
      → (record { state = t; told = y } ≡ stepped r piece o) × (q ≡ written r piece o) → (x ≡ y) × (s ≡ t) × (p ≡ q)
  reader_step_determined r piece o e f = both_one (e.0 ∙ sym f.0, e.1 ∙ sym f.1)

  pub reader_finish_determined : (r : Reader) → record { state = s; told = x } ≡ finished r → record { state = t; told = y } ≡ finished r → (x ≡ y) × (s ≡ t)
  reader_finish_determined r e f = told_one (e ∙ sym f)

module _ {s t : Writer} {x y : Told} where
  pub writer_step_determined : (w : Writer) (piece o : List ℕ) {p q : List ℕ} → SteppedAs w piece o p (record { state = s; told = x })
      → SteppedAs w piece o q (record { state = t; told = y }) → (x ≡ y) × (s ≡ t) × (p ≡ q)
  writer_step_determined w piece o {p} {q} e f = both_one (step_determined w piece o p q _ _ e f)

  pub writer_finish_determined : (w : Writer) (o : List ℕ) {p q : List ℕ} → FinishedAs w o p (record { state = s; told = x })
      → FinishedAs w o q (record { state = t; told = y }) → (x ≡ y) × (s ≡ t) × (p ≡ q)
  writer_finish_determined w o {p} {q} e f = both_one (finish_determined w o p q _ _ e f)
