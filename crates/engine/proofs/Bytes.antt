-- What the lent table says of a byte, and what the byte does then. Assumes nothing.
use Prim.Native.Nat.{ℕ, ◌<◌}
use mathlib.Core.Path.{◌≡◌, sym, ap, ◌∙◌}
use mathlib.Core.Bool.{false}
use mathlib.Core.List.{List}
use Rattle.table.specs.Table.{entries, symbol_in, symbol_of}
use Rattle.table.specs.declared.Symbol.{Symbol}
use Rattle.table.specs.declared.Symbol.TheVariants.{Digit, Pad, Neither}
use Rattle.table.proofs.TableLaws.{symbol_is}
use Rattle.reading.specs.Cleaning.{dropped, turned}
use Rattle.reading.specs.Reader.{State, refuses, on_pad, step}
use Rattle.reading.proofs.StepCases.{Digits, symbol_digits, symbol_pads, symbol_foreign}

-- the symbol that the lent table gives, where it is the reverse table
pub told : {t : List ℕ} {a c : ℕ} {y : Symbol} → t ≡ entries → a < 6 → c < 256 → symbol_in t a c ≡ y → symbol_of a c ≡ y
told {t} {a} {c} e h l q = sym (symbol_is a c h l) ∙ ap (λ (x : List ℕ). symbol_in x a c) (sym e) ∙ q

module _ {t : List ℕ} (a opts c : ℕ) (s : State) (e : t ≡ entries) (h : a < 6) (d : dropped opts c ≡ false) {turn : ℕ}
    (q : turn ≡ turned a opts c) (l : turn < 256) where
  pub turned_digit : {v : ℕ} → symbol_in t a turn ≡ Digit v → Digits a opts s c h d v
  turned_digit y = symbol_digits a opts s c h d (ap (symbol_of a) (sym q) ∙ told e h l y)

  pub turned_pad : symbol_in t a turn ≡ Pad → step a opts s c ≡ on_pad a opts s
  turned_pad y = symbol_pads a opts s c h d (ap (symbol_of a) (sym q) ∙ told e h l y)

  pub turned_neither : symbol_in t a turn ≡ Neither → step a opts s c ≡ refuses 4
  turned_neither y = symbol_foreign a opts s c h d (ap (symbol_of a) (sym q) ∙ told e h l y)
