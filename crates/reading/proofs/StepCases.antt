-- What a byte does, by what it is in the alphabet: as it stands, or turned. Assumes nothing.
use Prim.Native.Nat.{ℕ, ◌<◌, ◌^◌}
use mathlib.Core.Path.{◌≡◌, refl, sym, ap, ◌∙◌, subst}
use mathlib.Core.Bool.{Bool, true, false, not, ◌&&◌}
use native.Mathlib.Omega.{arith}
use lib.Dec.{T, ltb}
use borrow.Author.Tests.{ltb-true, ltb-false, lt-ltb}
use Rattle.alphabet.specs.Alphabet.{bits, value, is_digit, is_pad, pad}
use Rattle.table.specs.Table.{symbol_of}
use Rattle.table.specs.declared.Symbol.TheVariants.{Digit, Pad, Neither}
use Rattle.alphabet.proofs.Symbols.{IsDigit, is_digit_law, is_pad_law, digit_printable}
use Rattle.alphabet.proofs.Edges.{digit_own}
use Rattle.table.proofs.TableLaws.{symbol_digit, symbol_pad, symbol_neither}
use Rattle.reading.specs.Options.{any_case, allowed}
use Rattle.reading.specs.Cleaning.{dropped, turned}
use Rattle.reading.specs.Reader.{State, takes, refuses, passes, on_digit, on_pad, step}
use Rattle.reading.proofs.OptionLaws.{allowed_alphabet}
use Rattle.reading.proofs.PlainText.{kept_high, own_stays, turned_pad, turned_back}

module _ (a opts : ℕ) (s : State) (c : ℕ) where
  pub step_dropped : dropped opts c ≡ true → step a opts s c ≡ takes (passes s)
  unfolding step
  step_dropped e = rw e

  -- a byte that is not dropped, by the symbol of the turned byte
  module _ (h : a < 6) (e : dropped opts c ≡ false) where
    by_digit : is_digit a (turned a opts c) ≡ true → step a opts s c ≡ on_digit a s (value a (turned a opts c))
    unfolding step
    by_digit d = rw (e, d)

    by_pad : is_digit a (turned a opts c) ≡ false → is_pad a c ≡ true → step a opts s c ≡ on_pad a opts s
    unfolding step
    by_pad d p = rw (e, d, p)

    by_neither : is_digit a (turned a opts c) ≡ false → is_pad a c ≡ false → step a opts s c ≡ refuses 4
    unfolding step
    by_neither d p = rw (e, d, p)

    -- turning neither makes nor unmakes a pad
    pad_turned : is_pad a (turned a opts c) ≡ is_pad a c
    pad_turned = go (is_pad a (turned a opts c)) refl (is_pad a c) refl
      where
        go : (x : Bool) → is_pad a (turned a opts c) ≡ x → (y : Bool) → is_pad a c ≡ y → is_pad a (turned a opts c) ≡ is_pad a c
        go true p true q = p ∙ sym q
        go false p false q = p ∙ sym q
        go true p false q =
            let z : c ≡ pad = turned_back a opts c (is_pad_law a (turned a opts c) p).1 in
            absurd (subst T (sym p ∙ ap (is_pad a) (ap (turned a opts) z ∙ turned_pad a opts ∙ sym z) ∙ q) tt)
        go false p true q =
            let z : c ≡ pad = (is_pad_law a c q).1 in
            absurd (subst T (sym q ∙ ap (is_pad a) (sym (ap (turned a opts) z ∙ turned_pad a opts ∙ sym z)) ∙ p) tt)

    -- what symbol the turned byte is says what the byte does
    pub record Digits (v : ℕ) : Type 0 where
      pub small : v < 2 ^ bits a
      pub is : step a opts s c ≡ on_digit a s v

    pub symbol_digits : {v : ℕ} → symbol_of a (turned a opts c) ≡ Digit v → Digits v
    symbol_digits {v} q = go (is_digit a (turned a opts c)) refl (is_pad a (turned a opts c)) refl
      where
        go : (x : Bool) → is_digit a (turned a opts c) ≡ x → (y : Bool) → is_pad a (turned a opts c) ≡ y → Digits v
        go true d y p =
            let z : value a (turned a opts c) ≡ v = cc (symbol_digit a (turned a opts c) d) in
            record { small = rw z at (is_digit_law a h (turned a opts c) d).small; is = by_digit d ∙ ap (on_digit a s) z }
        go false d true p = let z : ◌≡◌ {A = ℕ} 0 1 = cc (symbol_pad a (turned a opts c) h p) in absurd (omega arith)
        go false d false p = let z : ◌≡◌ {A = ℕ} 0 1 = cc (symbol_neither a (turned a opts c) d p) in absurd (omega arith)

    pub symbol_pads : symbol_of a (turned a opts c) ≡ Pad → step a opts s c ≡ on_pad a opts s
    symbol_pads q = go (is_digit a (turned a opts c)) refl (is_pad a (turned a opts c)) refl
      where
        go : (x : Bool) → is_digit a (turned a opts c) ≡ x → (y : Bool) → is_pad a (turned a opts c) ≡ y → step a opts s c ≡ on_pad a opts s
        go true d y p = let z : ◌≡◌ {A = ℕ} 0 1 = cc (symbol_digit a (turned a opts c) d) in absurd (omega arith)
        go false d true p = by_pad d (sym pad_turned ∙ p)
        go false d false p = let z : ◌≡◌ {A = ℕ} 0 1 = cc (symbol_neither a (turned a opts c) d p) in absurd (omega arith)

    pub symbol_foreign : symbol_of a (turned a opts c) ≡ Neither → step a opts s c ≡ refuses 4
    symbol_foreign q = go (is_digit a (turned a opts c)) refl (is_pad a (turned a opts c)) refl
      where
        go : (x : Bool) → is_digit a (turned a opts c) ≡ x → (y : Bool) → is_pad a (turned a opts c) ≡ y → step a opts s c ≡ refuses 4
        go true d y p = let z : ◌≡◌ {A = ℕ} 0 1 = cc (symbol_digit a (turned a opts c) d) in absurd (omega arith)
        go false d true p = let z : ◌≡◌ {A = ℕ} 0 1 = cc (symbol_pad a (turned a opts c) h p) in absurd (omega arith)
        go false d false p = by_neither d (sym pad_turned ∙ p)

-- ---- a digit as it stands is neither dropped nor turned

case_is_off : (a opts : ℕ) → allowed a opts ≡ true → a < 2 → any_case opts ≡ false
unfolding allowed
case_is_off a opts e l = go (ltb a 6 && ltb opts 32) (any_case opts) (rw (lt-ltb a 2 l) at e)
  where
    go : (x y : Bool) → x && not (y && true) ≡ true → y ≡ false
    go true true e = sym e
    go true false e = refl
    go false y e = absurd (subst T (sym e) tt)

case_off : (a opts c : ℕ) → any_case opts ≡ false → turned a opts c ≡ c
unfolding turned
case_off a opts c e = rw e

pub digit_stands : (a opts c : ℕ) → allowed a opts ≡ true → is_digit a c ≡ true → (dropped opts c ≡ false) × (turned a opts c ≡ c)
digit_stands a opts c e d =
    let h : a < 6 = allowed_alphabet a opts e in
    let i : IsDigit a c = is_digit_law a h c d in
    (kept_high opts c (rw i.same at (digit_printable a h i.small).0), go h i (ltb a 2) refl)
  where
    go : a < 6 → IsDigit a c → (x : Bool) → ltb a 2 ≡ x → turned a opts c ≡ c
    go h i true q = case_off a opts c (case_is_off a opts e (ltb-true a 2 q))
    go h i false q = own_stays a opts c (rw i.same at (digit_own a h (ltb-false a 2 q) i.small))

-- a byte whose symbol as it stands is a digit
pub record Stands (a opts : ℕ) (s : State) (c v : ℕ) : Type 0 where
  pub small : v < 2 ^ bits a
  pub is : step a opts s c ≡ on_digit a s v

pub stands : (a opts : ℕ) (s : State) (c : ℕ) {v : ℕ} → allowed a opts ≡ true → symbol_of a c ≡ Digit v → Stands a opts s c v
stands a opts s c {v} e q = go (is_digit a c) refl (is_pad a c) refl
  where
    go : (x : Bool) → is_digit a c ≡ x → (y : Bool) → is_pad a c ≡ y → Stands a opts s c v
    go true d y p =
        let z = digit_stands a opts c e d in
        let r : Digits a opts s c (allowed_alphabet a opts e) z.0 v = symbol_digits a opts s c (allowed_alphabet a opts e) z.0 (ap (symbol_of a) z.1 ∙ q) in
        record { small = r.small; is = r.is }
    go false d true p = let z : ◌≡◌ {A = ℕ} 0 1 = cc (symbol_pad a c (allowed_alphabet a opts e) p) in absurd (omega arith)
    go false d false p = let z : ◌≡◌ {A = ℕ} 0 1 = cc (symbol_neither a c d p) in absurd (omega arith)
