-- The table's rule carried to each alphabet and byte: what `lookup` and `digit` find in the tables is what the byte and the value are.
-- Assumes nothing.
use Prim.Native.Nat.{ℕ, zero, suc, ◌+◌, ◌*◌, ◌/◌, ◌%◌, ◌^◌, ◌<◌}
use mathlib.Core.Path.{◌≡◌, refl, sym, ap, ap₂, ◌∙◌}
use mathlib.Core.Logic.{◌⊎◌, inl, inr}
use mathlib.Core.Bool.{Bool, true, false, cond, not}
use native.Mathlib.Nat.{add-zero, lt_of_lt_of_le}
use native.Mathlib.Omega.{arith}
use lib.Dec.{eqb, ltb}
use lib.ListN.{get_or}
use lib.Pow.{pow_mono}
use borrow.Author.Tests.{lt-ltb, ne_eqb}
use Rattle.alphabet.specs.Alphabet.{bits, digit, value, is_digit, is_pad}
use Rattle.table.specs.Table.{made, entries, symbol_of, symbol_in, digit_entries, digit_in}
use Rattle.table.specs.declared.Symbol.TheVariants.{Digit, Pad, Neither}
use Rattle.alphabet.proofs.AlphabetLaws.{bits_high, value_small, digit_value}
use Rattle.alphabet.proofs.Symbols.{is_digit_law, is_pad_law, pad_is_no_digit}

made_at : (f : ℕ → ℕ) (n k j : ℕ) → j < n → get_or (made f n k) j 0 ≡ f (k + j)
unfolding made
made_at f zero k j h = absurd (omega arith)
made_at f (suc n) k zero h = ap f (sym (add-zero k))
made_at f (suc n) k (suc j) h = made_at f n (suc k) j (omega arith) ∙ ap f (omega arith)

pub entry_is : (a c : ℕ) → a < 6 → c < 256 → get_or entries (a * 256 + c) 0 ≡ value a c
unfolding entries
entry_is a c h l =
    let q : (0 + (a * 256 + c)) / 256 ≡ a = omega arith in
    let r : (0 + (a * 256 + c)) % 256 ≡ c = omega arith in
    made_at _ 1536 0 (a * 256 + c) (omega arith) ∙ ap₂ value q r

digit_entry : (a v : ℕ) → a < 6 → v < 64 → get_or digit_entries (a * 64 + v) 0 ≡ digit a v
unfolding digit_entries
digit_entry a v h l =
    let q : (0 + (a * 64 + v)) / 64 ≡ a = omega arith in
    let r : (0 + (a * 64 + v)) % 64 ≡ v = omega arith in
    made_at _ 384 0 (a * 64 + v) (omega arith) ∙ ap₂ digit q r

-- a byte's value is small, or 255 where it is no digit
value_tests : (a : ℕ) → a < 6 → (c : ℕ) → ltb (value a c) 255 ≡ not (eqb (value a c) 255)
value_tests a h c = go (digit_value a h c)
  where
    go : (value a c ≡ 255) ⊎ ((value a c < 2 ^ bits a) × (digit a (value a c) ≡ c)) → ltb (value a c) 255 ≡ not (eqb (value a c) 255)
    go (inl e) = rw e
    go (inr p) =
        let l : value a c < 255 = value_small a h p.0 in
        rw (lt-ltb (value a c) 255 l, ne_eqb (value a c) 255 (λ e. omega arith))

-- ---- what a byte is

pub symbol_is : (a c : ℕ) → a < 6 → c < 256 → symbol_in entries a c ≡ symbol_of a c
unfolding symbol_in symbol_of is_digit
symbol_is a c h l = rw (lt-ltb a 6 h, entry_is a c h l, value_tests a h c)

-- an entry other than 255 is a digit's value
pub entry_digit : (a c : ℕ) → a < 6 → c < 256 → (get_or entries (a * 256 + c) 0 ≡ 255 → ⊥)
    → symbol_of a c ≡ Digit (get_or entries (a * 256 + c) 0)
unfolding symbol_of is_digit
entry_digit a c h l n = rw (entry_is a c h l, ne_eqb (value a c) 255 (λ e. n (entry_is a c h l ∙ e)))

pub symbol_digit : (a c : ℕ) → is_digit a c ≡ true → symbol_of a c ≡ Digit (value a c)
unfolding symbol_of
symbol_digit a c d = rw d

pub symbol_pad : (a c : ℕ) → a < 6 → is_pad a c ≡ true → symbol_of a c ≡ Pad
unfolding symbol_of
symbol_pad a c h p = rw (ap (is_digit a) (is_pad_law a c p).1 ∙ pad_is_no_digit a h, p)

pub symbol_neither : (a c : ℕ) → is_digit a c ≡ false → is_pad a c ≡ false → symbol_of a c ≡ Neither
unfolding symbol_of
symbol_neither a c d p = rw (d, p)

-- a byte that is the digit of the value v
pub record DigitOf (a c v : ℕ) : Type 0 where
  pub digit : is_digit a c ≡ true
  pub value : v ≡ Rattle.alphabet.specs.Alphabet.value a c
  pub small : v < 2 ^ bits a

pub digit_symbol : (a c : ℕ) → a < 6 → {v : ℕ} → symbol_of a c ≡ Digit v → DigitOf a c v
unfolding symbol_of
digit_symbol a c h {v} = go (is_digit a c) refl (is_pad a c)
  where
    go : (x : Bool) → is_digit a c ≡ x → (y : Bool) → cond x (Digit (value a c)) (cond y Pad Neither) ≡ Digit v → DigitOf a c v
    go true d y e = let q : v ≡ value a c = cc in record { digit = d; value = q; small = rw q (is_digit_law a h c d).small }
    go false d true e = let z : ◌≡◌ {A = ℕ} 0 1 = cc in absurd (omega arith)
    go false d false e = let z : ◌≡◌ {A = ℕ} 0 1 = cc in absurd (omega arith)

pub pad_symbol : (a c : ℕ) → symbol_of a c ≡ Pad → is_pad a c ≡ true
unfolding symbol_of
pad_symbol a c = go (is_digit a c) (is_pad a c) refl
  where
    go : (x y : Bool) → is_pad a c ≡ y → cond x (Digit (value a c)) (cond y Pad Neither) ≡ Pad → is_pad a c ≡ true
    go true y p e = let z : ◌≡◌ {A = ℕ} 0 1 = cc in absurd (omega arith)
    go false true p e = p
    go false false p e = let z : ◌≡◌ {A = ℕ} 0 1 = cc in absurd (omega arith)

pub neither_symbol : (a c : ℕ) → symbol_of a c ≡ Neither → (is_digit a c ≡ false) × (is_pad a c ≡ false)
unfolding symbol_of
neither_symbol a c = go (is_digit a c) refl (is_pad a c) refl
  where
    go : (x : Bool) → is_digit a c ≡ x → (y : Bool) → is_pad a c ≡ y → cond x (Digit (value a c)) (cond y Pad Neither) ≡ Neither
        → (is_digit a c ≡ false) × (is_pad a c ≡ false)
    go true d y p e = let z : ◌≡◌ {A = ℕ} 0 1 = cc in absurd (omega arith)
    go false d true p e = let z : ◌≡◌ {A = ℕ} 0 1 = cc in absurd (omega arith)
    go false d false p e = (d, p)

-- ---- the digit of a value

pub digit_is : (a v : ℕ) → a < 6 → v < 2 ^ bits a → digit_in digit_entries a v ≡ digit a v
unfolding digit_in
digit_is a v h l =
    let k : v < 64 = lt_of_lt_of_le l (pow_mono {j = 6} (bits_high a h)) in
    rw (lt-ltb a 6 h, lt-ltb v 64 k) (digit_entry a v h k)
