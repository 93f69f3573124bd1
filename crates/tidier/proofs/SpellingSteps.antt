-- What the tidier's functions do, as their code finds it: a byte by its symbol, and a turn of the loop over the text. Assumes nothing.
use Prim.Native.Nat.{ℕ, ◌+◌, ◌<◌, ◌≤◌}
use mathlib.Core.Path.{◌≡◌, refl, sym, ap, ◌∙◌}
use mathlib.Core.Bool.{Bool, true, false}
use mathlib.Core.List.{List, [], ◌∷◌, ◌++◌, append-nil}
use native.Mathlib.Omega.{arith}
use lib.ListN.{length, take, get_or, set, length-append}
use lib.Seq.{take_all}
use Rattle.std.proofs.Common.{Option, Some, None}
use Rattle.std.specs.Option.{option_to_list}
use Rattle.alphabet.specs.Alphabet.{value, is_digit}
use Rattle.table.specs.Table.{symbol_of}
use Rattle.table.specs.declared.Symbol.TheVariants.{Digit}
use Rattle.table.proofs.TableLaws.{symbol_is, symbol_digit, digit_symbol, digit_is}
use Rattle.reading.specs.Options.{allowed}
use Rattle.reading.specs.Cleaning.{dropped, turned}
use Rattle.reading.proofs.OptionLaws.{allowed_alphabet}
use Rattle.reading.specs.Buffer.{filled}
use Rattle.engine.proofs.Loops.{stored}
use Rattle.tidier.specs.Spelling.{spelt}
use Rattle.tidier.proofs.SpellingLaws.{spelt_dropped, spelt_digit, spelt_none, spelt_stands, spelt_next, spelt_front}

-- ---- a byte, by its symbol and that of the turned byte

module _ (a opts c : ℕ) (ok : allowed a opts ≡ true) where
  pub own_stands : {v : ℕ} → symbol_of a c ≡ Digit v → c ∷ [] ≡ spelt a opts (c ∷ [])
  own_stands s = sym (spelt_stands a opts c ok (digit_symbol a c (allowed_alphabet a opts ok) s).digit)

  module _ (e : dropped opts c ≡ false) {turn : ℕ} (q : turn ≡ turned a opts c) where
    pub own_turned : {v : ℕ} → symbol_of a turn ≡ Digit v → turn ∷ [] ≡ spelt a opts (c ∷ [])
    own_turned s = sym (spelt_digit a opts c e (rw q at (digit_symbol a turn (allowed_alphabet a opts ok) s).digit) ∙ ap (λ (x : ℕ). x ∷ []) (sym q))

    pub own_none : ((v : ℕ) → symbol_of a turn ≡ Digit v → ⊥) → [] ≡ spelt a opts (c ∷ [])
    own_none n = go (is_digit a turn) refl
      where
        go : (x : Bool) → is_digit a turn ≡ x → [] ≡ spelt a opts (c ∷ [])
        go true d = absurd (n (value a turn) (symbol_digit a turn d))
        go false d = sym (spelt_none a opts c e (rw q at d))

-- ---- the loop over the text

-- what is spelt of the first i bytes stands at the front
pub record Spelling (a opts : ℕ) (text o₀ o : List ℕ) (i n : ℕ) : Type 0 where
  pub within : i ≤ length text
  pub behind : n ≤ i
  pub count : n ≡ length (spelt a opts (take i text))
  pub front : o ≡ filled (spelt a opts (take i text)) o₀

-- a byte that is written as no digit is spelt as nothing
pub none_spelt : (d : Option ℕ) → ((x : ℕ) → d ≡ Some x → ⊥) → option_to_list d ≡ []
none_spelt None n = refl
none_spelt (Some x) n = absurd (n x refl)

module _ {a opts : ℕ} {text o₀ o : List ℕ} {i n : ℕ} (s : Spelling a opts text o₀ o i n) where
  module _ (l : i < length text) where
    next : {w : List ℕ} → w ≡ spelt a opts (get_or text i 0 ∷ []) → spelt a opts (take (i + 1) text) ≡ spelt a opts (take i text) ++ w
    next e = spelt_next a opts text i l ∙ ap (λ (y : List ℕ). spelt a opts (take i text) ++ y) (sym e)

    pub spelling_room : {x : ℕ} → length (spelt a opts text) ≤ length o₀ → x ∷ [] ≡ spelt a opts (get_or text i 0 ∷ []) → n < length o₀
    spelling_room {x} r e =
        omega (arith, s.count, spelt_front a opts text (i + 1), ap length (next e), length-append (spelt a opts (take i text)) (x ∷ []))

    pub spelling_puts : {x : ℕ} → length (spelt a opts text) ≤ length o₀ → x ∷ [] ≡ spelt a opts (get_or text i 0 ∷ [])
        → Spelling a opts text o₀ (set o n x) (i + 1) (n + 1)
    spelling_puts {x} r e =
        record {
          within = omega arith;
          behind = omega (arith, s.behind);
          count = rw (next e, length-append) (ap (λ (m : ℕ). m + 1) s.count);
          front = rw (next e, s.front, length-append, ← s.count) (stored (spelt a opts (take i text)) o₀ n x (sym s.count) (spelling_room r e));
        }

    pub spelling_skips : [] ≡ spelt a opts (get_or text i 0 ∷ []) → Spelling a opts text o₀ o (i + 1) n
    spelling_skips e =
        let same : spelt a opts (take (i + 1) text) ≡ spelt a opts (take i text) = next e ∙ append-nil (spelt a opts (take i text)) in
        record { within = omega arith; behind = omega (arith, s.behind); count = rw same s.count; front = rw same s.front }

  pub spelling_ends : length text ≤ i → (n ≡ length (spelt a opts text)) × (o ≡ filled (spelt a opts text) o₀)
  spelling_ends l = (rw (take_all i text l) at s.count, rw (take_all i text l) at s.front)

-- a byte's digit
pub ruleset owns = (own_stands, own_turned, own_none, spelt_dropped, symbol_is, allowed_alphabet)

-- a digit with its spare bits zero
pub ruleset clears = (symbol_is, symbol_digit, digit_symbol, digit_is, allowed_alphabet)
