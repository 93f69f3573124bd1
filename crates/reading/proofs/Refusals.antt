-- Why a byte or the end is refused after what a state has taken, and for each such refusal of a byte a byte that is refused so. Assumes nothing.
use Prim.Native.Nat.{ℕ, ◌+◌, ◌%◌, ◌<◌}
use mathlib.Core.Path.{◌≡◌, refl, sym, ◌∙◌, subst}
use mathlib.Core.Bool.{Bool, true, false, cond, not, ◌&&◌, ◌||◌}
use native.Mathlib.Nat.{mod-lt}
use native.Mathlib.Omega.{arith}
use lib.Dec.{T, eqb, ltb}
use lib.Pow.{pow_pos}
use borrow.Author.Tests.{ltb-true, ltb-false, lt-ltb, le-ltb, eqb-true, eqb-false, eq-eqb, ne_eqb, not-true}
use Rattle.alphabet.specs.Alphabet.{bits, group, tail, value, digit, is_digit, padded, is_pad, pad}
use Rattle.alphabet.proofs.AlphabetLaws.{group_pos, tail_padded}
use Rattle.alphabet.proofs.Edges.{other_case, edge_own}
use Rattle.alphabet.proofs.Symbols.{digit_is, IsDigit, is_digit_law, pad_is, is_pad_law, pad_is_no_digit, digit_printable, digit_byte}
use Rattle.alphabet.proofs.WrittenLaws.{InTable, in_table}
use Rattle.reading.specs.Options.{nopad, any_spare}
use Rattle.reading.specs.Cleaning.{dropped, turned}
use Rattle.reading.specs.Reader.{State, Step, takes, gives, refuses, wants, held_bits, on_digit, on_pad, step, ending}
use Rattle.reading.proofs.PlainText.{turned_pad, kept_high, own_stays}

-- a first pad would be refused for the bits held
pub record SpareLeft (a opts : ℕ) (s : State) : Type 0 where
  pub unpadded : s.pads ≡ 0
  pub tailed : 0 < wants a s
  pub some : 0 < s.held
  pub strict : any_spare opts ≡ false

pub data Blame (a opts : ℕ) (s : State) : ℕ → Type 0 where
  foreign : Blame a opts s 4
  misplaced : padded a ≡ true → s.pads ≡ 0 → wants a s ≡ 0 → Blame a opts s 5
  spare : SpareLeft a opts s → Blame a opts s 6
  late : 0 < s.pads → Blame a opts s 7

pub data Ended (a opts : ℕ) (s : State) : ℕ → Type 0 where
  whole : Ended a opts s 0
  spare : SpareLeft a opts s → nopad opts ≡ true → Ended a opts s 6
  short : Ended a opts s 8

both_not : (p q : Bool) → not p && not q ≡ true → (p ≡ false) × (q ≡ false)
both_not true q e = absurd (subst T (sym e) tt)
both_not false q e = (refl, not-true q e)

either : (P : Step → Type 0) (x : Bool) {p q : Step} → (x ≡ true → P p) → (x ≡ false → P q) → P (cond x p q)
either P true p q = p refl
either P false p q = q refl

module _ (a opts : ℕ) (s : State) where
  spare_left : ltb 0 s.pads ≡ false → eqb (wants a s) 0 ≡ false → not (eqb s.held 0) && not (any_spare opts) ≡ true → SpareLeft a opts s
  spare_left e f g =
      let x = both_not (eqb s.held 0) (any_spare opts) g in
      record {
        unpadded = omega (arith, ltb-false 0 s.pads e);
        tailed = omega (arith, eqb-false (wants a s) 0 f);
        some = omega (arith, eqb-false s.held 0 x.0);
        strict = x.1;
      }

  -- ---- a byte

  abbrev Blames : Step → Type 0
  Blames (takes n) = Unit {0}
  Blames (gives x n) = Unit {0}
  Blames (refuses k) = Blame a opts s k

  digit_blames : (v : ℕ) → Blames (on_digit a s v)
  unfolding on_digit
  digit_blames v = either Blames (ltb 0 s.pads) (λ e. late (ltb-true 0 s.pads e)) (λ e. either Blames (ltb (held_bits a s + bits a) 8) (λ f. tt) (λ f. tt))

  pad_blames : padded a ≡ true → Blames (on_pad a opts s)
  unfolding on_pad
  pad_blames p =
      either Blames (ltb 0 s.pads) (λ e. either Blames (eqb s.pads (wants a s)) (λ f. late (ltb-true 0 s.pads e)) (λ f. tt))
      (λ e. either Blames (eqb (wants a s) 0) (λ f. misplaced p (omega (arith, ltb-false 0 s.pads e)) (eqb-true (wants a s) 0 f))
      (λ f. either Blames (not (eqb s.held 0) && not (any_spare opts)) (λ g. spare (spare_left e f g)) (λ g. tt)))

  step_blames : (c : ℕ) → Blames (step a opts s c)
  unfolding step
  step_blames c =
      either Blames (dropped opts c) (λ e. tt)
      (λ e. either Blames (is_digit a (turned a opts c)) (λ f. digit_blames (value a (turned a opts c)))
      (λ f. either Blames (is_pad a c) (λ g. pad_blames (is_pad_law a c g).0) (λ g. foreign)))

  pub blame : (c k : ℕ) → step a opts s c ≡ refuses k → Blame a opts s k
  blame c k e = subst Blames e (step_blames c)

  -- ---- the end

  pub ended : Ended a opts s (ending a opts s)
  unfolding ending
  ended =
      go (ltb 0 s.pads) refl (eqb s.pads (wants a s)) (eqb (s.digits % group a) 0) (nopad opts) refl (eqb (wants a s) 0) refl
      (not (eqb s.held 0) && not (any_spare opts)) refl
    where
      go : (u : Bool) → ltb 0 s.pads ≡ u → (v w x : Bool) → nopad opts ≡ x → (y : Bool) → eqb (wants a s) 0 ≡ y
          → (z : Bool) → (not (eqb s.held 0) && not (any_spare opts)) ≡ z
          → Ended a opts s (cond u (cond v 0 8) (cond w 0 (cond (not x || y) 8 (cond z 6 0))))
      go true e true w x f y g z k = whole
      go true e false w x f y g z k = short
      go false e v true x f y g z k = whole
      go false e v false false f y g z k = short
      go false e v false true f true g z k = short
      go false e v false true f false g true k = spare (spare_left e g k) f
      go false e v false true f false g false k = whole

  pub ends_whole : s.pads ≡ 0 → s.digits % group a ≡ 0 → ending a opts s ≡ 0
  unfolding ending
  ends_whole e f = rw (le-ltb 0 s.pads (omega arith), eq-eqb (s.digits % group a) 0 f)

  pub ends_spare : a < 6 → SpareLeft a opts s → nopad opts ≡ true → ending a opts s ≡ 6
  unfolding ending wants
  ends_spare h x n =
      let t : InTable a (s.digits % group a) = in_table a h (s.digits % group a) (mod-lt s.digits (group_pos a h)) x.tailed in
      rw (
        le-ltb 0 s.pads (omega (arith, x.unpadded)),
        ne_eqb (s.digits % group a) 0 (λ e. omega (arith, t.some)),
        n,
        ne_eqb (tail a (s.digits % group a)) 0 (λ e. omega (arith, x.tailed)),
        ne_eqb s.held 0 (λ e. omega (arith, x.some)),
        x.strict,
      )

-- ---- a byte that is refused so

pub record Refuser (a opts : ℕ) (s : State) (k : ℕ) : Type 0 where
  pub byte : ℕ
  pub small : byte < 256
  pub refused : step a opts s byte ≡ refuses k

module _ (a : ℕ) (h : a < 6) (opts : ℕ) (s : State) where
  -- a byte above the ASCII ones is neither digit nor pad
  high_own : other_case a 128 ≡ false
  high_own = go (eqb a 5)
    where
      go : (x : Bool) → cond x false false ≡ false
      go true = refl
      go false = refl

  high_no_digit : is_digit a 128 ≡ false
  high_no_digit = go (is_digit a 128) refl
    where
      go : (x : Bool) → is_digit a 128 ≡ x → is_digit a 128 ≡ false
      go true e = let d : IsDigit a 128 = is_digit_law a h 128 e in absurd (omega (arith, (digit_printable a h d.small).1, d.same))
      go false e = e

  high_no_pad : is_pad a 128 ≡ false
  high_no_pad = go (is_pad a 128) refl
    where
      go : (x : Bool) → is_pad a 128 ≡ x → is_pad a 128 ≡ false
      go true e = absurd (omega (arith, (is_pad_law a 128 e).1))
      go false e = e

  refuses_high : step a opts s 128 ≡ refuses 4
  unfolding step
  refuses_high = rw (kept_high opts 128 (omega arith), own_stays a opts 128 high_own, high_no_digit, high_no_pad)

  on_pad_law : padded a ≡ true → step a opts s pad ≡ on_pad a opts s
  unfolding step
  on_pad_law p = rw (kept_high opts pad (omega arith), turned_pad a opts, pad_is_no_digit a h, pad_is a p)

  refuses_pad : padded a ≡ true → s.pads ≡ 0 → wants a s ≡ 0 → step a opts s pad ≡ refuses 5
  unfolding on_pad
  refuses_pad p e f = on_pad_law p ∙ rw (le-ltb 0 s.pads (omega arith), eq-eqb (wants a s) 0 f)

  refuses_spare : SpareLeft a opts s → step a opts s pad ≡ refuses 6
  unfolding on_pad wants
  refuses_spare x =
      on_pad_law (tail_padded a h (mod-lt s.digits (group_pos a h)) x.tailed)
      ∙ rw (
        le-ltb 0 s.pads (omega (arith, x.unpadded)),
        ne_eqb (tail a (s.digits % group a)) 0 (λ e. omega (arith, x.tailed)),
        ne_eqb s.held 0 (λ e. omega (arith, x.some)),
        x.strict,
      )

  refuses_digit : 0 < s.pads → step a opts s (digit a 0) ≡ refuses 7
  unfolding step on_digit
  refuses_digit l =
      rw (
        kept_high opts (digit a 0) (digit_printable a h (pow_pos (bits a))).0,
        own_stays a opts (digit a 0) (edge_own a h false),
        digit_is a h (pow_pos (bits a)),
        lt-ltb 0 s.pads l,
      )

  pub refuser : {k : ℕ} → Blame a opts s k → Refuser a opts s k
  refuser foreign = record { byte = 128; small = omega arith; refused = refuses_high }
  refuser (misplaced p e f) = record { byte = pad; small = omega arith; refused = refuses_pad p e f }
  refuser (spare x) = record { byte = pad; small = omega arith; refused = refuses_spare x }
  refuser (late l) = record { byte = digit a 0; small = digit_byte a h (pow_pos (bits a)); refused = refuses_digit l }
