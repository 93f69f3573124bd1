-- The reader's state is a function of the digits' values and the pads that it has seen, and a step adds one. Assumes nothing.
use Prim.Native.Nat.{ℕ, ◌+◌, ◌-◌, ◌*◌, ◌%◌, ◌^◌, ◌<◌, ◌≤◌}
use mathlib.Core.Path.{◌≡◌, refl, sym}
use mathlib.Core.Logic.{◌⊎◌, inl, inr}
use mathlib.Core.Bool.{Bool, true, false, not, ◌&&◌}
use mathlib.Core.List.{List, [], ◌∷◌, ◌++◌}
use native.Mathlib.Omega.{arith}
use lib.Dec.{eqb, ltb}
use lib.ListN.{length, length-append}
use borrow.Author.Tests.{ltb-true, ltb-false, eqb-true, eqb-false}
use Rattle.alphabet.specs.Digits.{bytes_of, left_of}
use Rattle.alphabet.specs.Alphabet.{bits, group, tail, value, is_digit, is_pad}
use Rattle.alphabet.proofs.Flow.{Regrouped, regroup_hold, regroup_give}
use Rattle.alphabet.proofs.DigitLaws.{regrouped, regrouped_bytes, regrouped_left}
use Rattle.alphabet.proofs.AlphabetLaws.{bits_high}
use Rattle.reading.specs.Options.{any_spare}
use Rattle.reading.specs.Cleaning.{dropped, turned}
use Rattle.reading.specs.Reader.{State, Reading, going, stopped, wants, held_bits, passes, on_digit, on_pad, step, follow, feed}

-- ---- the state after digits of the values ds and p pads, at index i

abbrev pub state : ℕ → List ℕ → ℕ → ℕ → State
state a ds p i = record { digits = length ds; held = left_of (bits a) ds; pads = p; taken = i }

abbrev pub seen : ℕ → List ℕ → ℕ → ℕ → Reading
seen a ds p i = going (state a ds p i) (bytes_of (bits a) ds)

same_going : {d d' h h' : ℕ} {out out' : List ℕ} (i : ℕ) → d ≡ d' → h ≡ h' → out ≡ out'
    → going (record { digits = d; held = h; pads = 0; taken = i }) out ≡ going (record { digits = d'; held = h'; pads = 0; taken = i }) out'
same_going i p q r j = going (record { digits = p j; held = q j; pads = 0; taken = i }) (r j)

from_regrouped : (a : ℕ) (ds : List ℕ) (v i r held : ℕ) (out : List ℕ) → Regrouped (bits a) (ds ++ v ∷ []) out r held
    → going (record { digits = length ds + 1; held = held; pads = 0; taken = i }) out ≡ seen a (ds ++ v ∷ []) 0 i
from_regrouped a ds v i r held out g =
    same_going i (sym (length-append ds (v ∷ []))) (regrouped_left (bits a) (ds ++ v ∷ []) out r held g) (regrouped_bytes (bits a) (ds ++ v ∷ []) out r held g)

pub on_digit_law : (a : ℕ) → a < 6 → (ds : List ℕ) (i : ℕ) {v : ℕ} → v < 2 ^ bits a
    → follow (state a ds 0 i) (bytes_of (bits a) ds) (on_digit a (state a ds 0 i) v) ≡ seen a (ds ++ v ∷ []) 0 (i + 1)
unfolding on_digit follow held_bits
on_digit_law a h ds i {v} l = go (ltb (bits a * length ds % 8 + bits a) 8) refl
  where
    go : (t : Bool) → ltb (bits a * length ds % 8 + bits a) 8 ≡ t
        → follow (state a ds 0 i) (bytes_of (bits a) ds) (on_digit a (state a ds 0 i) v) ≡ seen a (ds ++ v ∷ []) 0 (i + 1)
    go true e =
        rw e
        (from_regrouped a ds v (i + 1) _ _ _
        (regroup_hold (bits a) ds (bytes_of (bits a) ds) _ _ l (ltb-true _ _ e) (regrouped (bits a) ds)))
    go false e =
        let m : 8 ≤ bits a * length ds % 8 + bits a = ltb-false _ _ e in
        rw e
        (from_regrouped a ds v (i + 1) _ _ _
        (regroup_give (bits a) ds (bytes_of (bits a) ds) _ _ (bits a * length ds % 8 + bits a - 8) l (omega (arith, bits_high a h)) (omega arith) (regrouped (bits a) ds)))

-- ---- what one byte does

module _ (a opts : ℕ) (ds : List ℕ) (p i c : ℕ) where
  pub feed_dropped : dropped opts c ≡ true → feed a opts (seen a ds p i) c ≡ seen a ds p (i + 1)
  unfolding feed step follow passes
  feed_dropped f = rw f

  pub feed_foreign : dropped opts c ≡ false → is_digit a (turned a opts c) ≡ false → is_pad a c ≡ false
      → feed a opts (seen a ds p i) c ≡ stopped 4 i (bytes_of (bits a) ds)
  unfolding feed step follow
  feed_foreign f g k = rw (f, g, k)

  pub feed_late : dropped opts c ≡ false → is_digit a (turned a opts c) ≡ true → ltb 0 p ≡ true
      → feed a opts (seen a ds p i) c ≡ stopped 7 i (bytes_of (bits a) ds)
  unfolding feed step follow on_digit
  feed_late f g k = rw (f, g, k)

  pub to_pad : dropped opts c ≡ false → is_digit a (turned a opts c) ≡ false → is_pad a c ≡ true
      → feed a opts (seen a ds p i) c ≡ follow (state a ds p i) (bytes_of (bits a) ds) (on_pad a opts (state a ds p i))
  unfolding feed step
  to_pad f g k = rw (f, g, k)

pub feed_digit : (a : ℕ) → a < 6 → (opts : ℕ) (ds : List ℕ) (i c : ℕ) → dropped opts c ≡ false → is_digit a (turned a opts c) ≡ true
    → value a (turned a opts c) < 2 ^ bits a → feed a opts (seen a ds 0 i) c ≡ seen a (ds ++ value a (turned a opts c) ∷ []) 0 (i + 1)
unfolding feed step
feed_digit a h opts ds i c f g l = rw (f, g) (on_digit_law a h ds i l)

-- ---- what one pad does

pub record Tailed (a opts : ℕ) (ds : List ℕ) (p : ℕ) : Type 0 where
  pub fits : p ≤ tail a (length ds % group a)
  pub clear : any_spare opts ≡ false → left_of (bits a) ds ≡ 0

abbrev pub Stop : Reading → Type 0
Stop r = (k : ℕ) × (i : ℕ) × (out : List ℕ) × (r ≡ stopped k i out) × (0 < k)

-- of two, not both false: where the second is, the first is true
pub and_false : (p q : Bool) → not p && not q ≡ false → q ≡ false → p ≡ true
and_false true q e f = refl
and_false false true e f = sym f
and_false false false e f = sym e

-- one pad more, or a refusal
abbrev pub Padded : ℕ → ℕ → List ℕ → ℕ → ℕ → Reading → Type 0
Padded a opts ds p i x = ((x ≡ seen a ds (p + 1) (i + 1)) × Tailed a opts ds (p + 1)) ⊎ Stop x

pub on_pad_law : (a opts : ℕ) (ds : List ℕ) (p i : ℕ) → (0 < p → Tailed a opts ds p)
    → Padded a opts ds p i (follow (state a ds p i) (bytes_of (bits a) ds) (on_pad a opts (state a ds p i)))
unfolding on_pad follow wants
on_pad_law a opts ds p i t =
    go (ltb 0 p) refl (eqb p (tail a (length ds % group a))) refl (eqb (tail a (length ds % group a)) 0) refl
    (not (eqb (left_of (bits a) ds) 0) && not (any_spare opts)) refl
  where
    go : (x : Bool) → ltb 0 p ≡ x → (y : Bool) → eqb p (tail a (length ds % group a)) ≡ y → (z : Bool) → eqb (tail a (length ds % group a)) 0 ≡ z
        → (w : Bool) → (not (eqb (left_of (bits a) ds) 0) && not (any_spare opts)) ≡ w
        → Padded a opts ds p i (follow (state a ds p i) (bytes_of (bits a) ds) (on_pad a opts (state a ds p i)))
    go true e true f z g w k = inr (7, i, bytes_of (bits a) ds, rw (e, f), omega arith)
    go true e false f z g w k =
        let u : Tailed a opts ds p = t (ltb-true 0 p e) in
        inl (rw (e, f), record { fits = omega (arith, u.fits, eqb-false p (tail a (length ds % group a)) f); clear = u.clear })
    go false e y f true g w k = inr (5, i, bytes_of (bits a) ds, rw (e, g), omega arith)
    go false e y f false g true k = inr (6, i, bytes_of (bits a) ds, rw (e, g, k), omega arith)
    go false e y f false g false k =
        inl (
          rw (e, g, k),
          record {
            fits = omega (arith, ltb-false 0 p e, eqb-false (tail a (length ds % group a)) 0 g);
            clear = λ n. eqb-true (left_of (bits a) ds) 0 (and_false (eqb (left_of (bits a) ds) 0) (any_spare opts) k n);
          },
        )

pub feed_pad : (a opts : ℕ) (ds : List ℕ) (p i c : ℕ) → (0 < p → Tailed a opts ds p) → dropped opts c ≡ false
    → is_digit a (turned a opts c) ≡ false → is_pad a c ≡ true → Padded a opts ds p i (feed a opts (seen a ds p i) c)
feed_pad a opts ds p i c t f g k = rw (to_pad a opts ds p i c f g k) (on_pad_law a opts ds p i t)
