-- Steps 3 and 4 of cleaning, on a text of digits and pads: which pads are added, and which digit's spare bits are cleared. Assumes nothing.
use Prim.Native.Nat.{ℕ, zero, suc, ◌+◌, ◌-◌, ◌*◌, ◌/◌, ◌%◌, ◌^◌, ◌<◌}
use mathlib.Core.Path.{◌≡◌, refl, sym, ap, ◌∙◌}
use mathlib.Core.Bool.{Bool, true, false, cond, not, ◌&&◌}
use mathlib.Core.List.{List, [], ◌∷◌, ◌++◌, map, append-nil}
use native.Mathlib.Omega.{arith}
use lib.Dec.{eqb, ltb}
use lib.ListN.{length, get_or, set, length-append, length-map, length-replicate, replicate}
use lib.Seq.{set_at, get_or_at}
use borrow.Author.Tests.{lt-ltb, eqb-true, eq-eqb, ne_eqb}
use Rattle.alphabet.specs.Bits.{Below}
use Rattle.alphabet.specs.Alphabet.{bits, group, spare, digit, is_digit, padded, pad}
use Rattle.alphabet.specs.Written.{wanting}
use Rattle.alphabet.proofs.AlphabetLaws.{value_digit}
use Rattle.alphabet.proofs.Shapes.{shape, shape_last, digit_is, digit_no_pad}
use Rattle.alphabet.proofs.SpareBits.{clear_low}
use Rattle.reading.specs.Options.{any_spare, nopad}
use Rattle.reading.specs.Cleaning.{has, refilled, pad_run, cleared_digit, cleared}

-- ---- step 3

has_pads : (p : ℕ) → has pad (replicate p pad) ≡ not (eqb p 0)
unfolding has
has_pads zero = refl
has_pads (suc p) = sym (ap not (ne_eqb (suc p) 0 (λ e. omega arith)))

has_shape : (a : ℕ) → a < 6 → (ds : List ℕ) (p : ℕ) → Below (2 ^ bits a) ds → has pad (shape a ds p) ≡ not (eqb p 0)
unfolding has
has_shape a h [] p l = has_pads p
has_shape a h (v ∷ ds) p l = rw (ne_eqb (digit a v) pad (digit_no_pad a h l.0)) (has_shape a h ds p l.1)

-- the pads after step 3
unfoldable pub pads_after : ℕ → ℕ → List ℕ → ℕ → ℕ
pads_after a opts ds p = cond (nopad opts && padded a && eqb p 0) (wanting (group a) (length ds)) p

not_not : (x : Bool) → not (not x) ≡ x
not_not true = refl
not_not false = refl

pub refilled_shape : (a : ℕ) → a < 6 → (opts : ℕ) (ds : List ℕ) (p : ℕ) → Below (2 ^ bits a) ds → refilled a opts (shape a ds p) ≡ shape a ds (pads_after a opts ds p)
unfolding refilled pads_after
refilled_shape a h opts ds p l = rw (has_shape a h ds p l, not_not (eqb p 0)) (go (nopad opts && padded a) (eqb p 0) refl)
  where
    go : (x y : Bool) → eqb p 0 ≡ y
        → cond (x && y) (shape a ds p ++ replicate (wanting (group a) (length (shape a ds p))) pad) (shape a ds p)
        ≡ shape a ds (cond (x && y) (wanting (group a) (length ds)) p)
    go true true e = rw (eqb-true p 0 e, append-nil, length-map)
    go true false e = refl
    go false y e = refl

pub pads_kept : (a opts : ℕ) (ds : List ℕ) (p : ℕ) → 0 < p → pads_after a opts ds p ≡ p
unfolding pads_after
pads_kept a opts ds p l = rw (ne_eqb p 0 (λ e. omega arith)) (go (nopad opts && padded a))
  where
    go : (x : Bool) → cond (x && false) (wanting (group a) (length ds)) p ≡ p
    go true = refl
    go false = refl

pub pads_added : (a opts : ℕ) (ds : List ℕ) → nopad opts ≡ true → padded a ≡ true → pads_after a opts ds 0 ≡ wanting (group a) (length ds)
unfolding pads_after
pads_added a opts ds n q = rw (n, q)

pub pads_none : (a opts : ℕ) (ds : List ℕ) → wanting (group a) (length ds) ≡ 0 → pads_after a opts ds 0 ≡ 0
unfolding pads_after
pads_none a opts ds e = rw e (go (nopad opts && padded a))
  where
    go : (x : Bool) → ◌≡◌ {A = ℕ} (cond (x && true) 0 0) 0
    go true = refl
    go false = refl

-- ---- step 4

pub run_pads : (p : ℕ) → pad_run (replicate p pad) ≡ p
unfolding pad_run
run_pads zero = refl
run_pads (suc p) = rw (run_pads p, length-replicate p pad, eq-eqb p p refl)

pub run_shape : (p c : ℕ) (xs : List ℕ) → (c ≡ pad → ⊥) → pad_run (xs ++ c ∷ replicate p pad) ≡ p
unfolding pad_run
run_shape p c [] n = rw (ne_eqb c pad n) (run_pads p)
run_shape p c (x ∷ xs) n =
    rw
    (run_shape p c xs n, length-append xs (c ∷ replicate p pad), length-replicate p pad, ne_eqb p (length xs + suc p) (λ e. omega arith))
    (go (eqb x pad))
  where
    go : (y : Bool) → cond (y && false) (suc p) p ≡ p
    go true = refl
    go false = refl

pub cleared_none : (a opts : ℕ) (t : List ℕ) → any_spare opts ≡ false → cleared a opts t ≡ t
unfolding cleared
cleared_none a opts t e = rw e

pub cleared_full : (a opts : ℕ) (t : List ℕ) → spare a (pad_run t) ≡ 0 → cleared a opts t ≡ t
unfolding cleared
cleared_full a opts t e = rw e (go (any_spare opts) (eqb (length t % group a) 0))
  where
    go : (x y : Bool) → cond (x && y && false && ltb (pad_run t) (length t) && is_digit a (get_or t (length t - (pad_run t + 1)) 0)) (set t (length t - (pad_run t + 1)) (cleared_digit a 0 (get_or t (length t - (pad_run t + 1)) 0))) t ≡ t
    go true true = refl
    go true false = refl
    go false y = refl

pub last_place : (xs : List ℕ) (c p : ℕ) → length (xs ++ c ∷ replicate p pad) ≡ length xs + suc p
last_place xs c p = rw (length-append xs (c ∷ replicate p pad), length-replicate p pad)

cleared_at : (a opts : ℕ) (xs : List ℕ) (c p : ℕ) → (c ≡ pad → ⊥) → is_digit a c ≡ true → any_spare opts ≡ true
    → length (xs ++ c ∷ replicate p pad) % group a ≡ 0 → 0 < spare a p
    → cleared a opts (xs ++ c ∷ replicate p pad) ≡ xs ++ cleared_digit a (spare a p) c ∷ replicate p pad
unfolding cleared
cleared_at a opts xs c p n d e m z =
    let k : length (xs ++ c ∷ replicate p pad) - (p + 1) ≡ length xs = omega (arith, last_place xs c p) in
    rw
    (run_shape p c xs n, k, get_or_at xs c (replicate p pad) 0 (length xs) refl, e, eq-eqb (length (xs ++ c ∷ replicate p pad) % group a) 0 m, lt-ltb 0 (spare a p) z, lt-ltb p (length (xs ++ c ∷ replicate p pad)) (omega (arith, last_place xs c p)), d)
    (set_at xs c (replicate p pad) (cleared_digit a (spare a p) c) (length xs) refl)

pub cleared_shape : (a : ℕ) → a < 6 → (opts : ℕ) (ds : List ℕ) (v p : ℕ) → v < 2 ^ bits a → any_spare opts ≡ true
    → length (shape a (ds ++ v ∷ []) p) % group a ≡ 0 → 0 < spare a p → cleared a opts (shape a (ds ++ v ∷ []) p) ≡ shape a (ds ++ clear_low (spare a p) v ∷ []) p
unfolding cleared_digit
cleared_shape a h opts ds v p k e m z =
    ap (cleared a opts) (shape_last a ds v p)
    ∙ cleared_at a opts (map (digit a) ds) (digit a v) p (digit_no_pad a h k) (digit_is a h k) e (rw shape_last at m) z
    ∙ ap (λ (x : ℕ). map (digit a) ds ++ digit a (x / 2 ^ spare a p * 2 ^ spare a p) ∷ replicate p pad) (value_digit a h k)
    ∙ sym (shape_last a ds (clear_low (spare a p) v) p)
