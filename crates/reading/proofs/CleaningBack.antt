-- Back through steps 4 and 3 of cleaning: what an accepted text was before them is digits and pads that make an accepted text. Assumes nothing.
use Prim.Native.Nat.{ℕ, zero, suc, ◌+◌, ◌-◌, ◌%◌, ◌^◌, ◌<◌, ◌≤◌}
use mathlib.Core.Path.{◌≡◌, refl, sym, ap, ap₂, ◌∙◌, subst}
use mathlib.Core.Logic.{◌⊎◌, inl, inr}
use mathlib.Core.Bool.{Bool, true, false, cond, not, ◌&&◌}
use mathlib.Core.List.{head-eq_of_cons-eq, tail-eq_of_cons-eq, cons≢nil, List, [], ◌∷◌, ◌++◌, map}
use native.Mathlib.Nat.{div-mul-le_self, lt_of_le_of_lt}
use native.Mathlib.Omega.{arith}
use lib.Dec.{T, eqb, ltb}
use lib.ListN.{length, get_or, set, length-set, length-append, length-replicate, replicate}
use lib.Seq.{set_at, get_or_at, set-set, set-get_or, get_or-set_same}
use borrow.Author.Tests.{ltb-true, ltb-false}
use Rattle.alphabet.specs.Bits.{Below}
use Rattle.alphabet.specs.Digits.{left_of}
use Rattle.alphabet.specs.Alphabet.{bits, group, spare, value, digit, is_digit, padded, pad}
use Rattle.alphabet.specs.Written.{wanting, Canonical}
use Rattle.alphabet.proofs.Shapes.{spelled_is, shape, shape_last, unique, digit_no_pad}
use Rattle.alphabet.proofs.SpareBits.{clear_low}
use Rattle.alphabet.proofs.AlphabetLaws.{value_digit}
use Rattle.alphabet.proofs.Below.{below_snoc, below_set}
use Rattle.alphabet.proofs.WrittenLaws.{ByDigits, canonical→digits}
use Rattle.alphabet.proofs.Symbols.{IsDigit, is_digit_law}
use Rattle.reading.specs.Options.{any_spare, nopad}
use Rattle.reading.specs.Cleaning.{has, refilled, pad_run, cleared_digit, cleared}
use Rattle.reading.proofs.CleaningLaws.{pads_after, refilled_shape, run_shape, cleared_none, run_pads, last_place}
use Rattle.reading.proofs.ZeroIsAccepted.{Closed, Snoc, none, some, snoc, below_last}

-- ---- texts of digits and pads

pub record Shape (a : ℕ) (u : List ℕ) : Type 0 where
  pub values : List ℕ
  pub pads : ℕ
  pub below : Below (2 ^ bits a) values
  pub form : shape a values pads ≡ u

pads_front : (u w : List ℕ) (q : ℕ) → u ++ w ≡ replicate q pad → replicate (length u) pad ≡ u
pads_front [] w q e = refl
pads_front (c ∷ u) w zero e = absurd (cons≢nil e)
pads_front (c ∷ u) w (suc q) e = ap₂ (λ (x : ℕ) (xs : List ℕ). x ∷ xs) (sym (head-eq_of_cons-eq e)) (pads_front u w q (tail-eq_of_cons-eq e))

pub shape_front : (a : ℕ) (u w ds : List ℕ) (q : ℕ) → Below (2 ^ bits a) ds → u ++ w ≡ shape a ds q → Shape a u
shape_front a [] w ds q l e = record { values = []; pads = 0; below = tt; form = refl }
shape_front a (c ∷ u) w [] q l e = record { values = []; pads = length (c ∷ u); below = tt; form = pads_front (c ∷ u) w q e }
shape_front a (c ∷ u) w (v ∷ ds) q l e =
    let r : Shape a u = shape_front a u w ds q l.1 (tail-eq_of_cons-eq e) in
    record {
      values = v ∷ r.values;
      pads = r.pads;
      below = (l.0, r.below);
      form = ap₂ (λ (x : ℕ) (xs : List ℕ). x ∷ xs) (sym (head-eq_of_cons-eq e)) r.form;
    }

set_shape : (a : ℕ) (ds : List ℕ) (q j w : ℕ) → j < length ds → set (shape a ds q) j (digit a w) ≡ shape a (set ds j w) q
set_shape a [] q j w l = absurd (omega arith)
set_shape a (v ∷ ds) q zero w l = refl
set_shape a (v ∷ ds) q (suc j) w l = ap (λ (xs : List ℕ). digit a v ∷ xs) (set_shape a ds q j w (omega arith))

late_pad : (a : ℕ) (ds : List ℕ) (q j : ℕ) → length ds ≤ j → j < length (shape a ds q) → get_or (shape a ds q) j 0 ≡ pad
late_pad a [] zero j l k = absurd (omega arith)
late_pad a [] (suc q) zero l k = refl
late_pad a [] (suc q) (suc j) l k = late_pad a [] q j (omega arith) (omega arith)
late_pad a (v ∷ ds) q zero l k = absurd (omega arith)
late_pad a (v ∷ ds) q (suc j) l k = late_pad a ds q j (omega arith) (omega arith)

-- ---- back through steps 4 and 3

last : List ℕ → ℕ
last t = length t - (pad_run t + 1)

-- step 4 leaves the text, or replaces a digit before its pads
record Replaced (a : ℕ) (t u : List ℕ) : Type 0 where
  inside : pad_run t < length t
  a_digit : is_digit a (get_or t (last t) 0) ≡ true
  by : u ≡ set t (last t) (cleared_digit a (spare a (pad_run t)) (get_or t (last t) 0))

cleared_cases : (a opts : ℕ) (t : List ℕ) → (cleared a opts t ≡ t) ⊎ Replaced a t (cleared a opts t)
unfolding cleared last
cleared_cases a opts t =
    go (any_spare opts && eqb (length t % group a) 0 && ltb 0 (spare a (pad_run t))) (ltb (pad_run t) (length t)) refl (is_digit a (get_or t (last t) 0)) refl
  where
    go : (x y : Bool) → ltb (pad_run t) (length t) ≡ y → (z : Bool) → is_digit a (get_or t (last t) 0) ≡ z
        → (cond (x && y && z) (set t (last t) (cleared_digit a (spare a (pad_run t)) (get_or t (last t) 0))) t ≡ t)
        ⊎ Replaced a t (cond (x && y && z) (set t (last t) (cleared_digit a (spare a (pad_run t)) (get_or t (last t) 0))) t)
    go true true e true f = inr (record { inside = ltb-true (pad_run t) (length t) e; a_digit = f; by = refl })
    go true true e false f = inl refl
    go true false e z f = inl refl
    go false y e z f = inl refl

clear_below : (s : ℕ) {v m : ℕ} → v < m → clear_low s v < m
clear_below s {v} l = lt_of_le_of_lt (div-mul-le_self v (2 ^ s)) l

pub cleared_back : (a : ℕ) → a < 6 → (opts : ℕ) (t : List ℕ) → Shape a (cleared a opts t) → Shape a t
unfolding cleared_digit last
cleared_back a h opts t s = go (cleared_cases a opts t)
  where
    go : (cleared a opts t ≡ t) ⊎ Replaced a t (cleared a opts t) → Shape a t
    go (inl e) = rw e at s
    go (inr r) =
        let j : ℕ = last t in
        let c : ℕ = get_or t j 0 in
        let k : IsDigit a c = is_digit_law a h c r.a_digit in
        let w : ℕ = clear_low (spare a (pad_run t)) (value a c) in
        let w< : w < 2 ^ bits a = clear_below (spare a (pad_run t)) k.small in
        let f : shape a s.values s.pads ≡ set t j (digit a w) = s.form ∙ r.by in
        let j< : j < length t = omega (arith, r.inside) in
        let back : set (shape a s.values s.pads) j c ≡ t = ap (λ (x : List ℕ). set x j c) f ∙ set-set t j (digit a w) c ∙ set-get_or t j 0 in
        let there : get_or (shape a s.values s.pads) j 0 ≡ digit a w = ap (λ (x : List ℕ). get_or x j 0) f ∙ get_or-set_same t j (digit a w) 0 j< in
        let size : length (shape a s.values s.pads) ≡ length t = ap length f ∙ length-set t j (digit a w) in
        pick j c w k w< back there (omega arith) (ltb j (length s.values)) refl
      where
        pick : (j c w : ℕ) → IsDigit a c → w < 2 ^ bits a → set (shape a s.values s.pads) j c ≡ t
            → get_or (shape a s.values s.pads) j 0 ≡ digit a w → j < length (shape a s.values s.pads) → (x : Bool) → ltb j (length s.values) ≡ x → Shape a t
        pick j c w k w< back there m true e =
            record {
              values = set s.values j (value a c);
              pads = s.pads;
              below = below_set (2 ^ bits a) s.values j (value a c) s.below k.small;
              form = sym (set_shape a s.values s.pads j (value a c) (ltb-true j (length s.values) e)) ∙ ap (set (shape a s.values s.pads) j) k.same ∙ back;
            }
        pick j c w k w< back there m false e =
            absurd (digit_no_pad a h w< (sym there ∙ late_pad a s.values s.pads j (ltb-false j (length s.values) e) m))

pub refilled_back : (a opts : ℕ) (t : List ℕ) → Shape a (refilled a opts t) → Shape a t
unfolding refilled
refilled_back a opts t s = go (nopad opts && padded a && not (has pad t)) s
  where
    go : (x : Bool) → Shape a (cond x (t ++ replicate (wanting (group a) (length t)) pad) t) → Shape a t
    go true s = shape_front a t (replicate (wanting (group a) (length t)) pad) s.values s.pads s.below (sym s.form)
    go false s = s

-- ---- an accepted text's digits and pads are closed

-- step 4 keeps the shape, the length, and where SPARE is unset all
record Kept (a opts : ℕ) (ds : List ℕ) (p : ℕ) : Type 0 where
  values : List ℕ
  below : Below (2 ^ bits a) values
  size : length values ≡ length ds
  form : cleared a opts (shape a ds p) ≡ shape a values p
  exact : any_spare opts ≡ false → values ≡ ds

replace : ℕ → List ℕ → List ℕ
replace a t = set t (last t) (cleared_digit a (spare a (pad_run t)) (get_or t (last t) 0))

replace_at : (a : ℕ) (xs : List ℕ) (c p : ℕ) → (c ≡ pad → ⊥) → replace a (xs ++ c ∷ replicate p pad) ≡ xs ++ cleared_digit a (spare a p) c ∷ replicate p pad
unfolding replace last
replace_at a xs c p n =
    let k : length (xs ++ c ∷ replicate p pad) - (p + 1) ≡ length xs = omega (arith, last_place xs c p) in
    rw (run_shape p c xs n, k, get_or_at xs c (replicate p pad) 0 (length xs) refl) (set_at xs c (replicate p pad) (cleared_digit a (spare a p) c) (length xs) refl)

replace_shape : (a : ℕ) → a < 6 → (ds : List ℕ) (v p : ℕ) → v < 2 ^ bits a → replace a (shape a (ds ++ v ∷ []) p) ≡ shape a (ds ++ clear_low (spare a p) v ∷ []) p
unfolding cleared_digit
replace_shape a h ds v p l =
    ap (replace a) (shape_last a ds v p) ∙ replace_at a (map (digit a) ds) (digit a v) p (digit_no_pad a h l)
    ∙ ap (λ (x : ℕ). map (digit a) ds ++ digit a (clear_low (spare a p) x) ∷ replicate p pad) (value_digit a h l)
    ∙ sym (shape_last a ds (clear_low (spare a p) v) p)

cleared_kept : (a : ℕ) → a < 6 → (opts : ℕ) (ds : List ℕ) (p : ℕ) → Below (2 ^ bits a) ds → Kept a opts ds p
unfolding replace
cleared_kept a h opts ds p l = pick (any_spare opts) refl
  where
    same : {es : List ℕ} → Below (2 ^ bits a) es → cleared a opts (shape a es p) ≡ shape a es p → Kept a opts es p
    same {es} l e = record { values = es; below = l; size = refl; form = e; exact = λ n. refl }

    go : {es : List ℕ} → Snoc es → Below (2 ^ bits a) es → any_spare opts ≡ true
        → (cleared a opts (shape a es p) ≡ shape a es p) ⊎ Replaced a (shape a es p) (cleared a opts (shape a es p)) → Kept a opts es p
    go n l e (inl f) = same l f
    go none l e (inr r) = absurd (omega (arith, r.inside, run_pads p, length-replicate p pad))
    go (some fs v) l e (inr r) =
        let k : Below (2 ^ bits a) fs × (v < 2 ^ bits a) = below_last (2 ^ bits a) fs l in
        record {
          values = fs ++ clear_low (spare a p) v ∷ [];
          below = below_snoc (2 ^ bits a) fs k.0 (clear_below (spare a p) k.1);
          size = length-append fs (clear_low (spare a p) v ∷ []) ∙ sym (length-append fs (v ∷ []));
          form = r.by ∙ replace_shape a h fs v p k.1;
          exact = λ n. absurd (subst T (sym (sym n ∙ e)) tt);
        }

    pick : (x : Bool) → any_spare opts ≡ x → Kept a opts ds p
    pick true e = go (snoc ds) l e (cleared_cases a opts (shape a ds p))
    pick false e = same l (cleared_none a opts (shape a ds p) e)

pub accepted_closed : (a : ℕ) → a < 6 → (opts : ℕ) (ds : List ℕ) (p : ℕ) → Below (2 ^ bits a) ds
    → Canonical a (cleared a opts (refilled a opts (shape a ds p))) → Closed a opts ds p
accepted_closed a h opts ds p l c =
    let q : ℕ = pads_after a opts ds p in
    let c' : Canonical a (cleared a opts (shape a ds q)) = rw (refilled_shape a h opts ds p l) at c in
    let d : ByDigits a (cleared a opts (shape a ds q)) = canonical→digits a h c' in
    let k : Kept a opts ds q = cleared_kept a h opts ds q l in
    let u : (d.values ≡ k.values) × (wanting (group a) (length d.values) ≡ q) =
    unique a h d.values k.values (wanting (group a) (length d.values)) q d.below k.below (sym (spelled_is a d.values) ∙ d.form ∙ k.form) in
    let n : length d.values ≡ length ds = ap length u.0 ∙ k.size in
    record {
      pads = sym u.1 ∙ ap (wanting (group a)) n;
      few = rw n at d.whole.few;
      clear = λ s. ap (left_of (bits a)) (sym (u.0 ∙ k.exact s)) ∙ d.whole.clear;
    }
