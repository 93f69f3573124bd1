-- Steps 1 and 2 of cleaning: which bytes are dropped, which are turned, and what is left of a text. Assumes nothing.
use Prim.Native.Nat.{ℕ, ◌+◌, ◌-◌, ◌<◌}
use mathlib.Core.Path.{◌≡◌, refl, sym, ap, subst}
use mathlib.Core.Logic.{◌⊎◌, inl, inr, ◌↔◌}
use mathlib.Core.Bool.{Bool, true, false, cond, ◌&&◌, ◌||◌}
use mathlib.Core.List.{List, [], ◌∷◌, ◌++◌, map, map-append}
use native.Mathlib.Omega.{arith}
use lib.Dec.{T, eqb, leb}
use borrow.Author.Tests.{leb-true, eqb-true, eq-eqb}
use Rattle.alphabet.specs.Alphabet.{pad}
use Rattle.alphabet.proofs.Edges.{other_case}
use Rattle.reading.specs.Options.{chosen, lines, blank, any_case}
use Rattle.reading.specs.Cleaning.{dropped, kept, upper, lower, turned}

-- ---- what is dropped

-- a byte that LINES or BLANK names, where the option is set
abbrev pub Named : ℕ → ℕ → Type 0
Named opts c = ((lines opts ≡ true) × ((c ≡ 13) ⊎ (c ≡ 10))) ⊎ ((blank opts ≡ true) × ((c ≡ 32) ⊎ (c ≡ 9)))

pub drops_exactly : (opts c : ℕ) → (dropped opts c ≡ true) ↔ Named opts c
unfolding dropped
drops_exactly opts c = (to (lines opts) refl (blank opts) refl (eqb c 13) refl (eqb c 10) refl (eqb c 32) refl (eqb c 9) refl, from)
  where
    to : (x : Bool) → lines opts ≡ x → (y : Bool) → blank opts ≡ y → (p : Bool) → eqb c 13 ≡ p → (q : Bool) → eqb c 10 ≡ q → (r : Bool) → eqb c 32 ≡ r → (s : Bool) → eqb c 9 ≡ s
        → (x && (p || q) || y && (r || s)) ≡ true → Named opts c
    to true x y f true p q g r h s i e = inl (x, inl (eqb-true c 13 p))
    to true x y f false p true g r h s i e = inl (x, inr (eqb-true c 10 g))
    to true x true f false p false g true h s i e = inr (f, inl (eqb-true c 32 h))
    to true x true f false p false g false h true i e = inr (f, inr (eqb-true c 9 i))
    to true x true f false p false g false h false i e = absurd (subst T (sym e) tt)
    to true x false f false p false g r h s i e = absurd (subst T (sym e) tt)
    to false x true f p g q h true i s j e = inr (f, inl (eqb-true c 32 i))
    to false x true f p g q h false i true j e = inr (f, inr (eqb-true c 9 j))
    to false x true f p g q h false i false j e = absurd (subst T (sym e) tt)
    to false x false f p g q h r i s j e = absurd (subst T (sym e) tt)

    or_right : (x : Bool) → (x || true) ≡ true
    or_right true = refl
    or_right false = refl

    from : Named opts c → dropped opts c ≡ true
    from (inl (l, inl e)) = rw (l, eq-eqb c 13 e)
    from (inl (l, inr e)) = rw (l, eq-eqb c 10 e, or_right (eqb c 13))
    from (inr (b, inl e)) = rw (b, eq-eqb c 32 e) (or_right (lines opts && (eqb c 13 || eqb c 10)))
    from (inr (b, inr e)) = rw (b, eq-eqb c 9 e, or_right (eqb c 32)) (or_right (lines opts && (eqb c 13 || eqb c 10)))

-- no byte above the blank is dropped
pub kept_high : (opts c : ℕ) → 32 < c → dropped opts c ≡ false
kept_high opts c l = go (dropped opts c) refl
  where
    no : Named opts c → ⊥
    no (inl (x, inl e)) = omega arith
    no (inl (x, inr e)) = omega arith
    no (inr (x, inl e)) = omega arith
    no (inr (x, inr e)) = omega arith

    go : (x : Bool) → dropped opts c ≡ x → dropped opts c ≡ false
    go true e = absurd (no ((drops_exactly opts c).0 e))
    go false e = e

-- ---- what is turned

-- no byte of the alphabet's own case is turned
pub own_stays : (a opts c : ℕ) → other_case a c ≡ false → turned a opts c ≡ c
unfolding turned upper lower
own_stays a opts c = go (any_case opts) (eqb a 5) (leb 65 c && leb c 90) (leb 97 c && leb c 122)
  where
    go : (w x y z : Bool) → cond x y z ≡ false → cond w (cond x (cond y (c + 32) c) (cond z (c - 32) c)) c ≡ c
    go true true y z e = rw e
    go true false y z e = rw e
    go false x y z e = refl

pub turned_pad : (a opts : ℕ) → turned a opts pad ≡ pad
unfolding turned upper lower
turned_pad a opts = go (any_case opts) (eqb a 5)
  where
    go : (x y : Bool) → cond x (cond y (lower pad) (upper pad)) pad ≡ pad
    go true true = refl
    go true false = refl
    go false y = refl

pub turned_back : (a opts c : ℕ) → turned a opts c ≡ pad → c ≡ pad
unfolding turned upper lower
turned_back a opts c e = go (any_case opts) (eqb a 5) (leb 65 c) refl (leb c 90) refl (leb 97 c) refl (leb c 122) refl e
  where
    go : (x y : Bool) (l : Bool) → leb 65 c ≡ l → (m : Bool) → leb c 90 ≡ m → (n : Bool) → leb 97 c ≡ n → (o : Bool) → leb c 122 ≡ o
        → cond x (cond y (cond (l && m) (c + 32) c) (cond (n && o) (c - 32) c)) c ≡ pad → c ≡ pad
    go true true true p true q n r o s e = absurd (omega (arith, leb-true 65 c p))
    go true true true p false q n r o s e = e
    go true true false p m q n r o s e = e
    go true false l p m q true r true s e = absurd (omega (arith, leb-true 97 c r))
    go true false l p m q true r false s e = e
    go true false l p m q false r o s e = e
    go false y l p m q n r o s e = e

-- ---- what is left

-- the text without what is dropped, in the alphabet's own case
abbrev pub plain : ℕ → ℕ → List ℕ → List ℕ
plain a opts t = map (turned a opts) (kept opts t)

kept_append : (opts : ℕ) (t u : List ℕ) → kept opts (t ++ u) ≡ kept opts t ++ kept opts u
unfolding kept
kept_append opts [] u = refl
kept_append opts (c ∷ t) u = go (dropped opts c) refl (kept_append opts t u)
  where
    go : (x : Bool) → dropped opts c ≡ x → kept opts (t ++ u) ≡ kept opts t ++ kept opts u → kept opts (c ∷ (t ++ u)) ≡ kept opts (c ∷ t) ++ kept opts u
    go true e r = rw e r
    go false e r = rw (e, r)

pub plain_append : (a opts : ℕ) (t u : List ℕ) → plain a opts (t ++ u) ≡ plain a opts t ++ plain a opts u
plain_append a opts t u = rw (kept_append opts t u, map-append)

pub plain_drop : (a opts c : ℕ) → dropped opts c ≡ true → plain a opts (c ∷ []) ≡ []
unfolding kept
plain_drop a opts c e = rw e

pub plain_keep : (a opts c : ℕ) → dropped opts c ≡ false → plain a opts (c ∷ []) ≡ turned a opts c ∷ []
unfolding kept
plain_keep a opts c e = rw e

-- a text's first byte is dropped, or turned
pub plain_case : (a opts c : ℕ) (t : List ℕ) → ((dropped opts c ≡ true) × (plain a opts (c ∷ t) ≡ plain a opts t)) ⊎ ((dropped opts c ≡ false) × (plain a opts (c ∷ t) ≡ turned a opts c ∷ plain a opts t))
unfolding kept
plain_case a opts c t = go (dropped opts c) refl
  where
    go : (x : Bool) → dropped opts c ≡ x
        → ((dropped opts c ≡ true) × (plain a opts (c ∷ t) ≡ plain a opts t)) ⊎ ((dropped opts c ≡ false) × (plain a opts (c ∷ t) ≡ turned a opts c ∷ plain a opts t))
    go true e = inl (e, rw e)
    go false e = inr (e, rw e)

-- with no option set, all
pub strict_plain : (a : ℕ) (t : List ℕ) → plain a 0 t ≡ t
unfolding kept dropped turned chosen
strict_plain a [] = refl
strict_plain a (c ∷ t) = ap (λ (u : List ℕ). c ∷ u) (strict_plain a t)
