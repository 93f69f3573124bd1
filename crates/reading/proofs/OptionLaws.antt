-- What an allowed choice of alphabet and options says. Assumes nothing.
use Prim.Native.Nat.{ℕ, ◌<◌, ◌≤◌}
use mathlib.Core.Path.{◌≡◌, refl, sym, subst}
use mathlib.Core.Bool.{Bool, true, false, not, ◌&&◌}
use lib.Dec.{T, ltb}
use borrow.Author.Tests.{lt-ltb, ltb-true, ltb-false}
use Rattle.reading.specs.Options.{chosen, any_case, allowed}

never : {P : Type 0} → false ≡ true → P
never e = absurd (subst T (sym e) tt)

pub allowed_alphabet : (a opts : ℕ) → allowed a opts ≡ true → a < 6
unfolding allowed
allowed_alphabet a opts e = go (ltb a 6) refl e
  where
    go : (x : Bool) → ltb a 6 ≡ x → x && ltb opts 32 && not (any_case opts && ltb a 2) ≡ true → a < 6
    go true f e = ltb-true a 6 f
    go false f e = never e

-- CASE is for alphabets 2 to 5
pub allowed_case : (a opts : ℕ) → allowed a opts ≡ true → any_case opts ≡ true → 2 ≤ a
unfolding allowed
allowed_case a opts e c = go (ltb a 6) (ltb opts 32) (any_case opts) c (ltb a 2) refl e
  where
    go : (x y z : Bool) → z ≡ true → (w : Bool) → ltb a 2 ≡ w → x && y && not (z && w) ≡ true → 2 ≤ a
    go x y z c false f e = ltb-false a 2 f
    go true true true c true f e = never e
    go true true false c true f e = never c
    go true false z c true f e = never e
    go false y z c true f e = never e

-- the strict choice is allowed for every alphabet
pub strict_allowed : (a : ℕ) → a < 6 → allowed a 0 ≡ true
unfolding allowed chosen
strict_allowed a h = rw (lt-ltb a 6 h)
