-- What the functions here answer is determined: every contract but one is an equation with the answer itself, and that one, of `ending`, gives
-- 01's number, which determines the answer. Assumes nothing.
use Prim.Native.Nat.{ℕ}
use mathlib.Core.Path.{◌≡◌, refl, sym, ap, ◌∙◌}
use mathlib.Core.Bool.{false, cond}
use lib.Dec.{eqb}
use Rattle.std.specs.Prelude.{Result, Ok, Err}
use Rattle.rule.specs.declared.Cause.{Cause}
use Rattle.rule.specs.declared.Cause.TheVariants as C
use Rattle.rule.specs.Meaning.{number, end_of, cause_of}
use Rattle.rule.proofs.Causes.{cause_back}

number_some : (c : Cause) → eqb (number c) 0 ≡ false
unfolding number
number_some C.TooLong = refl
number_some C.Foreign = refl
number_some C.PadPlace = refl
number_some C.Spare = refl
number_some C.AfterPad = refl
number_some C.Short = refl

-- the end of 01's number
end : ℕ → Result (Unit {0}) Cause
end k = cond (eqb k 0) (Ok tt) (Err (cause_of k))

end_back : (x : Result (Unit {0}) Cause) → end (end_of x) ≡ x
unfolding end
end_back (Ok _) = refl
end_back (Err c) = rw (number_some c, cause_back c)

pub ending_determined : (x y : Result (Unit {0}) Cause) {k : ℕ} → end_of x ≡ k → end_of y ≡ k → x ≡ y
ending_determined x y p q = sym (end_back x) ∙ ap end (p ∙ sym q) ∙ end_back y
