-- What the test of a state says, and the numbers that it works with. Assumes nothing.
use Prim.Native.Nat.{ℕ, ◌*◌, ◌^◌, ◌<◌, ◌≤◌}
use mathlib.Core.Path.{◌≡◌, refl, sym, subst}
use mathlib.Core.Bool.{Bool, true, false, ◌&&◌}
use native.Mathlib.Nat.{mul-le-mul_right}
use native.Mathlib.Omega.{arith}
use lib.Dec.{T, leb}
use borrow.Author.Tests.{lt-ltb, le-leb, ltb-true, leb-true}
use Rattle.alphabet.specs.Alphabet.{bits}
use Rattle.alphabet.proofs.AlphabetLaws.{bits_high}
use Rattle.reading.specs.Options.{allowed}
use Rattle.reading.specs.Limit.{limit}
use Rattle.reading.specs.Reader.{held_bits}
use Rattle.reading.specs.Sound.{Sound}
use Rattle.reading.proofs.LimitLaws.{limit_small}
use Rattle.rule.specs.declared.Core.{Core}
use Rattle.rule.specs.Meaning.{state_of}
use Rattle.rule.specs.State.{small, ready}

and_two : (p q : Bool) → p && q ≡ true → (p ≡ true) × (q ≡ true)
and_two true q e = (refl, e)
and_two false q e = absurd (subst T (sym e) tt)

pub record IsReady (a opts : ℕ) (k : Core) : Type 0 where
  pub choice : allowed a opts ≡ true
  pub taken : k.taken ≤ limit
  pub sound : Sound a (state_of k)

pub is_ready : (a opts : ℕ) (k : Core) → ready a opts k ≡ true → IsReady a opts k
unfolding ready small held_bits
is_ready a opts k e =
    let p = and_two (allowed a opts && leb k.taken limit && leb k.digits k.taken && leb k.pads k.taken) _ e in
    let q = and_two (allowed a opts && leb k.taken limit && leb k.digits k.taken) _ p.0 in
    let r = and_two (allowed a opts && leb k.taken limit) _ q.0 in
    let s = and_two (allowed a opts) _ r.0 in
    record {
      choice = s.0;
      taken = leb-true _ _ s.1;
      sound = record { held = ltb-true _ _ p.1; digits = leb-true _ _ r.1; pads = leb-true _ _ q.1 };
    }

-- and a state that is sound, within the limit and under an allowed choice, passes it
module _ (a opts : ℕ) (k : Core) where
  pub sound_ready : allowed a opts ≡ true → k.taken ≤ limit → Sound a (state_of k) → ready a opts k ≡ true
  unfolding ready small held_bits
  sound_ready e l s = rw (e, le-leb _ _ l, le-leb _ _ s.digits, le-leb _ _ s.pads) (lt-ltb _ _ s.held)

pub small_product : (a d : ℕ) → a < 6 → d ≤ limit → bits a * d < 2 ^ 40
small_product a d h l = omega (arith, mul-le-mul_right d (bits_high a h), limit_small)
