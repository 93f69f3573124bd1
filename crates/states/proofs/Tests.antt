-- A state that text leads to is one that reading can go on from, with counts and pads that fit. Assumes nothing.
use Prim.Native.Nat.{ℕ}
use mathlib.Core.Path.{◌≡◌, refl, sym, ◌∙◌, subst}
use mathlib.Core.Bool.{Bool, true, false, ◌&&◌}
use native.Mathlib.Omega.{arith}
use lib.Dec.{T}
use Rattle.rule.specs.declared.Core.{Core}
use Rattle.rule.specs.Meaning.{state_of}
use Rattle.rule.specs.State.{ready}
use Rattle.rule.proofs.Readiness.{is_ready, sound_ready}
use Rattle.streaming.specs.Stream.{Status}
use Rattle.streaming.specs.Given.{counts_fit, pads_fit, readable, status_fits}
use Rattle.streaming.proofs.GivenLaws.{Readable, readable_says, readable_is}

module _ (a opts : ℕ) (k : Core) where
  pub readable_ready : readable a opts (state_of k) ≡ true → ready a opts k ≡ true
  readable_ready e =
      let x : Readable a opts (state_of k) = readable_says a opts (state_of k) e in
      sound_ready a opts k x.choice x.within
      (record { held = x.fits.held; digits = omega (arith, x.fits.counts); pads = omega (arith, x.fits.counts) })

  pub unready : ready a opts k ≡ false → readable a opts (state_of k) ≡ false
  unready e = go (readable a opts (state_of k)) refl
    where
      go : (x : Bool) → readable a opts (state_of k) ≡ x → x ≡ false
      go true f = absurd (subst T (sym (readable_ready f) ∙ e) tt)
      go false f = refl

  -- a state is readable where it is ready and its counts and its pads fit
  pub readable_by : readable a opts (state_of k) ≡ ready a opts k && counts_fit opts (state_of k) && pads_fit a opts (state_of k)
  readable_by = go (ready a opts k) refl
    where
      go : (x : Bool) → ready a opts k ≡ x → readable a opts (state_of k) ≡ x && counts_fit opts (state_of k) && pads_fit a opts (state_of k)
      go true e = let r = is_ready a opts k e in readable_is a opts (state_of k) r.choice r.sound.held
      go false e = unready e

  pub given_ready : (u : Status) → readable a opts (state_of k) && status_fits a opts (state_of k) u ≡ true → ready a opts k ≡ true
  given_ready u e = go (readable a opts (state_of k)) refl e
    where
      go : (x : Bool) → readable a opts (state_of k) ≡ x → x && status_fits a opts (state_of k) u ≡ true → ready a opts k ≡ true
      go true f e = readable_ready f
      go false f e = absurd (subst T (sym e) tt)
