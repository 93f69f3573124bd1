-- What the test of a state says: some text leads to the state, and its status stands to it as a refusal or an end does. Assumes nothing.
use Prim.Native.Nat.{ℕ, ◌+◌, ◌^◌, ◌<◌, ◌≤◌}
use mathlib.Core.Path.{◌≡◌, refl, sym, ◌∙◌, subst}
use mathlib.Core.Bool.{Bool, true, false, cond, not, ◌&&◌, ◌||◌, or-true, or-false}
use native.Mathlib.Omega.{arith}
use lib.Dec.{T, eqb, ltb, leb}
use borrow.Author.Tests.{ltb-true, ltb-false, leb-true, eqb-true, eqb-false, lt-ltb, le-leb, eq-eqb, ne_eqb, not-true}
use Rattle.alphabet.specs.Alphabet.{padded}
use Rattle.reading.specs.Limit.{limit}
use Rattle.reading.specs.Options.{lines, blank, nopad, any_spare, allowed}
use Rattle.reading.specs.Reader.{State, wants, held_bits, ending}
use Rattle.reading.proofs.Building.{Fits}
use Rattle.reading.proofs.OptionLaws.{allowed_alphabet}
use Rattle.reading.proofs.Refusals.{SpareLeft, Blame, foreign, misplaced, spare, late, blame, Ended, whole, short, ended, ends_spare, refuser}
use Rattle.streaming.specs.Stream.{Status, live, shut, done, Stream}
use Rattle.streaming.specs.Given.{counts_fit, pads_fit, readable, spare_left, refusable, status_fits, given}
use Rattle.streaming.proofs.Standing.{Refusal, at_limit, at_byte, at_end, Stands}

both : (p q : Bool) → p && q ≡ true → (p ≡ true) × (q ≡ true)
both true q e = (refl, e)
both false q e = absurd (subst T (sym e) tt)

-- some text within the limit leads to the state, under an allowed choice
pub record Readable (a opts : ℕ) (s : State) : Type 0 where
  pub choice : allowed a opts ≡ true
  pub within : s.taken ≤ limit
  pub fits : Fits a opts s

module _ (a opts : ℕ) (s : State) where
  counts_say : counts_fit opts s ≡ true
      → (s.taken ≤ limit) × (s.digits + s.pads ≤ s.taken) × (lines opts ≡ false → blank opts ≡ false → s.taken ≡ s.digits + s.pads)
  unfolding counts_fit
  counts_say e =
      let x = both (leb s.taken limit && leb (s.digits + s.pads) s.taken) _ e in
      let y = both (leb s.taken limit) _ x.0 in (
        leb-true s.taken limit y.0,
        leb-true (s.digits + s.pads) s.taken y.1,
        λ f g. eqb-true s.taken (s.digits + s.pads) (rw (f, g) at x.1),
      )

  pads_say : pads_fit a opts s ≡ true → (s.pads ≤ wants a s) × (0 < s.pads → any_spare opts ≡ false → s.held ≡ 0)
  unfolding pads_fit
  pads_say e =
      let x = both (leb s.pads (wants a s)) _ e in
      (leb-true s.pads (wants a s) x.0, λ l f. eqb-true s.held 0 (clear f (rw (ne_eqb s.pads 0 (λ q. omega arith)) at x.1)))
    where
      clear : any_spare opts ≡ false → eqb s.held 0 || any_spare opts ≡ true → eqb s.held 0 ≡ true
      clear f e = sym (or-false (eqb s.held 0)) ∙ (rw f at e)

  pub readable_says : readable a opts s ≡ true → Readable a opts s
  unfolding readable
  readable_says e =
      let x = both (allowed a opts && counts_fit opts s && ltb s.held (2 ^ held_bits a s)) _ e in
      let y = both (allowed a opts && counts_fit opts s) _ x.0 in
      let z = both (allowed a opts) _ y.0 in
      let n = counts_say z.1 in
      let p = pads_say x.1 in
      record {
        choice = z.0;
        within = n.0;
        fits = record { counts = n.1; exact = n.2; held = ltb-true s.held (2 ^ held_bits a s) y.1; pads = p.0; clear = p.1 };
      }

  pub readable_is : allowed a opts ≡ true → s.held < 2 ^ held_bits a s → readable a opts s ≡ counts_fit opts s && pads_fit a opts s
  unfolding readable
  readable_is e l = go (counts_fit opts s) refl
    where
      go : (x : Bool) → counts_fit opts s ≡ x → allowed a opts && counts_fit opts s && ltb s.held (2 ^ held_bits a s) && pads_fit a opts s ≡ counts_fit opts s && pads_fit a opts s
      go true f = rw (e, f, lt-ltb s.held (2 ^ held_bits a s) l)
      go false f = rw (e, f)

  readable_holds : Readable a opts s → readable a opts s ≡ true
  unfolding readable counts_fit pads_fit
  readable_holds x =
      rw (
        x.choice,
        le-leb s.taken limit x.within,
        le-leb (s.digits + s.pads) s.taken x.fits.counts,
        exact (lines opts) refl (blank opts) refl,
        lt-ltb s.held (2 ^ held_bits a s) x.fits.held,
        le-leb s.pads (wants a s) x.fits.pads,
        clear (ltb 0 s.pads) refl (any_spare opts) refl,
      )
    where
      exact : (p : Bool) → lines opts ≡ p → (q : Bool) → blank opts ≡ q → lines opts || blank opts || eqb s.taken (s.digits + s.pads) ≡ true
      exact true f q g = rw f
      exact false f true g = rw (f, g)
      exact false f false g = rw (f, g) (eq-eqb s.taken (s.digits + s.pads) (x.fits.exact f g))

      clear : (p : Bool) → ltb 0 s.pads ≡ p → (q : Bool) → any_spare opts ≡ q → eqb s.pads 0 || eqb s.held 0 || any_spare opts ≡ true
      clear false f q g = rw (eq-eqb s.pads 0 (omega (arith, ltb-false 0 s.pads f)))
      clear true f true g = rw g (or-true (eqb s.pads 0 || eqb s.held 0))
      clear true f false g = rw (ne_eqb s.pads 0 (λ q. omega (arith, ltb-true 0 s.pads f)), eq-eqb s.held 0 (x.fits.clear (ltb-true 0 s.pads f) g))

  -- ---- a refusal

  spare_says : spare_left a opts s ≡ true → SpareLeft a opts s
  unfolding spare_left
  spare_says e =
      let x = both (eqb s.pads 0 && not (eqb (wants a s) 0) && not (eqb s.held 0)) _ e in
      let y = both (eqb s.pads 0 && not (eqb (wants a s) 0)) _ x.0 in
      let z = both (eqb s.pads 0) _ y.0 in
      record {
        unpadded = eqb-true s.pads 0 z.0;
        tailed = omega (arith, eqb-false (wants a s) 0 (not-true _ z.1));
        some = omega (arith, eqb-false s.held 0 (not-true _ y.1));
        strict = not-true (any_spare opts) x.1;
      }

  spare_holds : SpareLeft a opts s → spare_left a opts s ≡ true
  unfolding spare_left
  spare_holds x =
      rw (
        eq-eqb s.pads 0 x.unpadded,
        ne_eqb (wants a s) 0 (λ e. omega (arith, x.tailed)),
        ne_eqb s.held 0 (λ e. omega (arith, x.some)),
        x.strict,
      )

  by_byte : a < 6 → {k : ℕ} → s.taken < limit → Blame a opts s k → Refusal a opts s k
  by_byte h l b = let r = refuser a h opts s b in at_byte l r.byte r.small r.refused

  spare_refusal : a < 6 → SpareLeft a opts s → ltb s.taken limit || nopad opts ≡ true → Refusal a opts s 6
  spare_refusal h x e = go (ltb s.taken limit) refl (nopad opts) refl e
    where
      go : (p : Bool) → ltb s.taken limit ≡ p → (q : Bool) → nopad opts ≡ q → p || q ≡ true → Refusal a opts s 6
      go true f q g e = by_byte h (ltb-true s.taken limit f) (spare x)
      go false f q g e = at_end (ends_spare a opts s h x (g ∙ e)) (omega arith)

  misplaced_refusal : a < 6 → ltb s.taken limit && padded a && eqb s.pads 0 && eqb (wants a s) 0 ≡ true → Refusal a opts s 5
  misplaced_refusal h e =
      let x = both (ltb s.taken limit && padded a && eqb s.pads 0) _ e in
      let y = both (ltb s.taken limit && padded a) _ x.0 in
      let z = both (ltb s.taken limit) _ y.0 in
      by_byte h (ltb-true s.taken limit z.0) (misplaced z.1 (eqb-true s.pads 0 y.1) (eqb-true (wants a s) 0 x.1))

  refusable_says : a < 6 → (k : ℕ) → refusable a opts s k ≡ true → Refusal a opts s k
  unfolding refusable
  refusable_says h k e = go (eqb k 2) refl (eqb k 4) refl (eqb k 5) refl (eqb k 6) refl (eqb k 7) refl (eqb k 8) refl e
    where
      is : (n : ℕ) → eqb k n ≡ true → Refusal a opts s n → Refusal a opts s k
      is n f = subst (Refusal a opts s) (sym (eqb-true k n f))

      go : (u : Bool) → eqb k 2 ≡ u → (v : Bool) → eqb k 4 ≡ v → (w : Bool) → eqb k 5 ≡ w → (x : Bool) → eqb k 6 ≡ x → (y : Bool) → eqb k 7 ≡ y
          → (z : Bool) → eqb k 8 ≡ z
          → cond u (eqb s.taken limit)
          (cond v (ltb s.taken limit)
          (cond w (ltb s.taken limit && padded a && eqb s.pads 0 && eqb (wants a s) 0)
          (cond x (spare_left a opts s && (ltb s.taken limit || nopad opts))
          (cond y (ltb s.taken limit && ltb 0 s.pads) (z && eqb (ending a opts s) 8))))) ≡ true
          → Refusal a opts s k
      go true f v _ w _ x _ y _ z _ e = is 2 f (at_limit (eqb-true s.taken limit e))
      go false _ true f w _ x _ y _ z _ e = is 4 f (by_byte h (ltb-true s.taken limit e) foreign)
      go false _ false _ true f x _ y _ z _ e = is 5 f (misplaced_refusal h e)
      go false _ false _ false _ true f y _ z _ e =
          let q = both (spare_left a opts s) _ e in is 6 f (spare_refusal h (spare_says q.0) q.1)
      go false _ false _ false _ false _ true f z _ e =
          let q = both (ltb s.taken limit) _ e in is 7 f (by_byte h (ltb-true s.taken limit q.0) (late (ltb-true 0 s.pads q.1)))
      go false _ false _ false _ false _ false _ true f e = is 8 f (at_end (eqb-true (ending a opts s) 8 e) (omega arith))
      go false _ false _ false _ false _ false _ false _ e = absurd (subst T (sym e) tt)

  blamed_holds : {k : ℕ} → s.taken < limit → Blame a opts s k → refusable a opts s k ≡ true
  unfolding refusable
  blamed_holds l foreign = lt-ltb s.taken limit l
  blamed_holds l (misplaced p e f) = rw (lt-ltb s.taken limit l, p, eq-eqb s.pads 0 e, eq-eqb (wants a s) 0 f)
  blamed_holds l (spare x) = rw (spare_holds x, lt-ltb s.taken limit l)
  blamed_holds l (late q) = rw (lt-ltb s.taken limit l, lt-ltb 0 s.pads q)

  ended_holds : {k : ℕ} → ending a opts s ≡ k → 0 < k → Ended a opts s k → refusable a opts s k ≡ true
  unfolding refusable
  ended_holds e l whole = absurd (omega arith)
  ended_holds e l (spare x n) = rw (spare_holds x, n) (or-true (ltb s.taken limit))
  ended_holds e l short = eq-eqb (ending a opts s) 8 e

  refusable_holds : {k : ℕ} → Refusal a opts s k → refusable a opts s k ≡ true
  unfolding refusable
  refusable_holds (at_limit e) = eq-eqb s.taken limit e
  refusable_holds (at_byte l c b e) = blamed_holds l (blame a opts s c _ e)
  refusable_holds (at_end e l) = ended_holds e l (subst (Ended a opts s) e (ended a opts s))

  -- ---- the status

  status_says : a < 6 → (u : Status) → status_fits a opts s u ≡ true → Stands a opts s u
  unfolding status_fits
  status_says h live e = tt
  status_says h (shut k) e = refusable_says h k e
  status_says h done e = eqb-true (ending a opts s) 0 e

  status_holds : (u : Status) → Stands a opts s u → status_fits a opts s u ≡ true
  unfolding status_fits
  status_holds live x = refl
  status_holds (shut k) x = refusable_holds x
  status_holds done x = eq-eqb (ending a opts s) 0 x

-- the state of a stream is one that a text leads to, and its status stands to it
pub record Sound (s : Stream) : Type 0 where
  pub readable : Readable s.alphabet s.options s.state
  pub stands : Stands s.alphabet s.options s.state s.status

pub given_says : (s : Stream) → given s ≡ true → Sound s
unfolding given
given_says s e =
    let x = both (readable s.alphabet s.options s.state) _ e in
    let r : Readable s.alphabet s.options s.state = readable_says s.alphabet s.options s.state x.0 in
    record { readable = r; stands = status_says s.alphabet s.options s.state (allowed_alphabet s.alphabet s.options r.choice) s.status x.1 }

pub given_holds : (s : Stream) → Sound s → given s ≡ true
unfolding given
given_holds s x =
    rw (readable_holds s.alphabet s.options s.state x.readable)
    (status_holds s.alphabet s.options s.state s.status x.stands)
