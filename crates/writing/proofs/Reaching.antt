-- T5: a state passes the test exactly if calls from a start give it. For each state that passes, a source and the calls that lead to it are built.
-- Assumes nothing.
use Prim.Native.Nat.{ℕ, zero, suc, ◌+◌, ◌*◌, ◌%◌, ◌^◌, ◌<◌, ◌≤◌}
use mathlib.Core.Path.{◌≡◌, refl, sym, ap, ◌∙◌, subst}
use mathlib.Core.Bool.{true}
use mathlib.Core.List.{List, [], ◌∷◌, ◌++◌}
use native.Mathlib.Nat.{zero-mod, mod-lt, lt_of_lt_of_le, add-zero, zero-add}
use native.Mathlib.Numerals.{add-one}
use native.Mathlib.Omega.{arith}
use lib.ListN.{length, replicate, length-append, length-replicate}
use lib.Arith.{lt-one}
use lib.Pow.{pow_mono}
use borrow.Author.Tests.{lt-ltb, le-ltb, ltb-true}
use Rattle.alphabet.specs.Written.{written_length}
use Rattle.alphabet.specs.Bits.{Below}
use Rattle.alphabet.specs.Alphabet.{bits}
use Rattle.alphabet.proofs.AlphabetLaws.{bits_low, bits_high}
use Rattle.alphabet.proofs.Below.{below_snoc}
use Rattle.alphabet.proofs.Cutting.{low_held}
use Rattle.reading.specs.Limit.{limit}
use Rattle.spelling.specs.declared.Why.{Why}
use Rattle.spelling.specs.declared.Why.TheVariants as W
use Rattle.writing.specs.declared.Status.{Status}
use Rattle.writing.specs.declared.Status.TheVariants as U
use Rattle.writing.specs.declared.Writer.{Writer}
use Rattle.spelling.specs.Front.{front, held_of, ending}
use Rattle.spelling.specs.Machine.{Run, run, where_room, on_byte}
use Rattle.writing.specs.Stream.{fresh, start_of, fits_status, sound, Turn, closed, by_why, close, ran_of, step_of, finish_of}
use Rattle.writing.specs.Moment.{Calls, start, step, finish, Reachable}
use Rattle.spelling.specs.Sound.{Sound}
use Rattle.writing.specs.Promised.{opened}
use Rattle.spelling.proofs.FrontLaws.{held_none}
use Rattle.writing.proofs.Moments.{after_sound, moments}
use Rattle.writing.proofs.Promises.{open_order}
use Rattle.spelling.proofs.Through.{Through, runs_through}
use Rattle.writing.proofs.SoundLaws.{passes, fits}

pub reached_passes : (s : Writer) → Reachable s → sound s ≡ true
reached_passes s r = after_sound (moments r.calls)

-- ---- a source for the numbers of a state

record Source (a n held : ℕ) : Type 0 where
  pub source : List ℕ
  pub bytes : Below 256 source
  pub long : length source ≡ n
  pub left : held_of (bits a) source ≡ held

below_zeros : (n : ℕ) → Below 256 (replicate n 0)
below_zeros zero = tt
below_zeros (suc n) = (omega arith, below_zeros n)

source_of : (a n held : ℕ) → Sound a n held → Source a n held
unfolding held_of
source_of a zero held s =
    let e : held ≡ 0 = lt-one (rw (zero-mod (bits a)) at s.small) in
    record { source = []; bytes = tt; long = refl; left = held_none (bits a) (omega (arith, bits_low a s.known)) ∙ sym e }
source_of a (suc m) held s =
    let xs : List ℕ = replicate m 0 in
    let n : length xs + 1 ≡ suc m = ap (λ (k : ℕ). k + 1) (length-replicate m 0) ∙ add-one m in
    let l : length (xs ++ held ∷ []) ≡ length xs + 1 = length-append xs (held ∷ []) in
    let k : 8 * (length xs + 1) % bits a < bits a = mod-lt (8 * (length xs + 1)) (omega (arith, bits_low a s.known)) in
    let h : held < 2 ^ (8 * (length xs + 1) % bits a) = rw n s.small in
    record {
      source = xs ++ held ∷ [];
      bytes = below_snoc 256 xs (below_zeros m) (lt_of_lt_of_le h (pow_mono {j = 8} (omega (arith, bits_high a s.known))));
      long = l ∙ n;
      left = rw l (low_held (bits a) xs held (omega (arith, bits_high a s.known)) h);
    }

-- ---- the calls that lead to it

state_by : {w : Why} (v : Why) (s : Writer) (R : Run) → w ≡ v → (by_why w s R).state ≡ (by_why v s R).state
state_by v s R e = ap (λ (x : Why). (by_why x s R).state) e

module _ (a : ℕ) (h : a < 6) where
  started : Calls [] [] (fresh a)
  unfolding start_of
  started = start {s = fresh a} a (rw (lt-ltb a 6 h))

  -- a source within the limit, in one step with room for its front
  through_state : (src : List ℕ) → written_length a (length src) ≤ limit
      → (step_of (fresh a) src (length (front a src))).state ≡ opened a (length src) (held_of (bits a) src)
  unfolding step_of ran_of fresh by_why
  through_state src w =
      let R : Run = run a 0 0 src (length (front a src)) in
      let t : Through a src R = runs_through a h src (length (front a src)) w (omega arith) in
      ap (λ (x : Turn). x.state) (open_order (fresh a) (by_why R.why (fresh a) R) (after_sound (moments started)) refl)
      ∙ state_by W.All (fresh a) R t.why
      ∙ rw (t.took, t.held, zero-add)

module _ (a n held : ℕ) (s : Sound a n held) where
  pub reached_open : Reachable (opened a n held)
  reached_open =
      let w : Source a n held = source_of a n held s in
      let c = step (started a s.known) w.source w.bytes (length (front a w.source)) in
      let e : (step_of (fresh a) w.source (length (front a w.source))).state ≡ opened a n held =
      through_state a s.known w.source (rw w.long s.within) ∙ rw (w.long, w.left) in
      subst Reachable e (record { source = _; text = _; calls = c })

  passed : sound (opened a n held) ≡ true
  passed = reached_passes (opened a n held) reached_open

  -- a finish with room for the ending
  pub reached_done : Reachable (closed (opened a n held))
  unfolding finish_of close
  reached_done =
      let r : Reachable (opened a n held) = reached_open in
      let text : List ℕ = ending a n held in
      let e : (finish_of (opened a n held) (length text)).state ≡ closed (opened a n held) =
      ap (λ (x : Turn). x.state) (open_order (opened a n held) (close (opened a n held) text (length text)) passed refl)
      ∙ rw (le-ltb (length text) (length text) (omega arith)) in
      subst Reachable e (record { source = _; text = _; calls = finish r.calls (length text) })

  -- a byte past the limit
  pub reached_long : limit < written_length a (n + 1) → Reachable (record { alphabet = a; taken = n; held = held; status = U.TooLong })
  unfolding step_of ran_of run on_byte where_room by_why
  reached_long l =
      let r : Reachable (opened a n held) = reached_open in
      let R : Run = run a n held (0 ∷ []) 0 in
      let y : R.why ≡ W.Limit = rw (lt-ltb limit (written_length a (n + 1)) l) in
      let e : (step_of (opened a n held) (0 ∷ []) 0).state ≡ record { alphabet = a; taken = n; held = held; status = U.TooLong } =
      ap (λ (x : Turn). x.state) (open_order (opened a n held) (by_why R.why (opened a n held) R) passed refl)
      ∙ state_by W.Limit (opened a n held) R y
      ∙ rw (lt-ltb limit (written_length a (n + 1)) l, add-zero) in
      subst Reachable e (record { source = _; text = _; calls = step r.calls (0 ∷ []) (omega arith, tt) 0 })

-- ---- both ways

pub passes_reached : (s : Writer) → sound s ≡ true → Reachable s
unfolding fits_status
passes_reached s e =
    go s.status (fits s.alphabet s.taken s.held s.status e)
  where
    ok : Sound s.alphabet s.taken s.held
    ok = passes s.alphabet s.taken s.held s.status e

    go : (u : Status) → fits_status u s.alphabet s.taken ≡ true → Reachable (record { alphabet = s.alphabet; taken = s.taken; held = s.held; status = u })
    go U.Open f = reached_open s.alphabet s.taken s.held ok
    go U.TooLong f = reached_long s.alphabet s.taken s.held ok (ltb-true limit (written_length s.alphabet (s.taken + 1)) f)
    go U.Done f = reached_done s.alphabet s.taken s.held ok
