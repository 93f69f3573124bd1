-- A run that is made in stretches: what a stretch keeps of what was reached before it, and what is reached in the end. Assumes nothing.
use Prim.Native.Nat.{ℕ, suc, ◌+◌, ◌-◌, ◌<◌, ◌≤◌}
use mathlib.Core.Path.{◌≡◌, refl, sym, ap, ◌∙◌, subst}
use mathlib.Core.Logic.{◌⊎◌, inl, inr}
use mathlib.Core.Bool.{Bool, true, false}
use mathlib.Core.List.{List, [], ◌++◌}
use native.Mathlib.Omega.{arith}
use lib.Dec.{T, ltb}
use lib.ListN.{length, take, drop, get_or, length-append, length-drop}
use borrow.Author.Tests.{ltb-true, ltb-false}
use Rattle.std.specs.Prelude.{Option, None, Some, Result, Ok, Err}
use Rattle.reading.specs.Buffer.{filled}
use Rattle.reading.specs.Reader.{gives, step}
use Rattle.reading.specs.Piece as P
use Rattle.reading.specs.Piece.{after, run}
use Rattle.reading.proofs.LimitLaws.{limit_small}
use Rattle.reading.proofs.OptionLaws.{allowed_alphabet}
use Rattle.reading.proofs.PieceLaws.{run_feeds}
use Rattle.rule.specs.declared.Core.{Core}
use Rattle.rule.specs.declared.Cause.{Cause}
use Rattle.engine.specs.declared.step.Taken.{Taken}
use Rattle.engine.specs.declared.digits.Passed.{Passed}
use Rattle.engine.specs.declared.piece.Why.{Why}
use Rattle.engine.specs.declared.piece.Why.TheVariants as W
use Rattle.engine.specs.declared.piece.Ran.{Ran}
use Rattle.rule.specs.Meaning.{state_of, core_of}
use Rattle.engine.specs.Meaning.{taken_of, step_of}
use Rattle.engine.specs.Ran.{why_as, goes_on, then_as, ran_as, Ready}
use Rattle.engine.specs.Loop.{Filling, Reached, Stretch, taken_as, put_as, taken_in, put_in}
use Rattle.engine.proofs.Loops.{filling_begins, filling_lent, filling_takes, filling_gives, filling_done, same_size, fit, loop_full}
use Rattle.engine.proofs.Loops.{loop_refused, loop_all, rest_all, stored_lent}

-- ---- whether it goes on

pub all_or_not : (w : Why) → (w ≡ W.All) ⊎ (w ≡ W.All → ⊥)
all_or_not W.All = inl refl
all_or_not (W.Refused c) = inr (λ e. let z : ◌≡◌ {A = ℕ} 0 1 = cc in omega arith)
all_or_not W.Full = inr (λ e. let z : ◌≡◌ {A = ℕ} 0 1 = cc in omega arith)
all_or_not W.Unfit = inr (λ e. let z : ◌≡◌ {A = ℕ} 0 1 = cc in omega arith)

pub goes_on_law : (w : Why) (took len : ℕ) → goes_on w took len ≡ true → (w ≡ W.All) × (took < len)
unfolding goes_on
goes_on_law W.All took len e = (refl, ltb-true took len e)
goes_on_law (W.Refused c) took len e = absurd (subst T (sym e) tt)
goes_on_law W.Full took len e = absurd (subst T (sym e) tt)
goes_on_law W.Unfit took len e = absurd (subst T (sym e) tt)

pub goes_no_more : (w : Why) (took len : ℕ) → goes_on w took len ≡ false → w ≡ W.All → len ≤ took
unfolding goes_on
goes_no_more w took len e q = ltb-false took len (ap (λ (x : Why). goes_on x took len) (sym q) ∙ e)

-- the measure of such a loop: nothing is left where it stopped
unfoldable pub left : Why → ℕ → ℕ → ℕ
left W.All took len = suc (len - took)
left (W.Refused c) took len = 0
left W.Full took len = 0
left W.Unfit took len = 0

pub left_less : {q : Ran} (s r : Ran) (len : ℕ) → s.why ≡ W.All → s.took < len → q ≡ then_as s r → (r.why ≡ W.All → 0 < r.took)
    → left q.why q.took len < left s.why s.took len
unfolding left
left_less s r len e l t some =
    subst (λ (z : Ran). left z.why z.took len < left s.why s.took len) (sym t)
    (subst (λ (w : Why). left r.why (s.took + r.took) len < left w s.took len) (sym e) (fewer s.took r.took l r.why some))
  where
    fewer : (took more : ℕ) → took < len → (v : Why) → (v ≡ W.All → 0 < more) → left v (took + more) len < suc (len - took)
    fewer took more l W.All s = omega (arith, s refl)
    fewer took more l (W.Refused c) s = omega arith
    fewer took more l W.Full s = omega arith
    fewer took more l W.Unfit s = omega arith

pub full_not_all : W.Full ≡ W.All → ⊥
full_not_all e = let z : ◌≡◌ {A = ℕ} 0 1 = cc in omega arith

pub refused_not_all : {c : Cause} → W.Refused c ≡ W.All → ⊥
refused_not_all e = let z : ◌≡◌ {A = ℕ} 0 1 = cc in omega arith

-- ---- one run after another

pub then_after : (s : Ran) (w : List ℕ) (q : P.Ran) → length w ≡ s.wrote → then_as s (ran_as q) ≡ ran_as (after s.took w q)
then_after s w q e =
    let told : ℕ → Ran = λ m. record { core = core_of q.state; why = why_as q.why; took = s.took + q.took; wrote = m } in
    ap told (sym (length-append w q.wrote ∙ ap (λ (m : ℕ). m + length q.wrote) e))

-- where all was taken, the reason is told
pub all_is : (s : Ran) → s.why ≡ W.All → s ≡ record { core = s.core; why = W.All; took = s.took; wrote = s.wrote }
all_is s e j = record { core = s.core; why = e j; took = s.took; wrote = s.wrote }

-- ---- into a buffer

module _ {a opts : ℕ} {k : Core} {piece out₀ out : List ℕ} where
  pub reached_goes : {r : Ran} {k' : Core} {i n : ℕ} → r ≡ record { core = k'; why = W.All; took = i; wrote = n }
      → Filling a opts piece k out₀ out k' i n
      → Reached a opts k piece out₀ out r
  reached_goes e f =
      subst (Reached a opts k piece out₀ out) (sym e) (record { goes = λ x. f; is = λ x. absurd (x refl); bytes = λ x. absurd (x refl) })

  pub reached_begins : {r : Ran} → r ≡ record { core = k; why = W.All; took = 0; wrote = 0 } → Ready a k (length piece) → out ≡ out₀
      → Reached a opts k piece out₀ out r
  reached_begins e q o =
      reached_goes e (subst (λ (x : List ℕ). Filling a opts piece k out₀ x k 0 0) (sym o) (filling_begins a opts piece k out₀ q))

  pub stretch_goes : {r : Ran} {k' : Core} {i n : ℕ} → r ≡ record { core = k'; why = W.All; took = i; wrote = n }
      → Filling a opts piece k out₀ out k' i n
      → (0 < length piece → 0 < i) → Stretch a opts k piece out₀ out r
  stretch_goes {i = i} e f s =
      record { reached = reached_goes e f; some = λ w l. subst (λ (z : Ran). 0 < z.took) (sym e) (s l) }

  pub stretch_stops : {q r : Ran} → q ≡ r → (r.why ≡ W.All → ⊥)
      → (q ≡ ran_as (run a opts piece (state_of k) (length out₀))) × (out ≡ filled (run a opts piece (state_of k) (length out₀)).wrote out₀)
      → Stretch a opts k piece out₀ out q
  stretch_stops {q} {r} e n d =
      let not : q.why ≡ W.All → ⊥ = λ x. n (ap (λ (z : Ran). z.why) (sym e) ∙ x) in
      record { reached = record { goes = λ x. absurd (not x); is = λ x. d.0; bytes = λ x. d.1 }; some = λ x. absurd (not x) }

-- a byte after digits
pub stretch_put : {a opts : ℕ} {k : Core} {piece out₀ out : List ℕ} {p : Passed} {r : Ran} {room : ℕ} {out' : List ℕ} (byte : Result Taken Cause)
    → a < 6 → Filling a opts piece k out₀ out p.core p.took p.wrote → p.took < length piece
    → step_of byte ≡ step a opts (state_of p.core) (get_or piece p.took 0) → room ≡ length out → r ≡ put_as p byte room
    → out' ≡ put_in p byte out
    → Stretch a opts k piece out₀ out' r
unfolding put_as put_in taken_as taken_in
stretch_put {a} {opts} {k} {piece} {out₀} {out} {p} {r} {room} {out'} byte h f l e z is o =
    subst (λ (x : List ℕ). Stretch a opts k piece out₀ x r) (sym o) (go byte e is)
  where
    size : room ≡ length out₀
    size = z ∙ same_size h f

    full : Ran
    full = record { core = p.core; why = W.Full; took = p.took; wrote = p.wrote }

    -- a byte given, where there is room and where there is none
    room_or_not : (x : ℕ) (c : Core) → step a opts (state_of p.core) (get_or piece p.took 0) ≡ gives x (state_of c)
        → r ≡ taken_as p c (Some x) room
        → (t : Bool) → ltb p.wrote room ≡ t → Stretch a opts k piece out₀ (taken_in p (Some x) out) r
    room_or_not x c e is true q =
        rw (← z, q)
        (stretch_goes (is ∙ rw q) (filling_gives h f {k' = c} l e (omega (arith, ltb-true p.wrote room q, size)))
        (λ n. omega arith))
    room_or_not x c e is false q =
        rw (← z, q)
        (stretch_stops {r = full} (is ∙ rw q) full_not_all
        (filling_done h f {r = full} (is ∙ rw q)
        (loop_full h f.loop l {k' = c} e (omega (arith, ltb-false p.wrote room q, size, f.loop.fits)))))

    taken : (c : Core) (x : Option ℕ) → taken_of (state_of c) x ≡ step a opts (state_of p.core) (get_or piece p.took 0)
        → r ≡ taken_as p c x room
        → Stretch a opts k piece out₀ (taken_in p x out) r
    taken c None e is = stretch_goes is (filling_takes h f {k' = c} l (sym e)) (λ n. omega arith)
    taken c (Some x) e is = room_or_not x c (sym e) is (ltb p.wrote room) refl

    go : (b : Result Taken Cause) → step_of b ≡ step a opts (state_of p.core) (get_or piece p.took 0) → r ≡ put_as p b room
        → Stretch a opts k piece out₀ (put_in p b out) r
    go (Ok t) e is = taken t.core t.byte e is
    go (Err c) e is = stretch_stops is refused_not_all (filling_done h f is (loop_refused h f.loop l {c = c} (sym e)))

module _ {a opts : ℕ} {start : Core} {piece out₀ out : List ℕ} {s : Ran} (h : a < 6) (f : Reached a opts start piece out₀ out s) where
  pub reached_size : length out ≡ length out₀
  reached_size = go (all_or_not s.why)
    where
      go : (s.why ≡ W.All) ⊎ (s.why ≡ W.All → ⊥) → length out ≡ length out₀
      go (inl e) = same_size h (f.goes e)
      go (inr n) =
          let w : List ℕ = (run a opts piece (state_of start) (length out₀)).wrote in
          ap length (f.bytes n)
          ∙ simp (length-append, length-drop) (omega (arith, (run_feeds a opts piece (state_of start) (length out₀) []).wrote_in))

  pub reached_sums : (s.took ≤ length piece) × (s.wrote ≤ length out₀)
  reached_sums = go (all_or_not s.why)
    where
      go : (s.why ≡ W.All) ⊎ (s.why ≡ W.All → ⊥) → (s.took ≤ length piece) × (s.wrote ≤ length out₀)
      go (inl e) = ((f.goes e).loop.within, (f.goes e).loop.fits)
      go (inr n) =
          let r = run_feeds a opts piece (state_of start) (length out₀) [] in
          subst (λ (z : Ran). (z.took ≤ length piece) × (z.wrote ≤ length out₀)) (sym (f.is n)) (r.took_in, r.wrote_in)

  pub reached_then : {out' : List ℕ} {r : Ran} (e : s.why ≡ W.All)
      → Reached a opts s.core (take (length piece - s.took) (drop s.took piece))
      (take (length out - s.wrote) (drop s.wrote out)) out' r
      → Reached a opts start piece out₀ (take s.wrote out ++ (out' ++ drop (length out - s.wrote) (drop s.wrote out))) (then_as s r)
  reached_then {out'} {r} e g =
      let p = f.goes e in
      let room : length (take (length out - s.wrote) (drop s.wrote out)) ≡ length out₀ - s.wrote =
      ap length (rest_all out s.wrote) ∙ length-drop s.wrote out ∙ ap (λ (m : ℕ). m - s.wrote) reached_size in
      let q : P.Ran = run a opts (drop s.took piece) (state_of s.core) (length out₀ - s.wrote) in
      let rest : run a opts (take (length piece - s.took) (drop s.took piece)) (state_of s.core)
      (length (take (length out - s.wrote) (drop s.wrote out))) ≡ q =
      rw (rest_all piece s.took, room) in
      record {
        goes = λ x. filling_lent h p (g.goes x);
        is = λ x. ap (then_as s) (g.is x ∙ ap ran_as rest) ∙ then_after s p.wrote q p.loop.size ∙ ap ran_as (sym p.loop.same);
        bytes = λ x.
            stored_lent p.wrote q.wrote out₀ p.loop.size p.front
            (g.bytes x ∙ ap (λ (z : P.Ran). filled z.wrote (take (length out - s.wrote) (drop s.wrote out))) rest)
            ∙ rw (p.loop.same, length-append, p.loop.size);
      }

  pub reached_done : goes_on s.why s.took (length piece) ≡ false
      → (s ≡ ran_as (run a opts piece (state_of start) (length out₀))) ×
      (out ≡ filled (run a opts piece (state_of start) (length out₀)).wrote out₀)
  reached_done e = go (all_or_not s.why)
    where
      go : (s.why ≡ W.All) ⊎ (s.why ≡ W.All → ⊥)
          → (s ≡ ran_as (run a opts piece (state_of start) (length out₀))) ×
          (out ≡ filled (run a opts piece (state_of start) (length out₀)).wrote out₀)
      go (inl w) =
          let p = f.goes w in
          let d = loop_all h p.loop (goes_no_more s.why s.took (length piece) e w) in
          (all_is s w ∙ d.is, rw (d.bytes, p.loop.size) p.front)
      go (inr n) = (f.is n, f.bytes n)

-- for the functions' own goals
pub ruleset stretch_fits = (allowed_alphabet, limit_small, same_size, fit, stretch_goes)

pub ruleset reached_fits = (allowed_alphabet, limit_small, goes_on_law, reached_begins, reached_size, reached_sums)
