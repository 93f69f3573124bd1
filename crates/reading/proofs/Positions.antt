-- Where a reader stands: a byte that is taken moves it on by one, and a reader that stopped had read all before the byte that it refused, by an
-- answer from 4 to 7. Assumes nothing.
use Prim.Native.Nat.{ℕ, suc, ◌+◌, ◌<◌, ◌≤◌}
use mathlib.Core.Path.{◌≡◌, refl, sym, ap, ◌∙◌}
use mathlib.Core.Bool.{Bool, true, false, cond, not, ◌&&◌}
use mathlib.Core.List.{List, [], ◌∷◌, ◌++◌}
use native.Mathlib.Nat.{suc-add}
use native.Mathlib.Omega.{arith}
use lib.Dec.{eqb, ltb}
use lib.ListN.{length, take}
use Rattle.alphabet.specs.Alphabet.{bits, value, is_digit, is_pad}
use Rattle.reading.specs.Options.{any_spare}
use Rattle.reading.specs.Cleaning.{dropped, turned}
use Rattle.reading.specs.Reader.{State, Step, takes, gives, refuses, Reading, going, stopped, wants, held_bits, passes, on_digit, on_pad, step, follow, feed, feed_all}
use Rattle.reading.proofs.Seen.{feed_stopped}

-- ---- one byte

-- a byte that is taken moves the reader on by one; one that is not is answered 4, 5, 6 or 7
pub data Moves (s : State) : Step → Type 0 where
  took : {n : State} → n.taken ≡ s.taken + 1 → Moves s (takes n)
  gave : {x : ℕ} {n : State} → n.taken ≡ s.taken + 1 → Moves s (gives x n)
  blamed : {k : ℕ} → 4 ≤ k → k ≤ 7 → Moves s (refuses k)

either : (s : State) (x : Bool) {p q : Step} → Moves s p → Moves s q → Moves s (cond x p q)
either s true m n = m
either s false m n = n

digit_moves : (a : ℕ) (s : State) (v : ℕ) → Moves s (on_digit a s v)
unfolding on_digit
digit_moves a s v =
    either s (ltb 0 s.pads) (blamed {k = 7} (omega arith) (omega arith)) (either s (ltb (held_bits a s + bits a) 8) (took refl) (gave refl))

pad_moves : (a opts : ℕ) (s : State) → Moves s (on_pad a opts s)
unfolding on_pad
pad_moves a opts s =
    either s (ltb 0 s.pads) (either s (eqb s.pads (wants a s)) (blamed {k = 7} (omega arith) (omega arith)) (took refl))
    (either s (eqb (wants a s) 0) (blamed {k = 5} (omega arith) (omega arith))
    (either s (not (eqb s.held 0) && not (any_spare opts)) (blamed {k = 6} (omega arith) (omega arith)) (took refl)))

pub step_moves : (a opts : ℕ) (s : State) (c : ℕ) → Moves s (step a opts s c)
unfolding step passes
step_moves a opts s c =
    either s (dropped opts c) (took refl)
    (either s (is_digit a (turned a opts c)) (digit_moves a s (value a (turned a opts c)))
    (either s (is_pad a c) (pad_moves a opts s) (blamed {k = 4} (omega arith) (omega arith))))

-- a byte is refused by one of the answers 4 to 7
pub refuses_range : (a opts : ℕ) (s : State) (c k : ℕ) → step a opts s c ≡ refuses k → (4 ≤ k) × (k ≤ 7)
refuses_range a opts s c k e = go (step_moves a opts s c) e
  where
    go : {x : Step} → Moves s x → x ≡ refuses k → (4 ≤ k) × (k ≤ 7)
    go (took m) e = absurd (let z : ◌≡◌ {A = ℕ} 0 1 = cc in omega arith)
    go (gave m) e = absurd (let z : ◌≡◌ {A = ℕ} 0 1 = cc in omega arith)
    go (blamed {k = j} l m) e = let z : j ≡ k = cc in (omega arith, omega arith)

-- ---- a text

-- the bytes that a reader has given
abbrev pub given : Reading → List ℕ
given (going s out) = out
given (stopped k i out) = out

-- where and how a reader stopped, that started at the state s with the bytes out: it took the first n bytes of t
pub record Stopping (a opts : ℕ) (s : State) (out t : List ℕ) (k i : ℕ) (end : List ℕ) : Type 0 where
  pub n : ℕ
  pub inside : n < length t
  pub place : i ≡ s.taken + n
  pub low : 4 ≤ k
  pub high : k ≤ 7
  pub at : State
  pub before : feed_all a opts (going s out) (take n t) ≡ going at end
  pub through : feed_all a opts (going s out) (take (n + 1) t) ≡ stopped k i end

later : (a opts : ℕ) (s n : State) (out out' : List ℕ) (c : ℕ) (t : List ℕ) (k i : ℕ) (end : List ℕ) → feed a opts (going s out) c ≡ going n out'
    → n.taken ≡ s.taken + 1 → Stopping a opts n out' t k i end → Stopping a opts s out (c ∷ t) k i end
unfolding feed_all
later a opts s n out out' c t k i end f m r =
    record {
      n = suc r.n;
      inside = omega (arith, r.inside);
      place = omega (arith, r.place);
      low = r.low;
      high = r.high;
      at = r.at;
      before = ap (λ (z : Reading). feed_all a opts z (take r.n t)) f ∙ r.before;
      through = ap (λ (m : ℕ). feed_all a opts (going s out) (take m (c ∷ t))) (suc-add r.n 1) ∙ ap (λ (z : Reading). feed_all a opts z (take (r.n + 1) t)) f ∙ r.through;
    }

pub stopped_where : (a opts : ℕ) (s : State) (out t : List ℕ) (k i : ℕ) (end : List ℕ) → feed_all a opts (going s out) t ≡ stopped k i end
    → Stopping a opts s out t k i end
unfolding feed_all feed follow
stopped_where a opts s out [] k i end e = absurd (let z : ◌≡◌ {A = ℕ} 0 1 = cc in omega arith)
stopped_where a opts s out (c ∷ t) k i end e = go (step_moves a opts s c) refl (λ n o. stopped_where a opts n o t k i end)
  where
    go : {x : Step} → Moves s x → step a opts s c ≡ x
        → ((n : State) (o : List ℕ) → feed_all a opts (going n o) t ≡ stopped k i end → Stopping a opts n o t k i end)
        → Stopping a opts s out (c ∷ t) k i end
    go (took {n} m) f rec =
        later a opts s n out out c t k i end (ap (follow s out) f) m (rec n out (rw f at e))
    go (gave {x} {n} m) f rec =
        later a opts s n out (out ++ x ∷ []) c t k i end (ap (follow s out) f) m (rec n (out ++ x ∷ []) (rw f at e))
    go (blamed {k = j} l m) f rec =
        let w : feed_all a opts (going s out) (c ∷ t) ≡ stopped j s.taken out = rw f (feed_stopped a opts j s.taken out t) in
        let z : stopped k i end ≡ stopped j s.taken out = sym e ∙ w in
        let kj : k ≡ j = cc in
        let ij : i ≡ s.taken = cc in
        let oe : end ≡ out = cc in
        record {
          n = 0;
          inside = omega arith;
          place = omega arith;
          low = omega arith;
          high = omega arith;
          at = s;
          before = rw oe;
          through = rw (f, kj, ij, oe);
        }

-- ---- a reader that goes on has taken all

pub going_taken : (a opts : ℕ) (s n : State) (out end t : List ℕ) → feed_all a opts (going s out) t ≡ going n end → n.taken ≡ s.taken + length t
unfolding feed_all feed follow
going_taken a opts s n out end [] e = let z : n ≡ s = cc in ap (λ (m : State). m.taken) z ∙ omega arith
going_taken a opts s n out end (c ∷ t) e = go (step_moves a opts s c) refl (λ m o. going_taken a opts m n o end t)
  where
    go : {x : Step} → Moves s x → step a opts s c ≡ x → ((m : State) (o : List ℕ) → feed_all a opts (going m o) t ≡ going n end → n.taken ≡ m.taken + length t)
        → n.taken ≡ s.taken + suc (length t)
    go (took {n = m} l) f rec = omega (arith, rec m out (rw f at e))
    go (gave {x} {n = m} l) f rec = omega (arith, rec m (out ++ x ∷ []) (rw f at e))
    go (blamed {k = j} l h) f rec =
        let w : feed_all a opts (going s out) (c ∷ t) ≡ stopped j s.taken out = rw f (feed_stopped a opts j s.taken out t) in
        let y : going n end ≡ stopped j s.taken out = sym e ∙ w in
        absurd (let z : ◌≡◌ {A = ℕ} 0 1 = cc in omega arith)
