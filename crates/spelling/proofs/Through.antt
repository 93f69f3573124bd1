-- A run over a whole source with room for its front takes all of it. Assumes nothing.
use Prim.Native.Nat.{ℕ, ◌+◌, ◌<◌, ◌≤◌}
use mathlib.Core.Path.{◌≡◌, refl, sym, ap, ◌∙◌, subst}
use mathlib.Core.List.{List, [], ◌∷◌, ◌++◌, append_assoc, append-nil, map}
use native.Mathlib.Omega.{arith}
use lib.ListN.{length, take, drop, length-append, take-append-drop}
use lib.Seq.{take-length}
use Rattle.alphabet.specs.Written.{written_length}
use Rattle.alphabet.specs.Alphabet.{bits, digit}
use Rattle.alphabet.proofs.AlphabetLaws.{bits_low}
use Rattle.reading.specs.Limit.{limit}
use Rattle.spelling.specs.declared.Why.{Why}
use Rattle.spelling.specs.declared.Why.TheVariants as W
use Rattle.spelling.specs.Front.{front, held_of}
use Rattle.spelling.specs.Machine.{Run, completes, run}
use Rattle.spelling.proofs.FrontLaws.{held_none, front_none, front_snoc}
use Rattle.spelling.proofs.LengthLaws.{none_within, shorter_within}
use Rattle.spelling.proofs.RunLaws.{RunAs, Because, run_means}

-- the front of a longer source begins with the front
pub record Grows (a : ℕ) (src more : List ℕ) : Type 0 where
  pub further : List ℕ
  pub grown : front a (src ++ more) ≡ front a src ++ further

pub grows : (a : ℕ) → a < 6 → (src more : List ℕ) → Grows a src more
grows a h src [] = record { further = []; grown = ap (front a) (append-nil src) ∙ sym (append-nil (front a src)) }
grows a h src (c ∷ cs) =
    let g : Grows a (src ++ c ∷ []) cs = grows a h (src ++ c ∷ []) cs in
    let ds : List ℕ = map (digit a) (completes (bits a) (length src) (held_of (bits a) src) c) in
    record {
      further = ds ++ g.further;
      grown =
          ap (front a) (sym (append_assoc src (c ∷ []) cs)) ∙ g.grown ∙ ap (λ (l : List ℕ). l ++ g.further) (front_snoc a h src c) ∙ append_assoc (front a src) ds g.further;
    }

pub front_grows : (a : ℕ) → a < 6 → (src more : List ℕ) → length (front a src) ≤ length (front a (src ++ more))
front_grows a h src more =
    let g : Grows a src more = grows a h src more in
    omega (arith, ap length g.grown, length-append (front a src) g.further)

pub record Through (a : ℕ) (src : List ℕ) (R : Run) : Type 0 where
  pub why : R.why ≡ W.All
  pub took : R.took ≡ length src
  pub held : R.held ≡ held_of (bits a) src
  pub wrote : R.wrote ≡ front a src

module _ (a : ℕ) (h : a < 6) (src : List ℕ) (room : ℕ) (within : written_length a (length src) ≤ limit) (roomy : length (front a src) ≤ room) where
  stops_at_end : (w : Why) (k : ℕ) → Because w a [] src room k → (w ≡ W.All) × (k ≡ length src)
  stops_at_end W.All k y = (refl, y)
  stops_at_end W.Limit k y =
      absurd (omega (arith, y.1, shorter_within a h (0 + k + 1) (length src) (omega (arith, y.0)) within))
  stops_at_end W.Room k y =
      let l : length (front a (take (k + 1) src)) ≤ length (front a src) =
      subst (λ (x : List ℕ). length (front a (take (k + 1) src)) ≤ length (front a x)) (take-append-drop (k + 1) src) (front_grows a h (take (k + 1) src) (drop (k + 1) src)) in
      absurd (omega (arith, y.2))

  pub runs_through : Through a src (run a 0 0 src room)
  runs_through =
      let r : RunAs a [] src room (run a 0 0 src room) = rw (held_none (bits a) (omega (arith, bits_low a h))) at (run_means a h [] src room (none_within a h)) in
      let e = stops_at_end (run a 0 0 src room).why (run a 0 0 src room).took r.why in
      let t : take (run a 0 0 src room).took src ≡ src = rw e.1 (take-length src) in
      record {
        why = e.0;
        took = e.1;
        held = r.held ∙ ap (held_of (bits a)) t;
        wrote = ap (λ (l : List ℕ). l ++ (run a 0 0 src room).wrote) (sym (front_none a h)) ∙ r.text ∙ ap (front a) t;
      }
