-- A buffer that is filled from its front, over any run: at the head of the loop i bytes are taken, n are written, and `todo` is left of the run.
-- Assumes nothing.
use Prim.Native.Nat.{ℕ, ◌+◌, ◌<◌, ◌≤◌, zero-le}
use mathlib.Core.Path.{◌≡◌, refl, sym, ap, ◌∙◌}
use mathlib.Core.List.{List, [], ◌∷◌, ◌++◌, append_assoc, append-nil}
use native.Mathlib.Nat.{add_assoc, add-zero, zero-add}
use native.Mathlib.Numerals.{add-one}
use native.Mathlib.Omega.{arith}
use lib.ListN.{length, take, drop, set, length-set, take-append-drop}
use lib.Seq.{take-suc-set, drop-set-lt, length-take-le, drop-drop}
use Rattle.spelling.specs.declared.Why.{Why}
use Rattle.spelling.specs.Machine.{Run, after, stop}
use Rattle.spell.specs.Promised.{WentAs}

pub record Filling (R : Run) (out₀ out : List ℕ) (i n : ℕ) (todo : Run) : Type 0 where
  pub room : n ≤ length out₀
  pub long : length out ≡ length out₀
  pub rest : drop n out ≡ drop n out₀
  pub same : R ≡ after i (take n out) todo

after_after : (i j : ℕ) (w v : List ℕ) (r : Run) → after i w (after j v r) ≡ after (i + j) (w ++ v) r
after_after i j w v r = simp (add_assoc, append_assoc)

pub fill_none : (R : Run) (out : List ℕ) → Filling R out out 0 0 R
fill_none R out = record { room = zero-le; long = refl; rest = refl; same = simp zero-add }

module _ {R : Run} {out₀ out : List ℕ} {i n : ℕ} {todo : Run} (f : Filling R out₀ out i n todo) where
  pub fill_store : (k : ℕ) {next : Run} {x : ℕ} → todo ≡ after k (x ∷ []) next → n < length out → Filling R out₀ (set out n x) (i + k) (n + 1) next
  fill_store k {next} {x} e l =
      record {
        room = omega (arith, f.long);
        long = length-set out n x ∙ f.long;
        rest = drop-set-lt (n + 1) out n x (omega arith) ∙ sym (drop-drop 1 n out) ∙ ap (λ (l : List ℕ). drop 1 l) f.rest ∙ drop-drop 1 n out₀;
        same = f.same ∙ ap (λ (r : Run). after i (take n out) r) e ∙ after_after i k (take n out) (x ∷ []) next ∙ rw (add-one n, take-suc-set out n x l);
      }

  took_length : length (take n out) ≡ n
  took_length = length-take-le n out (omega (arith, f.long, f.room))

  -- the run stops: where it came to and the buffer are what the definition gives
  pub fill_stop : {held : ℕ} {w : Why} → todo ≡ stop held w → WentAs R (record { held = held; taken = i; written = n }) out₀ out
  fill_stop e =
      rw (f.same, e)
      (record {
        held = refl;
        taken = omega arith;
        written = simp (append-nil, took_length);
        buffer = simp (append-nil, took_length) (sym (take-append-drop n out) ∙ ap (λ (l : List ℕ). take n out ++ l) f.rest);
      })

-- two stores for one byte
pub fill_two : {R : Run} {out₀ out : List ℕ} {i n : ℕ} {todo : Run} → Filling R out₀ out i n todo
    → {next : Run} {x y : ℕ} → todo ≡ after 1 (x ∷ y ∷ []) next → n + 2 ≤ length out
    → Filling R out₀ (set (set out n x) (n + 1) y) (i + 1) (n + 2) next
fill_two {i = i} {n = n} f {next} {x} {y} e l =
    rw (add-zero, add_assoc n 1 1) at
    (fill_store (fill_store f 0 {next = after 1 (y ∷ []) next} {x = x} (e ∙ simp zero-add) (omega arith)) 1 {x = y} refl (rw length-set (omega arith)))
