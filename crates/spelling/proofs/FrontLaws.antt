-- The front of a source and what is left of it: each byte adds the digits that it completes, and the rest makes the written form. Shown once over
-- the width. Assumes nothing.
use Prim.Native.Nat.{ℕ, ◌+◌, ◌*◌, ◌/◌, ◌%◌, ◌<◌}
use mathlib.Core.Path.{◌≡◌, refl, sym, ◌∙◌}
use mathlib.Core.Bool.{Bool, true, false}
use mathlib.Core.List.{List, [], ◌∷◌, ◌++◌, append_assoc, append-nil, map, map-append}
use native.Mathlib.Nat.{mod-lt}
use native.Mathlib.Omega.{arith}
use lib.Dec.{eqb}
use lib.ListN.{length, length-append, length-map}
use borrow.Author.Tests.{eqb-true, eqb-false}
use Rattle.alphabet.specs.Bits.{unpack}
use Rattle.alphabet.specs.Alphabet.{bits, digit}
use Rattle.alphabet.specs.Written.{written}
use Rattle.alphabet.proofs.Runs.{bits_length, unpack_append, pack_length, unpack_one}
use Rattle.alphabet.proofs.AlphabetLaws.{bits_low}
use Rattle.alphabet.proofs.Flow.{Flow, empty, cut_flow, cut_start, flow_outs, flow_held}
use Rattle.alphabet.proofs.Ends.{written_full, written_filled}
use Rattle.spelling.specs.Front.{full, front, held_of, ending, rest}
use Rattle.spelling.specs.Machine.{waiting, full_runs, completes, keeps}

module _ (b : ℕ) (pos : 0 < b) where
  pub full_flow : (src : List ℕ) → Flow 8 b src (full b src) (8 * length src % b) (held_of b src)
  unfolding full held_of
  full_flow src = cut_start 8 b pos src

  pub full_none : full b [] ≡ []
  unfolding full
  full_none = flow_outs 8 b pos [] [] 0 0 pos (empty 8 b)

  pub held_none : held_of b [] ≡ 0
  unfolding held_of
  held_none = flow_held 8 b pos [] [] 0 0 pos (empty 8 b)

  pub full_length : (src : List ℕ) → length (full b src) ≡ 8 * length src / b
  unfolding full
  full_length src = pack_length b (8 * length src / b) (unpack 8 src)

  pub waiting_length : (n held c : ℕ) → length (waiting b n held c) ≡ 8 * n % b + 8
  unfolding waiting
  waiting_length n held c = simp (length-append, bits_length)

  -- one byte more: the digits that it completes have come out, and the rest is held
  byte_flow : (src : List ℕ) (c : ℕ)
      → Flow 8 b (src ++ c ∷ []) (full b src ++ completes b (length src) (held_of b src) c) ((8 * length src % b + 8) % b) (keeps b (length src) (held_of b src) c)
  unfolding waiting completes keeps full_runs
  byte_flow src c =
      let w = waiting b (length src) (held_of b src) c in
      rw (waiting_length (length src) (held_of b src) c) at (cut_flow 8 b pos (src ++ c ∷ []) (full b src) w (full_flow src).below joined)
    where
      joined : unpack 8 (src ++ c ∷ []) ≡ unpack b (full b src) ++ waiting b (length src) (held_of b src) c
      joined = rw (unpack_append 8 src (c ∷ []), unpack_one 8 c, (full_flow src).same, append_assoc)

  pub full_snoc : (src : List ℕ) (c : ℕ) → full b (src ++ c ∷ []) ≡ full b src ++ completes b (length src) (held_of b src) c
  unfolding full
  full_snoc src c = flow_outs 8 b pos (src ++ c ∷ []) (full b src ++ completes b (length src) (held_of b src) c) _ _ (mod-lt (8 * length src % b + 8) pos) (byte_flow src c)

  pub held_snoc : (src : List ℕ) (c : ℕ) → held_of b (src ++ c ∷ []) ≡ keeps b (length src) (held_of b src) c
  unfolding held_of
  held_snoc src c = flow_held 8 b pos (src ++ c ∷ []) (full b src ++ completes b (length src) (held_of b src) c) _ _ (mod-lt (8 * length src % b + 8) pos) (byte_flow src c)

pub completes_length : (b n held c : ℕ) → length (completes b n held c) ≡ full_runs b n
unfolding completes
completes_length b n held c = pack_length b (full_runs b n) (waiting b n held c)

module _ (a : ℕ) (h : a < 6) where
  some_bits : 0 < bits a
  some_bits = omega (arith, bits_low a h)

  pub front_none : front a [] ≡ []
  unfolding front
  front_none = rw (full_none (bits a) some_bits)

  pub front_length : (src : List ℕ) → length (front a src) ≡ 8 * length src / bits a
  unfolding front
  front_length src = length-map (full (bits a) src) (digit a) ∙ full_length (bits a) some_bits src

  pub front_snoc : (src : List ℕ) (c : ℕ) → front a (src ++ c ∷ []) ≡ front a src ++ map (digit a) (completes (bits a) (length src) (held_of (bits a) src) c)
  unfolding front
  front_snoc src c = rw (full_snoc (bits a) some_bits src c, map-append)

  -- a finish completes the written form
  pub front_rest : (src : List ℕ) → front a src ++ rest a src ≡ written a src
  unfolding front rest ending
  front_rest src = go (eqb (8 * length src % bits a) 0) refl
    where
      f : Flow 8 (bits a) src (full (bits a) src) (8 * length src % bits a) (held_of (bits a) src)
      f = full_flow (bits a) some_bits src

      go : (t : Bool) → eqb (8 * length src % bits a) 0 ≡ t → front a src ++ ending a (length src) (held_of (bits a) src) ≡ written a src
      go true e =
          rw (e, append-nil)
          (sym (written_full a h src (full (bits a) src) (held_of (bits a) src) (rw (eqb-true (8 * length src % bits a) 0 e) at f)))
      go false e =
          rw (e, ← full_length (bits a) some_bits src)
          (sym (written_filled a h src (full (bits a) src) (8 * length src % bits a) (held_of (bits a) src) (positive (eqb-false (8 * length src % bits a) 0 e)) (mod-lt (8 * length src) some_bits) f))
        where
          positive : {n : ℕ} → (n ≡ 0 → ⊥) → 0 < n
          positive q = omega (arith, q)
