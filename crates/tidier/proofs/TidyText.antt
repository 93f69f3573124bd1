-- The cleaned text of an accepted one is spelled out of its digits: the state that its reader ends in says how many there are and which bits of the
-- last are spare. Assumes nothing.
use Prim.Native.Nat.{ℕ, ◌-◌, ◌*◌, ◌%◌, ◌^◌, ◌<◌}
use mathlib.Core.Path.{◌≡◌, refl, sym, ap, ◌∙◌}
use mathlib.Core.Bool.{Bool, true, false, cond}
use mathlib.Core.List.{List, [], ◌∷◌, ◌++◌, map, map-append}
use native.Mathlib.Nat.{zero-mod}
use native.Mathlib.Omega.{arith}
use lib.Dec.{eqb}
use lib.ListN.{length, get_or, set, length-append, length-map}
use lib.Seq.{get_or_at, set_at}
use borrow.Author.Tests.{eqb-true, eqb-false}
use Rattle.alphabet.specs.Bits.{Below}
use Rattle.alphabet.specs.Digits.{digits_of, bytes_of, left_of}
use Rattle.alphabet.specs.Alphabet.{bits, group, digit, value}
use Rattle.alphabet.specs.Written.{written}
use Rattle.alphabet.proofs.AlphabetLaws.{value_digit}
use Rattle.alphabet.proofs.Symbols.{digit_is}
use Rattle.alphabet.proofs.SpareBits.{clear_low}
use Rattle.alphabet.proofs.LastDigit.{last_less, last_in, last_digits}
use Rattle.alphabet.proofs.DigitLaws.{digits_bytes}
use Rattle.alphabet.proofs.Shapes.{spelled_is, written_spelled}
use Rattle.alphabet.proofs.WrittenLaws.{full_whole}
use Rattle.reading.proofs.ZeroIsAccepted.{Snoc, none, some, snoc, below_last}
use Rattle.tidier.specs.Spelling.{last_of, last_clear, spelled_out, Clearable}

-- digits of the values ds, whose left-over bits are spare
module _ (a : ℕ) (h : a < 6) where
  last_place : (ds : List ℕ) (v : ℕ) → last_of (map (digit a) (ds ++ v ∷ [])) ≡ length (map (digit a) ds)
  last_place ds v = omega (arith, length-map (ds ++ v ∷ []) (digit a), length-map ds (digit a), length-append ds (v ∷ []))

  at_last : (ds : List ℕ) (v : ℕ) → get_or (map (digit a) (ds ++ v ∷ [])) (last_of (map (digit a) (ds ++ v ∷ []))) 0 ≡ digit a v
  at_last ds v = rw (last_place ds v, map-append) (get_or_at (map (digit a) ds) (digit a v) [] 0 (length (map (digit a) ds)) refl)

  pub spares_in_last : (ds : List ℕ) → Below (2 ^ bits a) ds → bits a * length ds % 8 < bits a → 0 < left_of (bits a) ds
      → Clearable a (left_of (bits a) ds) (map (digit a) ds)
  spares_in_last ds l f k = go (snoc ds) l f k
    where
      go : {es : List ℕ} → Snoc es → Below (2 ^ bits a) es → bits a * length es % 8 < bits a → 0 < left_of (bits a) es
          → Clearable a (left_of (bits a) es) (map (digit a) es)
      go none l f k = absurd (omega (arith, (full_whole a h [] (zero-mod (group a))).clear))
      go (some fs v) l f k =
          let v< : v < 2 ^ bits a = (below_last (2 ^ bits a) fs l).1 in
          record {
            some = omega (arith, length-map (fs ++ v ∷ []) (digit a), length-append fs (v ∷ []));
            a_digit = rw (at_last fs v) (digit_is a h v<);
            low = rw (at_last fs v, value_digit a h v<) (last_in (bits a) fs v f);
          }

  -- the digits of their bytes are the same with the last one's spare bits zero
  digits_cleared : (ds : List ℕ) → Below (2 ^ bits a) ds → bits a * length ds % 8 < bits a
      → (map (digit a) (digits_of (bits a) (bytes_of (bits a) ds)) ≡ last_clear a (left_of (bits a) ds) (map (digit a) ds))
      × (length (digits_of (bits a) (bytes_of (bits a) ds)) ≡ length ds)
  unfolding last_clear
  digits_cleared ds l f = go (eqb (left_of (bits a) ds) 0) refl
    where
      last : {es : List ℕ} → Snoc es → Below (2 ^ bits a) es → bits a * length es % 8 < bits a → (left_of (bits a) es ≡ 0 → ⊥)
          → (map (digit a) (digits_of (bits a) (bytes_of (bits a) es))
          ≡ set (map (digit a) es) (last_of (map (digit a) es))
          (digit a (value a (get_or (map (digit a) es) (last_of (map (digit a) es)) 0) - left_of (bits a) es)))
          × (length (digits_of (bits a) (bytes_of (bits a) es)) ≡ length es)
      last none l f n = absurd (n (full_whole a h [] (zero-mod (group a))).clear)
      last (some fs v) l f n =
          let b = below_last (2 ^ bits a) fs l in
          let e : digits_of (bits a) (bytes_of (bits a) (fs ++ v ∷ [])) ≡ fs ++ clear_low (bits a * length (fs ++ v ∷ []) % 8) v ∷ [] =
          last_digits (bits a) fs v f b.0 b.1 in (
            rw (at_last fs v, value_digit a h b.1, last_less (bits a) fs v f, e, last_place fs v, map-append, map-append)
                (sym (set_at (map (digit a) fs) (digit a v) [] (digit a (clear_low (bits a * length (fs ++ v ∷ []) % 8) v)) (length (map (digit a) fs)) refl)),
            rw e (length-append fs (clear_low (bits a * length (fs ++ v ∷ []) % 8) v ∷ []) ∙ sym (length-append fs (v ∷ []))),
          )

      go : (x : Bool) → eqb (left_of (bits a) ds) 0 ≡ x
          → (map (digit a) (digits_of (bits a) (bytes_of (bits a) ds))
          ≡ cond x (map (digit a) ds)
          (set (map (digit a) ds) (last_of (map (digit a) ds))
          (digit a (value a (get_or (map (digit a) ds) (last_of (map (digit a) ds)) 0) - left_of (bits a) ds))))
          × (length (digits_of (bits a) (bytes_of (bits a) ds)) ≡ length ds)
      go true e =
          let d : digits_of (bits a) (bytes_of (bits a) ds) ≡ ds =
          digits_bytes (bits a) ds l (record { few = f; clear = eqb-true (left_of (bits a) ds) 0 e }) in
          (ap (map (digit a)) d, ap length d)
      go false e = last (snoc ds) l f (eqb-false (left_of (bits a) ds) 0 e)

  -- so is the written form of their bytes
  pub written_out : (ds : List ℕ) → Below (2 ^ bits a) ds → bits a * length ds % 8 < bits a
      → written a (bytes_of (bits a) ds) ≡ spelled_out a (left_of (bits a) ds) (map (digit a) ds)
  unfolding spelled_out
  written_out ds l f =
      let d = digits_cleared ds l f in
      written_spelled a (bytes_of (bits a) ds)
      ∙ spelled_is a (digits_of (bits a) (bytes_of (bits a) ds))
      ∙ rw (d.0, d.1, length-map ds (digit a))
