-- 01, "Texts with known outcomes": at the limit, L digits of hex are accepted; one byte more is answer 2 at L with 8,388,608 good bytes, a dropped byte
-- included. Assumes nothing.
use Prim.Native.Nat.{ℕ, ◌*◌, ◌/◌, ◌%◌, ◌^◌, ◌<◌, ◌≤◌}
use mathlib.Core.Path.{◌≡◌, refl, ap, ◌∙◌}
use mathlib.Core.Bool.{true}
use mathlib.Core.List.{List, ◌∷◌, ◌++◌, map}
use native.Mathlib.Omega.{arith}
use lib.ListN.{length, length-map}
use Rattle.alphabet.specs.Bits.{Below}
use Rattle.alphabet.specs.Digits.{bytes_of}
use Rattle.alphabet.specs.Alphabet.{bits, group, digit}
use Rattle.alphabet.proofs.HexSizes.{hex_sizes}
use Rattle.alphabet.proofs.Lengths.{bytes_length}
use Rattle.reading.specs.Limit.{limit}
use Rattle.reading.specs.Options.{allowed}
use Rattle.reading.specs.Reader.{Verdict, judged}
use Rattle.reading.proofs.LimitLaws.{limit_whole, limit_hex}
use Rattle.reading.proofs.ReaderLaws.{state}
use Rattle.reading.proofs.Building.{digits_read}
use Rattle.reading.proofs.Joined.{judged_end, judged_past}
use Rattle.reading.proofs.Refusals.{ends_whole}

-- the verdict at the limit: this answer, and so many good bytes
pub record AtLimit (k : ℕ) (v : Verdict) : Type 0 where
  pub answer : v.answer ≡ k
  pub position : v.position ≡ limit
  pub count : length v.good ≡ 8388608

module _ (a : ℕ) (hex : 4 ≤ a) (h : a < 6) (opts : ℕ) (c : allowed a opts ≡ true) (ds : List ℕ) (b : Below (2 ^ bits a) ds) (n : length ds ≡ limit) where
  size : length (map (digit a) ds) ≡ limit
  size = length-map ds (digit a) ∙ n

  halves : length (bytes_of (bits a) ds) ≡ 8388608
  halves =
      bytes_length (bits a) ds
      ∙ ap (λ (w : ℕ). w * length ds / 8) (hex_sizes a hex h).0
      ∙ ap (λ (m : ℕ). 4 * m / 8) n
      ∙ limit_hex

  full : length ds % group a ≡ 0
  full = ap (λ (g : ℕ). length ds % g) (hex_sizes a hex h).1 ∙ omega (arith, limit_whole)

  -- L digits are accepted
  pub limit_accepted : AtLimit 0 (judged a opts (map (digit a) ds))
  limit_accepted =
      let v = judged_end a opts (map (digit a) ds) (state a ds 0 (length ds)) (bytes_of (bits a) ds) (digits_read a h opts c ds b) (omega (arith, size)) in
      record {
        answer = ap (λ (x : Verdict). x.answer) v ∙ ends_whole a opts (state a ds 0 (length ds)) refl full;
        position = ap (λ (x : Verdict). x.position) v ∙ n;
        count = ap (λ (x : Verdict). length x.good) v ∙ halves;
      }

  -- one byte more, whatever it is
  pub limit_passed : (byte : ℕ) (u : List ℕ) → AtLimit 2 (judged a opts (map (digit a) ds ++ byte ∷ u))
  limit_passed byte u =
      let v = judged_past a opts (map (digit a) ds) byte u (state a ds 0 (length ds)) (bytes_of (bits a) ds) (digits_read a h opts c ds b) size in
      record {
        answer = ap (λ (x : Verdict). x.answer) v;
        position = ap (λ (x : Verdict). x.position) v;
        count = ap (λ (x : Verdict). length x.good) v ∙ halves;
      }
