-- The loop over a piece: what holds at its head, and that each kind of turn keeps it. The buffer's part is `Filling`, a byte's
-- is `Cuts`. Assumes nothing.
use Prim.Native.Nat.{ℕ, ◌+◌, ◌-◌, ◌*◌, ◌/◌, ◌%◌, ◌^◌, ◌<◌, ◌≤◌, zero-le}
use mathlib.Core.Path.{◌≡◌, refl, sym, ap, ◌∙◌}
use mathlib.Core.List.{List, [], ◌∷◌, map}
use native.Mathlib.Nat.{sub-zero, add-zero, add_assoc, mod-lt, mul_assoc, div-add-mod', add-mul-mod_self_right}
use native.Mathlib.Numerals.{add-one}
use native.Mathlib.Omega.{arith}
use lib.ListN.{length, drop, get_or, set, length-set, drop_of_length-le}
use lib.Seq.{drop-cons}
use borrow.Author.Tests.{lt-ltb, le-ltb}
use Rattle.alphabet.specs.Alphabet.{bits, digit}
use Rattle.alphabet.proofs.AlphabetLaws.{bits_low, bits_high}
use Rattle.regroup.proofs.RegroupLaws.{rest_lt}
use Rattle.spelling.specs.declared.Why.TheVariants as W
use Rattle.spelling.specs.Machine.{after, full_runs, keeps, where_room, spell}
use Rattle.spell.specs.Promised.{spell_of, Spells, leaving, WentAs}
use Rattle.spelling.proofs.Cuts.{CutAs, says_one, says_two}
use Rattle.spell.proofs.Filling.{Filling, fill_none, fill_store, fill_two, fill_stop}

-- at the loop's head, with i bytes taken and n written: of h the few low bits are held
pub record Going (a b taken held : ℕ) (piece out₀ out : List ℕ) (few h i n : ℕ) : Type 0 where
  pub asked : Spells a b
  pub within : i ≤ length piece
  pub bits_are : few ≡ 8 * (taken + i) % b
  pub loose : h < 256
  pub fill : Filling (spell_of a taken held piece (length out₀)) out₀ out i n (spell a (taken + i) (h % 2 ^ few) (drop i piece) (length out - n))

-- the code takes the bytes modulo the width, which leaves the bits as they are
low_bytes : (b n : ℕ) → 8 * (n % b) % b ≡ 8 * n % b
low_bytes b n =
    let e : 8 * (n % b) + 8 * (n / b) * b ≡ 8 * n = omega (arith, mul_assoc 8 (n / b) b, div-add-mod' n b) in
    sym (add-mul-mod_self_right (8 * (n % b)) (8 * (n / b)) b) ∙ ap (λ (x : ℕ). x % b) e

pub begins : {a b taken held : ℕ} {piece : List ℕ} {few : ℕ} (out : List ℕ) → Spells a b → held < 256 → few ≡ 8 * (taken % b) % b
    → Going a b taken held piece out out few held 0 0
begins {a = a} {b = b} {taken = taken} {held = held} {piece = piece} {few = few} out k l e =
    let f : few ≡ 8 * taken % b = e ∙ low_bytes b taken in
    record {
      asked = k;
      within = zero-le;
      bits_are = rw add-zero f;
      loose = l;
      fill = rw (add-zero, sub-zero, f, k.width) (fill_none (spell_of a taken held piece (length out)) out);
    }

module _ {a b taken held : ℕ} {piece out₀ out : List ℕ} {few h i n : ℕ} (g : Going a b taken held piece out₀ out few h i n) where
  pub sizes : (few < b) × (4 ≤ b) × (b ≤ 6)
  sizes =
      let l : 4 ≤ b = rw g.asked.width (bits_low a g.asked.known) in
      (rw g.bits_are (mod-lt (8 * (taken + i)) (omega arith)), l, rw g.asked.width (bits_high a g.asked.known))

  -- the piece is at its end
  pub ends : length piece ≤ i → WentAs (spell_of a taken held piece (length out₀)) (leaving h few (length piece) n) out₀ out
  unfolding spell
  ends l =
      let e : length piece ≡ i = omega (arith, g.within) in
      rw e (fill_stop g.fill {w = W.All} (rw (drop_of_length-le piece l)))

  module _ (inside : i < length piece) where
    -- one byte of the run
    peel : (room : ℕ)
        → spell a (taken + i) (h % 2 ^ few) (drop i piece) room
        ≡ where_room a (taken + i) (h % 2 ^ few) (get_or piece i 0) room (spell a (taken + i + 1) (keeps (bits a) (taken + i) (h % 2 ^ few) (get_or piece i 0)) (drop (i + 1) piece) (room - full_runs (bits a) (taken + i)))
    unfolding spell
    peel room = rw (add-one i, drop-cons piece i 0)

    module _ {ds : List ℕ} {r left : ℕ} (cut : CutAs b (taken + i) (h % 2 ^ few) (get_or piece i 0) ds r left) where
      pub lacks_room : length out - n < length ds → WentAs (spell_of a taken held piece (length out₀)) (leaving h few i n) out₀ out
      unfolding where_room
      lacks_room l =
          fill_stop g.fill {w = W.Room}
          (peel (length out - n)
          ∙ rw
          (← g.asked.width, cut.runs, lt-ltb (length out - n) (length ds) l))

      takes : length ds ≤ length out - n
          → spell a (taken + i) (h % 2 ^ few) (drop i piece) (length out - n)
          ≡ after 1 (map (digit a) ds) (spell a (taken + (i + 1)) left (drop (i + 1) piece) (length out - n - length ds))
      unfolding where_room
      takes l =
          peel (length out - n)
          ∙ rw
          (← g.asked.width, cut.runs, le-ltb (length out - n) (length ds) l, cut.digits, cut.keeps_is, add_assoc taken i 1)

      bits_next : 8 * (taken + (i + 1)) % b ≡ r
      bits_next = ap (λ (k : ℕ). 8 * k % b) (sym (add_assoc taken i 1)) ∙ cut.bits

    module _ (byte : get_or piece i 0 < 256) {k : ℕ} (k-is : k ≡ few + 8 - b) where
      module _ (one : k < b) where
        cut_one : CutAs b (taken + i) (h % 2 ^ few) (get_or piece i 0) ((h * 256 + get_or piece i 0) / 2 ^ k % 2 ^ b ∷ []) k ((h * 256 + get_or piece i 0) % 256 % 2 ^ k)
        cut_one = says_one b (taken + i) few h sizes.1 sizes.2 g.bits_are byte k k-is one

        pub none_fits : length out ≤ n → WentAs (spell_of a taken held piece (length out₀)) (leaving h few i n) out₀ out
        none_fits l = lacks_room cut_one (omega arith)

        pub took_one : {x : ℕ} → n < length out → x ≡ digit a ((h * 256 + get_or piece i 0) / 2 ^ k % 2 ^ b)
            → Going a b taken held piece out₀ (set out n x) k ((h * 256 + get_or piece i 0) % 256) (i + 1) (n + 1)
        took_one {x} l e =
            let m : length (set out n x) - (n + 1) ≡ length out - n - 1 = omega (arith, length-set out n x) in
            record {
              asked = g.asked;
              within = omega arith;
              bits_are = sym (bits_next cut_one);
              loose = rest_lt 8 (h * 256 + get_or piece i 0);
              fill = rw m (fill_store g.fill 1 (takes cut_one (omega arith) ∙ rw (← e)) l);
            }

      module _ (two : b ≤ k) where
        cut_two : (m : ℕ) → m ≡ k - b
            → CutAs b (taken + i) (h % 2 ^ few) (get_or piece i 0) ((h * 256 + get_or piece i 0) / 2 ^ k % 2 ^ b ∷ (h * 256 + get_or piece i 0) / 2 ^ m % 2 ^ b ∷ []) m ((h * 256 + get_or piece i 0) % 256 % 2 ^ m)
        cut_two m e = says_two b (taken + i) few h sizes.1 sizes.2 g.bits_are byte k m k-is two e

        pub two_lack : length out ≤ n + 1 → WentAs (spell_of a taken held piece (length out₀)) (leaving h few i n) out₀ out
        two_lack l = lacks_room (cut_two (k - b) refl) (omega arith)

        pub took_two : {m x y : ℕ} → m ≡ k - b → n + 2 ≤ length out
            → x ≡ digit a ((h * 256 + get_or piece i 0) / 2 ^ k % 2 ^ b) → y ≡ digit a ((h * 256 + get_or piece i 0) / 2 ^ m % 2 ^ b)
            → Going a b taken held piece out₀ (set (set out n x) (n + 1) y) m ((h * 256 + get_or piece i 0) % 256) (i + 1) (n + 2)
        took_two {m} {x} {y} q l e f =
            let j : length (set (set out n x) (n + 1) y) - (n + 2) ≡ length out - n - 2 =
            omega (arith, length-set (set out n x) (n + 1) y, length-set out n x) in
            record {
              asked = g.asked;
              within = omega arith;
              bits_are = sym (bits_next (cut_two m q));
              loose = rest_lt 8 (h * 256 + get_or piece i 0);
              fill = rw j (fill_two g.fill (takes (cut_two m q) (omega arith) ∙ rw (← e, ← f)) l);
            }

-- how wide a digit is, for the code's sums and shifts
pub ruleset widths = (bits_low, bits_high, sizes)
