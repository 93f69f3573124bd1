-- The front of a source is exactly the longest start that the written forms of all its continuations share: a zero byte and a byte of ones after it
-- differ in the next digit. Assumes nothing.
use Prim.Native.Nat.{ℕ, suc, ◌+◌, ◌-◌, ◌*◌, ◌/◌, ◌%◌, ◌^◌, ◌<◌, ◌≤◌}
use mathlib.Core.Path.{◌≡◌, refl, sym, ap, ◌∙◌}
use mathlib.Core.Bool.{Bool, true, false}
use mathlib.Core.List.{List, [], ◌∷◌, ◌++◌, append_assoc, map}
use native.Mathlib.Nat.{mod-lt, zero-div, mul_assoc, mul-add-div_right, le-div_iff_mul-le, one-mul}
use native.Mathlib.Omega.{arith}
use lib.Dec.{ltb}
use lib.ListN.{length, take, drop, get_or, take-append-drop, get_or-append}
use lib.Seq.{take_at, take-append-le, get_or-append_seam}
use lib.Pow.{pow-add, pow_mono, pow_pos, shr_lt}
use borrow.Author.Tests.{ltb-true, ltb-false}
use Rattle.alphabet.specs.Bits.{bits_of, pack}
use Rattle.alphabet.specs.Alphabet.{bits, digit, value}
use Rattle.alphabet.specs.Written.{written}
use Rattle.alphabet.proofs.AlphabetLaws.{bits_low, bits_high, value_digit}
use Rattle.alphabet.proofs.Runs.{joined_lt}
use Rattle.alphabet.proofs.Cutting.{pack_bits}
use Rattle.spelling.specs.Front.{front, held_of, rest}
use Rattle.spelling.specs.Machine.{waiting, full_runs, completes}
use Rattle.reading.specs.Continuation.{Begins}
use Rattle.spelling.specs.Shared.{Shared, LongestShared}
use Rattle.writing.specs.declared.Status.TheVariants as U
use Rattle.writing.specs.declared.Writer.{Writer}
use Rattle.writing.specs.Moment.{Calls}
use Rattle.spelling.proofs.FrontLaws.{full_flow, front_snoc, front_rest}
use Rattle.spelling.proofs.Cuts.{waiting_is}
use Rattle.spelling.proofs.Through.{Grows, grows}
use Rattle.writing.proofs.Moments.{moments}
use Rattle.writing.proofs.Steps.{front_text}

-- ---- the next digit

-- the value of the first digit that a byte completes
next : ℕ → ℕ → ℕ → ℕ → ℕ
next b n held c = (held * 256 + c) / 2 ^ (8 * n % b + 8 - b)

module _ (b n : ℕ) {held : ℕ} (low : 4 ≤ b) (high : b ≤ 6) (small : held < 2 ^ (8 * n % b)) where
  few : 8 * n % b < b
  few = mod-lt (8 * n) (omega arith)

  record First (c : ℕ) : Type 0 where
    pub more : List ℕ
    pub begins : completes b n held c ≡ next b n held c ∷ more
    pub value_lt : next b n held c < 2 ^ b

  first : (c : ℕ) → c < 256 → First c
  unfolding completes full_runs next
  first c h =
      let m : ℕ = 8 * n % b + 8 - b in
      let e : 8 * n % b + 8 ≡ b + m = omega arith in
      let k : 1 ≤ (8 * n % b + 8) / b = (le-div_iff_mul-le {k = b} {x = 1} {y = 8 * n % b + 8} (omega arith)).1 (rw (one-mul b) (omega arith)) in
      let j : (8 * n % b + 8) / b ≡ suc ((8 * n % b + 8) / b - 1) = omega arith in
      let z : held * 256 + c < 2 ^ (b + m) = rw e at (joined_lt (8 * n % b) 8 small h) in
      let w : waiting b n held c ≡ bits_of (b + m) (held * 256 + c) = waiting_is b n low high small h ∙ ap (λ (i : ℕ). bits_of i (held * 256 + c)) e in
      record {
        more = pack b ((8 * n % b + 8) / b - 1) (bits_of m ((held * 256 + c) % 2 ^ m));
        begins =
            ap (λ (l : List Bool). pack b ((8 * n % b + 8) / b) l) w ∙ ap (λ (i : ℕ). pack b i (bits_of (b + m) (held * 256 + c))) j ∙ pack_bits b m z ((8 * n % b + 8) / b - 1);
        value_lt = shr_lt b m z;
      }

  -- a byte of zeros and one of ones differ there
  differ : next b n held 0 ≡ next b n held 255 → ⊥
  unfolding next
  differ q =
      let m : ℕ = 8 * n % b + 8 - b in
      let w : 8 ≡ 8 - m + m = omega (arith, few) in
      let e : held * 256 ≡ held * 2 ^ (8 - m) * 2 ^ m =
      ap (λ (k : ℕ). held * 2 ^ k) w ∙ ap (λ (k : ℕ). held * k) (pow-add 2 (8 - m) m) ∙ sym (mul_assoc held (2 ^ (8 - m)) (2 ^ m)) in
      let zeros : (held * 256 + 0) / 2 ^ m ≡ held * 2 ^ (8 - m) + 0 / 2 ^ m = rw e (mul-add-div_right (pow_pos m) (held * 2 ^ (8 - m)) 0) in
      let ones : (held * 256 + 255) / 2 ^ m ≡ held * 2 ^ (8 - m) + 255 / 2 ^ m = rw e (mul-add-div_right (pow_pos m) (held * 2 ^ (8 - m)) 255) in
      let p : 2 ^ m ≤ 2 ^ 7 = pow_mono {j = 7} (omega (arith, few)) in
      let one : 1 ≤ 255 / 2 ^ m = (le-div_iff_mul-le {k = 2 ^ m} {x = 1} {y = 255} (pow_pos m)).1 (rw (one-mul (2 ^ m)) (omega arith)) in
      omega (arith, zero-div (2 ^ m))

-- ---- in the written forms

module _ (a : ℕ) (h : a < 6) (src : List ℕ) where
  small : held_of (bits a) src < 2 ^ (8 * length src % bits a)
  small = (full_flow (bits a) (omega (arith, bits_low a h)) src).small

  first_of : (c : ℕ) → c < 256 → First (bits a) (length src) (bits_low a h) (bits_high a h) small c
  first_of c l = first (bits a) (length src) (bits_low a h) (bits_high a h) small c l

  -- after the front stands the next digit
  next_digit : (c : ℕ) → c < 256 → get_or (written a (src ++ c ∷ [])) (length (front a src)) 0 ≡ digit a (next (bits a) (length src) (held_of (bits a) src) c)
  next_digit c l =
      let v : ℕ = next (bits a) (length src) (held_of (bits a) src) c in
      let f = first_of c l in
      let w : written a (src ++ c ∷ []) ≡ front a src ++ digit a v ∷ (map (digit a) f.more ++ rest a (src ++ c ∷ [])) =
      sym (front_rest a h (src ++ c ∷ []))
      ∙ ap (λ (x : List ℕ). x ++ rest a (src ++ c ∷ [])) (front_snoc a h src c ∙ ap (λ (x : List ℕ). front a src ++ map (digit a) x) f.begins)
      ∙ append_assoc (front a src) (digit a v ∷ map (digit a) f.more) (rest a (src ++ c ∷ [])) in
      rw w (get_or-append_seam (front a src) (digit a v) (map (digit a) f.more ++ rest a (src ++ c ∷ [])) 0)

  -- the next digits after a byte of zeros and one of ones are two
  parts : get_or (written a (src ++ 0 ∷ [])) (length (front a src)) 0 ≡ get_or (written a (src ++ 255 ∷ [])) (length (front a src)) 0 → ⊥
  parts e =
      let x : ℕ = next (bits a) (length src) (held_of (bits a) src) 0 in
      let y : ℕ = next (bits a) (length src) (held_of (bits a) src) 255 in
      let q : digit a x ≡ digit a y = sym (next_digit 0 (omega arith)) ∙ e ∙ next_digit 255 (omega arith) in
      differ (bits a) (length src) (bits_low a h) (bits_high a h) small
      (sym (value_digit a h (first_of 0 (omega arith)).value_lt) ∙ ap (value a) q ∙ value_digit a h (first_of 255 (omega arith)).value_lt)

  -- what begins a list and is longer than k has its element at k
  same_at : {p whole : List ℕ} (k : ℕ) → k < length p → Begins p whole → get_or whole k 0 ≡ get_or p k 0
  same_at {p} k l b = rw b.whole_is (get_or-append p b.rest 0 k l)

  front_shared : Shared a src (front a src)
  front_shared more b =
      let g : Grows a src more = grows a h src more in
      record {
        rest = g.further ++ rest a (src ++ more);
        whole_is = sym (front_rest a h (src ++ more)) ∙ ap (λ (x : List ℕ). x ++ rest a (src ++ more)) g.grown ∙ append_assoc (front a src) g.further (rest a (src ++ more));
      }

  not_longer : (other : List ℕ) → Shared a src other → length (front a src) < length other → ⊥
  not_longer other s l =
      parts
      (same_at (length (front a src)) l (s (0 ∷ []) (omega arith, tt)) ∙ sym (same_at (length (front a src)) l (s (255 ∷ []) (omega arith, tt))))

  front_longest : (other : List ℕ) → Shared a src other → Begins other (front a src)
  front_longest other s = go (ltb (length (front a src)) (length other)) refl
    where
      go : (t : Bool) → ltb (length (front a src)) (length other) ≡ t → Begins other (front a src)
      go true e = absurd (not_longer other s (ltb-true (length (front a src)) (length other) e))
      go false e =
          let l : length other ≤ length (front a src) = ltb-false (length (front a src)) (length other) e in
          let x : Begins other (written a (src ++ [])) = s [] tt in
          let y : Begins (front a src) (written a (src ++ [])) = front_shared [] tt in
          let t : take (length other) (front a src) ≡ other =
          sym (take-append-le (length other) (front a src) y.rest l) ∙ ap (take (length other)) (sym y.whole_is ∙ x.whole_is) ∙ take_at other x.rest (length other) refl in
          record { rest = drop (length other) (front a src); whole_is = sym (take-append-drop (length other) (front a src)) ∙ ap (λ (z : List ℕ). z ++ drop (length other) (front a src)) t }

  pub front_is_longest_shared : LongestShared a src (front a src)
  front_is_longest_shared = record { shared = front_shared; longest = front_longest }

-- at each moment before a finish, the text handed out is exactly the longest start that the written forms of all continuations share
pub text_is_longest_shared : {src t : List ℕ} {s : Writer} → Calls src t s → (s.status ≡ U.Done → ⊥) → LongestShared s.alphabet src t
text_is_longest_shared {src} {t} {s} c e = rw (front_text c e) (front_is_longest_shared s.alphabet (moments c).known src)
