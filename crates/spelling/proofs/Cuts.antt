-- What a byte is cut into is what the definition says that it completes and keeps, with loose bits too. Shown over the width. Assumes nothing.
use Prim.Native.Nat.{ℕ, ◌+◌, ◌-◌, ◌*◌, ◌/◌, ◌%◌, ◌^◌, ◌<◌, ◌≤◌}
use mathlib.Core.Path.{◌≡◌, refl, sym, ap, ◌∙◌, subst}
use mathlib.Core.Bool.{Bool, true, false}
use mathlib.Core.List.{List, [], ◌∷◌}
use native.Mathlib.Nat.{mod-lt, mod-eq_of_lt, mod-add-mod, mul-add-mod_self_left, mul-one, mul_comm, div-eq_of_lt-le, one-mul, add-mul}
use native.Mathlib.Omega.{arith}
use lib.Dec.{ltb}
use lib.ListN.{length}
use borrow.Author.Tests.{ltb-true, ltb-false}
use Rattle.alphabet.specs.Bits.{bits_of}
use Rattle.regroup.specs.Regroup.{Cut, One, Two, cut_up}
use Rattle.alphabet.proofs.Runs.{bits_join, joined_lt}
use Rattle.alphabet.proofs.Cutting.{pack_none, pack_bits, drop_bits, drop_no_run}
use Rattle.regroup.proofs.RegroupLaws.{rest_lt, cut_one, cut_two}
use Rattle.regroup.proofs.LooseCuts.{cut_one_loose, cut_two_loose}
use Rattle.spelling.specs.Machine.{waiting, full_runs, completes, keeps}

-- after n bytes a byte completes the digits ds; r and held are the bits held after it
pub record CutAs (b n held c : ℕ) (ds : List ℕ) (r left : ℕ) : Type 0 where
  pub runs : full_runs b n ≡ length ds
  pub digits : completes b n held c ≡ ds
  pub keeps_is : keeps b n held c ≡ left
  pub bits : 8 * (n + 1) % b ≡ r
  pub small : left < 2 ^ r

-- what a cut says of its digits
abbrev Says : ℕ → ℕ → ℕ → ℕ → Cut → Type 0
Says b n held c (One v left) = CutAs b n held c (v ∷ []) (8 * n % b + 8 - b) left
Says b n held c (Two v w left) = CutAs b n held c (v ∷ w ∷ []) (8 * n % b + 8 - b - b) left

module _ (b n : ℕ) {held c : ℕ} (low : 4 ≤ b) (high : b ≤ 6) (small : held < 2 ^ (8 * n % b)) (byte : c < 256) where
  few : 8 * n % b < b
  few = mod-lt (8 * n) (omega arith)

  -- the bits held and the byte's, as one number
  pub waiting_is : waiting b n held c ≡ bits_of (8 * n % b + 8) (held * 256 + c)
  unfolding waiting
  waiting_is = sym (bits_join (8 * n % b) 8 held byte)

  runs_are : (k r : ℕ) → 8 * n % b + 8 ≡ b * k + r → r < b → full_runs b n ≡ k
  unfolding full_runs
  runs_are k r e l = div-eq_of_lt-le b (omega (arith, mul_comm k b)) (omega (arith, mul_comm k b, add-mul k 1 b, one-mul b))

  bits_are : (k r : ℕ) → 8 * n % b + 8 ≡ b * k + r → r < b → 8 * (n + 1) % b ≡ r
  bits_are k r e l =
      let q : 8 * (n + 1) ≡ 8 * n + 8 = omega arith in
      rw (q, ← mod-add-mod (8 * n) b 8, e, mul-add-mod_self_left b k r) (mod-eq_of_lt l)

  z_lt : held * 256 + c < 2 ^ (8 * n % b + 8)
  z_lt = joined_lt (8 * n % b) 8 small byte

  cut_as_one : (m : ℕ) → 8 * n % b + 8 ≡ b + m → m < b → CutAs b n held c ((held * 256 + c) / 2 ^ m ∷ []) m ((held * 256 + c) % 2 ^ m)
  unfolding completes keeps
  cut_as_one m e l =
      let k : full_runs b n ≡ 1 = runs_are 1 m (omega (arith, mul-one b)) l in
      let z : held * 256 + c < 2 ^ (b + m) = rw e at z_lt in
      let w : waiting b n held c ≡ bits_of (b + m) (held * 256 + c) = waiting_is ∙ ap (λ (i : ℕ). bits_of i (held * 256 + c)) e in
      record {
        runs = k;
        digits = rw (k, w, pack_bits b m z 0, pack_none);
        keeps_is = rw (k, w, drop_bits b m z 0) (drop_no_run b m (rest_lt m (held * 256 + c)));
        bits = bits_are 1 m (omega (arith, mul-one b)) l;
        small = rest_lt m (held * 256 + c);
      }

  cut_as_two : (m : ℕ) → 8 * n % b + 8 ≡ b + (b + m) → m < b
      → CutAs b n held c ((held * 256 + c) / 2 ^ (b + m) ∷ (held * 256 + c) % 2 ^ (b + m) / 2 ^ m ∷ []) m ((held * 256 + c) % 2 ^ (b + m) % 2 ^ m)
  unfolding completes keeps
  cut_as_two m e l =
      let d : b * 2 ≡ b + b = omega arith in
      let k : full_runs b n ≡ 2 = runs_are 2 m (omega arith) l in
      let z : held * 256 + c < 2 ^ (b + (b + m)) = rw e at z_lt in
      let w : waiting b n held c ≡ bits_of (b + (b + m)) (held * 256 + c) = waiting_is ∙ ap (λ (i : ℕ). bits_of i (held * 256 + c)) e in
      let y : (held * 256 + c) % 2 ^ (b + m) < 2 ^ (b + m) = rest_lt (b + m) (held * 256 + c) in
      record {
        runs = k;
        digits = rw (k, w, pack_bits b (b + m) z 1, pack_bits b m y 0, pack_none);
        keeps_is = rw (k, w, drop_bits b (b + m) z 1, drop_bits b m y 0) (drop_no_run b m (rest_lt m ((held * 256 + c) % 2 ^ (b + m))));
        bits = bits_are 2 m (omega arith) l;
        small = rest_lt m ((held * 256 + c) % 2 ^ (b + m));
      }

  says : Says b n held c (cut_up b (8 * n % b) held c)
  says = go (ltb (8 * n % b + 8 - b) b) refl
    where
      go : (t : Bool) → ltb (8 * n % b + 8 - b) b ≡ t → Says b n held c (cut_up b (8 * n % b) held c)
      go true t =
          let m : ℕ = 8 * n % b + 8 - b in
          let l : m < b = ltb-true m b t in
          let e : 8 * n % b + 8 ≡ b + m = omega arith in
          rw (cut_one b (8 * n % b) low high few small byte m e l) (cut_as_one m e l)
      go false t =
          let l : b ≤ 8 * n % b + 8 - b = ltb-false (8 * n % b + 8 - b) b t in
          let m : ℕ = 8 * n % b + 8 - b - b in
          let e : 8 * n % b + 8 ≡ b + (b + m) = omega arith in
          rw (cut_two b (8 * n % b) low high few small byte m e) (cut_as_two m e (omega (arith, few)))

  says_of : (x : Cut) → cut_up b (8 * n % b) held c ≡ x → Says b n held c x
  says_of x e = subst (Says b n held c) e says

-- loose bits: of h the r low ones are held after n bytes
module _ (b n r h : ℕ) {c : ℕ} (low : 4 ≤ b) (high : b ≤ 6) (few-is : r ≡ 8 * n % b) (byte : c < 256) where
  loose_few : r < b
  loose_few = rw few-is (mod-lt (8 * n) (omega arith))

  loose_says : (x : Cut) → cut_up b r (h % 2 ^ r) c ≡ x → Says b n (h % 2 ^ r) c x
  loose_says x e = says_of b n low high (rw (← few-is) (rest_lt r h)) byte x (rw (← few-is) e)

  pub says_one : (k : ℕ) → k ≡ r + 8 - b → k < b
      → CutAs b n (h % 2 ^ r) c ((h * 256 + c) / 2 ^ k % 2 ^ b ∷ []) k ((h * 256 + c) % 256 % 2 ^ k)
  says_one k e l =
      let q : 8 * n % b + 8 - b ≡ k = rw (← few-is) (sym e) in
      rw q at (loose_says (One ((h * 256 + c) / 2 ^ k % 2 ^ b) ((h * 256 + c) % 256 % 2 ^ k)) (cut_one_loose b r h low high loose_few byte k (omega arith) l))

  pub says_two : (k m : ℕ) → k ≡ r + 8 - b → b ≤ k → m ≡ k - b
      → CutAs b n (h % 2 ^ r) c ((h * 256 + c) / 2 ^ k % 2 ^ b ∷ (h * 256 + c) / 2 ^ m % 2 ^ b ∷ []) m ((h * 256 + c) % 256 % 2 ^ m)
  says_two k m e l f =
      let j : b + m ≡ k = omega arith in
      let q : 8 * n % b + 8 - b - b ≡ m = rw (← few-is, ← e) (sym f) in
      rw q at
      (loose_says (Two ((h * 256 + c) / 2 ^ k % 2 ^ b) ((h * 256 + c) / 2 ^ m % 2 ^ b) ((h * 256 + c) % 256 % 2 ^ m)) (rw j at (cut_two_loose b r h low high loose_few byte m (omega arith))))
