-- What the two regrouping steps answer keeps the machine: after each step the numbers given and the bits held are those of the numbers taken.
-- Assumes nothing.
use Prim.Native.Nat.{ℕ, ◌+◌, ◌-◌, ◌^◌, ◌<◌, ◌≤◌}
use mathlib.Core.Path.{◌≡◌, refl}
use mathlib.Core.Bool.{Bool, true, false}
use mathlib.Core.List.{List, [], ◌∷◌, ◌++◌}
use native.Mathlib.Omega.{arith}
use lib.Dec.{ltb}
use borrow.Author.Tests.{ltb-true, ltb-false}
use Rattle.std.specs.Prelude.{Some, None}
use Rattle.regroup.specs.Regroup.{Cut, One, Two, fed, cut_up}
use Rattle.regroup.specs.declared.Fed.{Fed}
use Rattle.alphabet.proofs.Flow.{Flow, absorb, pass, pass_two}
use Rattle.regroup.proofs.RegroupLaws.{fed_held, fed_byte, cut_one, cut_two}

-- the digits ds have k bits that are not yet bytes of out: they are held, or a byte and the bits after it
abbrev pub FedTo : ℕ → List ℕ → List ℕ → ℕ → Fed → Type 0
FedTo b ds out k f =
    elim f.byte [
      | None ↦ (k < 8) × Flow b 8 ds out k f.held
      | Some x ↦ (8 ≤ k) × Flow b 8 ds (out ++ x ∷ []) (k - 8) f.held
    ]

pub fed_keeps : (b r : ℕ) (ds out : List ℕ) {held v : ℕ} → b < 8 → r < 8 → v < 2 ^ b → Flow b 8 ds out r held
    → FedTo b (ds ++ v ∷ []) out (r + b) (fed b r held v)
fed_keeps b r ds out {held} {v} wide few digit f = go (ltb (r + b) 8) refl
  where
    go : (x : Bool) → ltb (r + b) 8 ≡ x → FedTo b (ds ++ v ∷ []) out (r + b) (fed b r held v)
    go true e = let l : r + b < 8 = ltb-true (r + b) 8 e in rw (fed_held b r wide few f.small digit l) (l, absorb b 8 ds out r held digit f)
    go false e =
        let l : 8 ≤ r + b = ltb-false (r + b) 8 e in
        let k : r + b ≡ 8 + (r + b - 8) = omega arith in
        rw (fed_byte b r wide few f.small digit (r + b - 8) k) (l, pass b 8 ds out r held (r + b - 8) digit k f)

-- the bytes src have k bits that are not yet digits of outs: a digit or two, and the bits after them
abbrev pub CutTo : ℕ → List ℕ → List ℕ → ℕ → Cut → Type 0
CutTo b src outs k (One x held) = (k < b + b) × Flow 8 b src (outs ++ x ∷ []) (k - b) held
CutTo b src outs k (Two x y held) = (b + b ≤ k) × Flow 8 b src (outs ++ x ∷ y ∷ []) (k - (b + b)) held

pub cut_keeps : (b r : ℕ) (src outs : List ℕ) {held byte : ℕ} → 4 ≤ b → b ≤ 6 → r < b → byte < 256 → Flow 8 b src outs r held
    → CutTo b (src ++ byte ∷ []) outs (r + 8) (cut_up b r held byte)
cut_keeps b r src outs {held} {byte} low high few fits f = go (ltb (r + 8) (b + b)) refl
  where
    go : (x : Bool) → ltb (r + 8) (b + b) ≡ x → CutTo b (src ++ byte ∷ []) outs (r + 8) (cut_up b r held byte)
    go true e =
        let l : r + 8 < b + b = ltb-true (r + 8) (b + b) e in
        let k : r + 8 ≡ b + (r + 8 - b) = omega arith in
        rw (cut_one b r low high few f.small fits (r + 8 - b) k (omega arith)) (l, pass 8 b src outs r held (r + 8 - b) fits k f)
    go false e =
        let l : b + b ≤ r + 8 = ltb-false (r + 8) (b + b) e in
        let k : r + 8 ≡ b + (b + (r + 8 - (b + b))) = omega arith in
        rw (cut_two b r low high few f.small fits (r + 8 - (b + b)) k) (l, pass_two 8 b src outs r held (r + 8 - (b + b)) fits k f)
