-- What holds at the head of the loop over digits as they stand, that a digit keeps it, and what it gives at the end. Assumes nothing.
use Prim.Native.Nat.{ℕ, ◌+◌, ◌-◌, ◌*◌, ◌/◌, ◌%◌, ◌^◌, ◌<◌, ◌≤◌}
use mathlib.Core.Path.{◌≡◌, sym, ap, ◌∙◌, subst}
use mathlib.Core.Bool.{true}
use mathlib.Core.List.{List}
use native.Mathlib.Nat.{add-zero, add_assoc, mod-lt, mod-eq_of_lt, lt_of_lt_of_le}
use native.Mathlib.Omega.{arith}
use lib.ListN.{length, get_or, set}
use lib.Pow.{pow_mono}
use Rattle.alphabet.specs.Alphabet.{bits}
use Rattle.table.specs.Table.{entries}
use Rattle.table.specs.declared.Symbol.TheVariants.{Digit}
use Rattle.regroup.specs.Regroup.{fed}
use Rattle.alphabet.proofs.AlphabetLaws.{bits_high}
use Rattle.regroup.proofs.Shifts.{shifted, shifted_lt}
use Rattle.table.proofs.TableLaws.{entry_digit}
use Rattle.regroup.proofs.Loose.{loose_held, loose_byte}
use Rattle.reading.specs.Options.{allowed}
use Rattle.reading.specs.Limit.{limit}
use Rattle.reading.specs.Reader.{takes, gives, held_bits}
use Rattle.reading.proofs.LimitLaws.{limit_small}
use Rattle.reading.proofs.OptionLaws.{allowed_alphabet, strict_allowed}
use Rattle.reading.proofs.StepLaws.{held_then, left_then}
use Rattle.reading.proofs.StepCases.{Stands, stands}
use Rattle.rule.specs.declared.Core.{Core}
use Rattle.engine.specs.declared.digits.Passed.{Passed}
use Rattle.rule.specs.Meaning.{state_of}
use Rattle.engine.specs.Meaning.{Fit}
use Rattle.engine.specs.Ran.{Ready}
use Rattle.engine.specs.Loop.{Filling, Passes, core_at, passed_as}
use Rattle.engine.proofs.Steps.{digit_held, digit_gives}
use Rattle.engine.proofs.Loops.{filling_begins, filling_takes, filling_gives, same_size, fit}

-- i digits of the piece are taken, and of the byte h the r low bits are held
pub record Plain (a : ℕ) (start : Core) (piece out₀ out : List ℕ) (h r i n : ℕ) : Type 0 where
  pub byte : h < 256
  pub few : r ≡ held_bits a (state_of (core_at start h r i))
  pub fills : (opts : ℕ) → allowed a opts ≡ true → Filling a opts piece start out₀ out (core_at start h r i) i n

pub digits_below : {a : ℕ} {k : Core} {m : ℕ} → Ready a k m → k.digits ≤ limit
digits_below q = omega (arith, q.sound.digits, q.within)

pub plain_begins : (a : ℕ) (k : Core) (piece out : List ℕ) → Ready a k (length piece) → k.pads ≡ 0 → {r : ℕ} → r ≡ bits a * k.digits % 8
    → Plain a k piece out out k.held r 0 0
unfolding held_bits
plain_begins a k piece out q p {r} e =
    let few : k.held % 2 ^ r ≡ k.held = mod-eq_of_lt (rw e q.sound.held) in
    let same : k ≡ core_at k k.held r 0 =
    λ j. record { digits = sym (add-zero k.digits) j; held = sym few j; pads = p j; taken = sym (add-zero k.taken) j } in
    record {
      byte = lt_of_lt_of_le q.sound.held (pow_mono {j = 8} (omega arith));
      few = rw add-zero e;
      fills = λ opts w. subst (λ (x : Core). Filling a opts piece k out out x 0 0) same (filling_begins a opts piece k out q);
    }

module _ {a : ℕ} {start : Core} {piece out₀ out : List ℕ} {h r i n : ℕ} (x : a < 6) (f : Plain a start piece out₀ out h r i n) where
  strict : Filling a 0 piece start out₀ out (core_at start h r i) i n
  strict = f.fills 0 (strict_allowed a x)

  pub plain_few : r < 8
  unfolding held_bits
  plain_few = omega (arith, f.few)

  pub plain_size : length out ≡ length out₀
  plain_size = same_size x strict

  pub plain_fits : n ≤ length out₀
  plain_fits = strict.loop.fits

  -- the sums of the state fit
  pub plain_sums : Ready a start (length piece) → (start.digits + i < 2 ^ 40) × (start.taken + i < 2 ^ 40)
  plain_sums q = (
    omega (arith, strict.loop.within, q.sound.digits, q.within, limit_small),
    omega
        (arith, strict.loop.within, q.within, limit_small),
  )

  pub plain_passes : {y : Passed} → y ≡ passed_as start h r i n → Passes a start piece out₀ out y
  plain_passes e = subst (Passes a start piece out₀ out) (sym e) (record { fills = f.fills })

  module _ {t : List ℕ} {v : ℕ} (e : t ≡ entries) (q : Ready a start (length piece)) (l : i < length piece) (inside : get_or piece i 0 < 256)
      (is : v ≡ get_or t (a * 256 + get_or piece i 0) 0) (m : v ≡ 255 → ⊥) where
    -- the byte is a digit as it stands
    pub plain_digit : (opts : ℕ) → allowed a opts ≡ true → Stands a opts (state_of (core_at start h r i)) (get_or piece i 0) v
    plain_digit opts w =
        let same : v ≡ get_or entries (a * 256 + get_or piece i 0) 0 = is ∙ ap (λ (y : List ℕ). get_or y (a * 256 + get_or piece i 0) 0) e in
        stands a opts (state_of (core_at start h r i)) (get_or piece i 0) w (entry_digit a (get_or piece i 0) x inside (λ z. m (same ∙ z))
        ∙ ap Digit (sym same))

    pub small : v < 2 ^ bits a
    small = (plain_digit 0 (strict_allowed a x)).small

    now_fit : Fit a (core_at start h r i)
    now_fit = fit x strict.loop q l

    pub byte_small : v < 256
    byte_small = lt_of_lt_of_le small (pow_mono {j = 8} (omega (arith, bits_high a x)))

    wide : bits a < 8
    wide = omega (arith, bits_high a x)

    -- the state after the digit, as the loop has it
    next : (y z : ℕ)
        → core_at start y z (i + 1) ≡ record { digits = start.digits + i + 1; held = y % 2 ^ z; pads = 0; taken = start.taken + i + 1 }
    next y z = rw (add_assoc, add_assoc)

    holds : r + bits a < 8 → Plain a start piece out₀ out ((h * 2 ^ bits a + v) % 256) (r + bits a) (i + 1) n
    unfolding held_bits
    holds s =
        let k = core_at start h r i in
        let y : ℕ = (h * 2 ^ bits a + v) % 256 in
        let held = loose_held (bits a) r h wide (plain_few) small s in
        record {
          byte = mod-lt _ (omega arith);
          few = sym (held_then a x (state_of k) strict.loop.sound (rw (← f.few) s) ∙ ap (λ (z : ℕ). z + bits a) (sym f.few))
              ∙ rw add_assoc;
          fills = λ opts w.
              filling_takes x (f.fills opts w) {k' = core_at start y (r + bits a) (i + 1)} l
              (sym (ap (λ (c : Core). takes (state_of c)) (next y (r + bits a))
              ∙ digit_held a x k now_fit small (omega arith) (ap (λ (z : ℕ). fed (bits a) z (h % 2 ^ r) v) (sym f.few) ∙ held)
              ∙ sym (plain_digit opts w).is));
        }

    gives_byte : (b : ℕ) → r + bits a ≡ 8 + b → n < length out₀
        → Plain a start piece out₀ (set out n ((h * 2 ^ bits a + v) / 2 ^ b % 256)) ((h * 2 ^ bits a + v) % 256) b (i + 1) (n + 1)
    unfolding held_bits
    gives_byte b s room =
        let k = core_at start h r i in
        let y : ℕ = (h * 2 ^ bits a + v) % 256 in
        let o : ℕ = (h * 2 ^ bits a + v) / 2 ^ b % 256 in
        let held = loose_byte (bits a) r h wide (plain_few) small b s in
        record {
          byte = mod-lt _ (omega arith);
          few = omega (
            arith,
            s,
            f.few,
            left_then a x (state_of k) strict.loop.sound (omega (arith, s, f.few)),
            add_assoc
                start.digits i 1,
          );
          fills = λ opts w.
              filling_gives x (f.fills opts w) {k' = core_at start y b (i + 1)} l
              (sym (ap (λ (c : Core). gives o (state_of c)) (next y b)
              ∙ digit_gives a x k now_fit small (omega arith) (ap (λ (z : ℕ). fed (bits a) z (h % 2 ^ r) v) (sym f.few) ∙ held)
              ∙ sym (plain_digit opts w).is))
              room;
        }

    -- the same as the code has it, where b is the width and a shift joins the bits
    module _ {b : ℕ} (w : b ≡ bits a) where
      shift : h * 2 ^ bits a % 2 ^ 64 ≡ h * 2 ^ bits a
      shift = shifted h (bits a) f.byte (omega (arith, wide))

      pub plain_holds : r + b < 8 → Plain a start piece out₀ out ((h * 2 ^ b % 2 ^ 64 + v) % 256) (r + b) (i + 1) n
      plain_holds s = rw (w, shift) (holds (rw (← w) s))

      pub plain_gives : 8 ≤ r + b → n < length out₀
          → Plain a start piece out₀ (set out n ((h * 2 ^ b % 2 ^ 64 + v) / 2 ^ (r + b - 8) % 256)) ((h * 2 ^ b % 2 ^ 64 + v) % 256)
          (r + b - 8) (i + 1) (n + 1)
      plain_gives s room = rw (w, shift) (gives_byte (r + bits a - 8) (omega (arith, w)) room)

      pub plain_joins : h * 2 ^ b % 2 ^ 64 + v < 2 ^ 17
      plain_joins = rw (w, shift) (omega (arith, byte_small, shifted_lt h (bits a) f.byte (omega (arith, wide))))

-- for the loop's own goals
pub ruleset plain_so_far = (allowed_alphabet, bits_high, plain_few, plain_size, plain_fits, plain_passes)
