-- The test of a state, case by case as the code takes it, and what it shows. Assumes nothing.
use Prim.Native.Nat.{ℕ, ◌+◌, ◌*◌, ◌%◌, ◌^◌, ◌<◌, ◌≤◌}
use mathlib.Core.Path.{◌≡◌, refl, sym, ap, ◌∙◌}
use mathlib.Core.Bool.{Bool, true, false, not, ◌&&◌}
use denote.Enum.Bare.{sameb}
use native.Mathlib.Omega.{arith}
use lib.Dec.{eqb, ltb, leb}
use borrow.Author.Tests.{lt-ltb, le-ltb, eqb-true, eqb-false}
use Rattle.alphabet.specs.Written.{written_length}
use Rattle.alphabet.specs.Alphabet.{bits}
use Rattle.reading.specs.Limit.{limit}
use Rattle.spelling.specs.Sound.{Sound, sound_numbers}
use Rattle.spelling.specs.Size.{longest_of}
use Rattle.spelling.proofs.LengthLaws.{longest_known, within_most, beyond_most}
use Rattle.spelling.proofs.SoundNumbers.{and_first, and_second}
use Rattle.spelling.proofs.SoundNumbers as numbers
use Rattle.writing.specs.contracts.Status.{the_type}
use Rattle.writing.specs.declared.Status.{Status}
use Rattle.writing.specs.declared.Status.TheVariants as U
use Rattle.writing.specs.Stream.{fits_status, sound_by}

-- the test of the numbers, then of the status
and_last : (p q r s : Bool) → p && (q && (r && s)) ≡ (p && (q && r)) && s
and_last true true r s = refl
and_last true false r s = refl
and_last false q r s = refl

parted : (a n held : ℕ) (u : Status) → sound_by a n held u ≡ sound_numbers a n held && fits_status u a n
unfolding sound_by sound_numbers
parted a n held u = and_last (ltb a 6) (leb (written_length a n) limit) (ltb held (2 ^ (8 * n % bits a))) (fits_status u a n)

-- what a state that passes the test has
module _ (a n held : ℕ) (u : Status) (e : sound_by a n held u ≡ true) where
  both : sound_numbers a n held && fits_status u a n ≡ true
  both = sym (parted a n held u) ∙ e

  pub passes : Sound a n held
  passes = numbers.passes a n held (and_first (sound_numbers a n held) (fits_status u a n) both)

  pub fits : fits_status u a n ≡ true
  fits = and_second (sound_numbers a n held) (fits_status u a n) both

-- the next byte exceeds the limit exactly after the longest source
next_exceeds : (a n : ℕ) → a < 6 → written_length a n ≤ limit → eqb n (longest_of a) ≡ ltb limit (written_length a (n + 1))
next_exceeds a n h l = go (eqb n (longest_of a)) refl
  where
    go : (t : Bool) → eqb n (longest_of a) ≡ t → eqb n (longest_of a) ≡ ltb limit (written_length a (n + 1))
    go true e = e ∙ sym (lt-ltb limit (written_length a (n + 1)) (beyond_most a h (n + 1) (omega (arith, eqb-true n (longest_of a) e, longest_known a h))))
    go false e =
        e ∙ sym (le-ltb limit (written_length a (n + 1)) ((within_most a h (n + 1)).1 (omega (arith, eqb-false n (longest_of a) e, longest_known a h, (within_most a h n).0 l))))

module _ (a n held : ℕ) (u : Status) where
  pub no_numbers : sound_numbers a n held ≡ false → false ≡ sound_by a n held u
  no_numbers e = sym (parted a n held u ∙ ap (λ (t : Bool). t && fits_status u a n) e)

  module _ (e : sound_numbers a n held ≡ true) where
    by_status : fits_status u a n ≡ sound_by a n held u
    by_status = sym (parted a n held u ∙ ap (λ (t : Bool). t && fits_status u a n) e)

    pub when_open : u ≡ U.Open → true ≡ sound_by a n held u
    unfolding fits_status
    when_open f = ap (λ (x : Status). fits_status x a n) (sym f) ∙ by_status

    pub when_done : u ≡ U.Done → true ≡ sound_by a n held u
    unfolding fits_status
    when_done f = ap (λ (x : Status). fits_status x a n) (sym f) ∙ by_status

    pub when_long : u ≡ U.TooLong → eqb n (longest_of a) ≡ sound_by a n held u
    unfolding fits_status
    when_long f =
        let s : Sound a n held = numbers.passes a n held e in
        next_exceeds a n s.known s.within ∙ ap (λ (x : Status). fits_status x a n) (sym f) ∙ by_status

-- as the code compares the status
abbrev differs : Status → Bool
differs u = not (sameb the_type u U.TooLong)

pub unless_long : (a n held : ℕ) (u : Status) → sound_numbers a n held ≡ true → differs u ≡ true → true ≡ sound_by a n held u
unless_long a n held U.Open e d = when_open a n held U.Open e refl
unless_long a n held U.TooLong e d = cc
unless_long a n held U.Done e d = when_done a n held U.Done e refl

pub where_long : (a n held : ℕ) (u : Status) → sound_numbers a n held ≡ true → differs u ≡ false → eqb n (longest_of a) ≡ sound_by a n held u
where_long a n held U.Open e d = cc
where_long a n held U.TooLong e d = when_long a n held U.TooLong e refl
where_long a n held U.Done e d = cc
