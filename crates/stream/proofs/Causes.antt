-- The numbers that a refusal can have are those of the engine's causes, and answer, status and state turn into the code's types and back. Assumes
-- nothing.
use Prim.Native.Nat.{ℕ}
use mathlib.Core.Path.{◌≡◌, refl, ap, subst}
use mathlib.Core.Logic.{◌⊎◌, inl, inr}
use mathlib.Core.Bool.{false}
use lib.Dec.{eqb}
use Rattle.answer.specs.declared.Outcome.TheVariants as O
use Rattle.reading.specs.Reader.{State}
use Rattle.reading.proofs.Refusals.{Blame, foreign, misplaced, spare, late, Ended, whole, short}
use Rattle.rule.specs.declared.Cause.{Cause}
use Rattle.rule.specs.declared.Cause.TheVariants as C
use Rattle.rule.specs.Meaning.{kind_by, number, cause_of}
use Rattle.rule.proofs.Causes.{long_number, foreign_number, pad_number, spare_number, after_number, short_number, cause_back}
use Rattle.states.specs.declared.Status.{Status}
use Rattle.states.specs.declared.Status.TheVariants as U
use Rattle.stream.specs.declared.reader.Reader.{Reader}
use Rattle.states.specs.Status.{status_of}
use Rattle.stream.specs.Stepped.{status_as, stream_of, reader_of, place, count, kind_of, outcome_of}

-- the number of some cause
pub record IsCause (k : ℕ) : Type 0 where
  pub cause : Cause
  pub is : number cause ≡ k

pub long_cause : IsCause 2
long_cause = record { cause = C.TooLong; is = long_number }

pub blame_cause : {a opts : ℕ} {s : State} {k : ℕ} → Blame a opts s k → IsCause k
blame_cause foreign = record { cause = C.Foreign; is = foreign_number }
blame_cause (misplaced p e f) = record { cause = C.PadPlace; is = pad_number }
blame_cause (spare x) = record { cause = C.Spare; is = spare_number }
blame_cause (late l) = record { cause = C.AfterPad; is = after_number }

pub some_number : (c : Cause) → eqb (number c) 0 ≡ false
some_number C.TooLong = rw long_number
some_number C.Foreign = rw foreign_number
some_number C.PadPlace = rw pad_number
some_number C.Spare = rw spare_number
some_number C.AfterPad = rw after_number
some_number C.Short = rw short_number

-- ---- there and back

pub number_back : {k : ℕ} → IsCause k → number (cause_of k) ≡ k
number_back x = subst (λ (j : ℕ). number (cause_of j) ≡ j) x.is (ap number (cause_back x.cause))

pub status_back : (u : Status) → status_as (status_of u) ≡ u
unfolding status_as status_of
status_back U.Open = refl
status_back (U.Shut c) = ap U.Shut (cause_back c)
status_back U.Done = refl

pub reader_back : (r : Reader) → reader_of (stream_of r) ≡ r
reader_back r = rw (status_back r.status)

-- ---- the answer of a cause

pub refused_outcome : (c : Cause) (i n : ℕ) → outcome_of (number c) i n ≡ O.Refused (kind_by c (place i)) (count n)
unfolding outcome_of kind_of
refused_outcome C.TooLong i n = rw (cause_back C.TooLong, long_number)
refused_outcome C.Foreign i n = rw (cause_back C.Foreign, foreign_number)
refused_outcome C.PadPlace i n = rw (cause_back C.PadPlace, pad_number)
refused_outcome C.Spare i n = rw (cause_back C.Spare, spare_number)
refused_outcome C.AfterPad i n = rw (cause_back C.AfterPad, after_number)
refused_outcome C.Short i n = rw (cause_back C.Short, short_number)

pub cause_outcome : {k : ℕ} → IsCause k → (i n : ℕ) → outcome_of k i n ≡ O.Refused (kind_by (cause_of k) (place i)) (count n)
cause_outcome x i n =
    subst (λ (k : ℕ). outcome_of k i n ≡ O.Refused (kind_by (cause_of k) (place i)) (count n)) x.is
    (rw (cause_back x.cause) (refused_outcome x.cause i n))

-- the end is accepted, or is refused with a cause
pub ended_cause : {a opts : ℕ} {s : State} {k : ℕ} → Ended a opts s k → (k ≡ 0) ⊎ IsCause k
ended_cause whole = inl refl
ended_cause (spare x n) = inr (record { cause = C.Spare; is = spare_number })
ended_cause short = inr (record { cause = C.Short; is = short_number })
