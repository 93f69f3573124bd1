-- 01, "Whole calls": what each call promises. The equations determine the answer and every byte of the buffer, "bytes past the count written are
-- never changed"; the other field is what 01 shows of a verdict. Assumes nothing.
use Rattle.std.specs.Prelude.{ℕ, ◌≡◌, true, List, length}
use Rattle.answer.specs.declared.Outcome.{Outcome}
use Rattle.answer.specs.Told.{told}
use Rattle.reading.specs.Options.{allowed}
use Rattle.reading.specs.Reader.{judged}
use Rattle.reading.specs.Promises.{Promised}
use Rattle.reading.specs.Buffer.{filled}
use Rattle.block.specs.Whole.{judge_of, read_of, read_bytes, in_place_bytes}

-- the judge's answer r to the text t
pub record JudgeAs (a opts : ℕ) (t : List ℕ) (r : Outcome) : Type 0 where
  pub is : told r ≡ judge_of a opts t
  pub promised : allowed a opts ≡ true → Promised a opts t (judged a opts t)

-- the reader's answer r to the text t, and its buffer: o at entry, o' at exit
pub record ReadAs (a opts : ℕ) (t o : List ℕ) (r : Outcome) (o' : List ℕ) : Type 0 where
  pub is : told r ≡ read_of a opts t (length o)
  pub buffer : o' ≡ filled (read_bytes a opts t (length o)) o
  pub promised : allowed a opts ≡ true → Promised a opts t (judged a opts t)

-- the answer r in place: the buffer is the text t at entry, o' at exit
pub record InPlaceAs (a opts : ℕ) (t : List ℕ) (r : Outcome) (o' : List ℕ) : Type 0 where
  pub is : told r ≡ judge_of a opts t
  pub buffer : o' ≡ filled (in_place_bytes a opts t) t
  pub promised : allowed a opts ≡ true → Promised a opts t (judged a opts t)
