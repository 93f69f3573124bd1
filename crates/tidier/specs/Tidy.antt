-- 01, "Whole calls", the tidier: what it answers, what it writes, and what its call promises. The equations determine the answer and every byte
-- of the buffer; the other fields are what 01 shows of a verdict and of a tidied text. Assumes nothing.
use Rattle.std.specs.Prelude.{ℕ, ◌≡◌, cond, true, List, [], eqb, ltb, length}
use Rattle.answer.specs.declared.Outcome.{Outcome}
use Rattle.answer.specs.Told.{Told, told}
use Rattle.reading.specs.Options.{allowed}
use Rattle.reading.specs.Cleaning.{clean}
use Rattle.reading.specs.Reader.{Verdict, judged}
use Rattle.reading.specs.Promises.{Promised}
use Rattle.reading.specs.Tidying.{Tidied}
use Rattle.reading.specs.Buffer.{filled}
use Rattle.block.specs.Whole.{choice, no_room}

-- "The tidier: the judge's refusal first, nothing written; then 3 with the needed count, nothing written; else the cleaned text, the position
-- being the length read." "The count is 0 .. on every refusal of the tidier but 3."

unfoldable pub tidy_of : ℕ → ℕ → List ℕ → ℕ → Told
tidy_of a opts t room =
    let v : Verdict = judged a opts t in
    let need : ℕ = length (clean a opts t) in
    cond (allowed a opts)
    (cond (eqb v.answer 0)
    (cond (ltb room need) (no_room need) (record { answer = 0; position = length t; count = need }))
    (record { answer = v.answer; position = v.position; count = 0 }))
    choice

unfoldable pub tidy_text : ℕ → ℕ → List ℕ → ℕ → List ℕ
tidy_text a opts t room =
    let text : List ℕ = clean a opts t in
    cond (allowed a opts) (cond (eqb (judged a opts t).answer 0) (cond (ltb room (length text)) [] text) []) []

-- the tidier's answer r to the text t, and its buffer
pub record TidyAs (a opts : ℕ) (t o : List ℕ) (r : Outcome) (o' : List ℕ) : Type 0 where
  pub is : told r ≡ tidy_of a opts t (length o)
  pub buffer : o' ≡ filled (tidy_text a opts t (length o)) o
  pub promised : allowed a opts ≡ true → Promised a opts t (judged a opts t)
  pub tidied : (told r).answer ≡ 0 → Tidied a opts t (judged a opts t).good
