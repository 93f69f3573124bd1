-- 01, "Whole calls": "Answer 1 comes first", and then what the judge, the reader into a second buffer and the reader in place answer and
-- write. Assumes nothing.
use Rattle.std.specs.Prelude.{ℕ, cond, List, [], ltb, length}
use Rattle.answer.specs.Told.{Told}
use Rattle.reading.specs.Options.{allowed}
use Rattle.reading.specs.Reader.{Verdict, judged}

-- "Answer 1 comes first"; "the count is 0 on every answer 1"
abbrev pub choice : Told
choice = record { answer = 1; position = 0; count = 0 }

-- "answer 3 with the needed count", at position 0 in whole calls
abbrev pub no_room : ℕ → Told
no_room need = record { answer = 3; position = 0; count = need }

-- answer, position and number of good bytes
abbrev pub verdict : Verdict → Told
verdict v = record { answer = v.answer; position = v.position; count = length v.good }

-- ---- "The judge returns answer, position and number of good bytes and writes nothing."

unfoldable pub judge_of : ℕ → ℕ → List ℕ → Told
judge_of a opts t = cond (allowed a opts) (verdict (judged a opts t)) choice

-- ---- "The reader into a second buffer: if the good bytes exceed the room, answer 3 with the needed count, nothing written, also for a refused
-- text; else the good bytes stand at the front of the buffer and the judge's answer is returned."

unfoldable pub read_of : ℕ → ℕ → List ℕ → ℕ → Told
read_of a opts t room =
    let good : List ℕ = (judged a opts t).good in
    cond (allowed a opts) (cond (ltb room (length good)) (no_room (length good)) (verdict (judged a opts t))) choice

unfoldable pub read_bytes : ℕ → ℕ → List ℕ → ℕ → List ℕ
read_bytes a opts t room =
    let good : List ℕ = (judged a opts t).good in
    cond (allowed a opts) (cond (ltb room (length good)) [] good) []

-- ---- "The reader in place works on one buffer that is all text: the good bytes stand at its front, every later byte is as before; room never
-- lacks." Its answer is the judge's.

unfoldable pub in_place_bytes : ℕ → ℕ → List ℕ → List ℕ
in_place_bytes a opts t = cond (allowed a opts) (judged a opts t).good []
