-- 01, "Whole calls": "if the good bytes exceed the room, answer 3 with the needed count". What the reader asks of the room before it writes: "the
-- good bytes are the first floor(b*d/8) bytes", so a text has no more of them than its length, up to the limit, gives. Assumes nothing.
use Rattle.std.specs.Prelude.{ℕ, ◌*◌, ◌/◌, cond, List, ltb, leb, length}
use Rattle.alphabet.specs.Alphabet.{bits}
use Rattle.reading.specs.Limit.{limit}
use Rattle.reading.specs.Reader.{judged}

-- the most good bytes that n bytes of text have
unfoldable pub most_of : ℕ → ℕ → ℕ
most_of a n = cond (ltb n limit) (bits a * n / 8) (bits a * limit / 8)

-- what the room is asked to hold: nothing where it certainly suffices, else the good bytes
unfoldable pub needed_of : ℕ → ℕ → List ℕ → ℕ → ℕ
needed_of a opts t room = cond (leb (most_of a (length t)) room) 0 (length (judged a opts t).good)
