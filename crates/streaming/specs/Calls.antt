-- 01, "Streams": each call hands the stream's state back by value, with the answer, the position, the bytes taken in this call and the bytes
-- written. Order in a call: 9, then 10, then an earlier refusal other than 3, which is given again with the same position; all three take and write
-- nothing and return the state unchanged. Assumes nothing.
use Rattle.std.specs.Prelude.{ℕ, cond, List, [], eqb}
use Rattle.reading.specs.Reader.{State, ending}
use Rattle.reading.specs.Piece.{Why, all, refused, full, Ran, run_piece}
use Rattle.streaming.specs.Stream.{Status, live, shut, done, Stream}
use Rattle.streaming.specs.Given.{given}

pub record Called : Type 0 where
  pub stream : Stream
  pub answer : ℕ
  pub position : ℕ
  pub took : ℕ
  pub wrote : List ℕ

-- an answer that takes and writes nothing and returns the state unchanged
abbrev pub unmoved : Stream → ℕ → ℕ → Called
unmoved s k i = record { stream = s; answer = k; position = i; took = 0; wrote = [] }

-- 10, then an earlier refusal again, at the bytes taken; else what a stream that goes on gives
unfoldable pub by_status : Status → Stream → Called → Called
by_status live s c = c
by_status (shut k) s c = unmoved s k s.state.taken
by_status done s c = unmoved s 10 0

-- 9 before all
unfoldable pub in_order : Stream → Called → Called
in_order s c = cond (given s) (by_status s.status s c) (unmoved s 9 0)

abbrev pub moved : Stream → State → Status → Stream
moved s n u = record { alphabet = s.alphabet; options = s.options; state = n; status = u }

-- a reader's step takes bytes until the piece is taken (0), a byte is refused, or 3
unfoldable pub why_status : Why → Status
why_status all = live
why_status (refused k) = shut k
why_status full = live

unfoldable pub why_answer : Why → ℕ
why_answer all = 0
why_answer (refused k) = k
why_answer full = 3

unfoldable pub ran : Stream → Ran → Called
ran s r =
    record {
      stream = moved s r.state (why_status r.why);
      answer = why_answer r.why;
      position = r.state.taken;
      took = r.took;
      wrote = r.wrote;
    }

unfoldable pub step_of : Stream → List ℕ → ℕ → Called
step_of s piece room = in_order s (ran s (run_piece s.alphabet s.options piece s.state room))

-- a reader's finish treats the bytes taken as the whole text and writes nothing
unfoldable pub end_status : ℕ → Status
end_status k = cond (eqb k 0) done (shut k)

unfoldable pub closes : Stream → ℕ → Called
closes s k = record { stream = moved s s.state (end_status k); answer = k; position = s.state.taken; took = 0; wrote = [] }

unfoldable pub finish_of : Stream → Called
finish_of s = in_order s (closes s (ending s.alphabet s.options s.state))
