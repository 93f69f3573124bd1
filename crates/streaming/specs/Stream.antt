-- 01, "Streams": a start takes alphabet and options and gives answer 1 and no state, or a fresh state; an earlier refusal is given again; after
-- answer 0 of a finish the stream is finished. Assumes nothing.
use Rattle.std.specs.Prelude.{ℕ, cond}
use Rattle.reading.specs.Options.{allowed}
use Rattle.reading.specs.Reader.{State, fresh}

-- a stream goes on, has refused with this answer, or is finished
pub data Status : Type 0 where
  live : Status
  shut : ℕ → Status
  done : Status

-- a refusal's position is not kept: it is the number of bytes taken
pub record Stream : Type 0 where
  pub alphabet : ℕ
  pub options : ℕ
  pub state : State
  pub status : Status

-- answer 1 and no state, or answer 0 and a fresh one; both at position 0
pub data Start : Type 0 where
  declined : Start
  started : Stream → Start

abbrev pub fresh_stream : ℕ → ℕ → Stream
fresh_stream a opts = record { alphabet = a; options = opts; state = fresh; status = live }

unfoldable pub start_of : ℕ → ℕ → Start
start_of a opts = cond (allowed a opts) (started (fresh_stream a opts)) declined

unfoldable pub start_answer : Start → ℕ
start_answer declined = 1
start_answer (started s) = 0
