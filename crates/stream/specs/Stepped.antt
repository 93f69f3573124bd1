-- 01, "Streams": what start, step and finish of the reader's stream return, in the code's types: "Each call hands the stream's state back by value,
-- with the answer, the position, the bytes taken in this call and the bytes written"; "bytes past the count written are never changed". Assumes nothing.
use Rattle.std.specs.Prelude.{ℕ, cond, List, eqb, length, Result, Ok, Err}
use Rattle.answer.specs.declared.Place.{Place}
use Rattle.answer.specs.declared.Count.{Count}
use Rattle.answer.specs.declared.Kind.{Kind}
use Rattle.answer.specs.declared.Kind.TheVariants as K
use Rattle.answer.specs.declared.Outcome.{Outcome}
use Rattle.answer.specs.declared.Outcome.TheVariants as O
use Rattle.answer.specs.declared.Stepped.{Stepped}
use Rattle.rule.specs.Meaning.{kind_by, state_of, core_of, cause_of}
use Rattle.reading.specs.Buffer.{filled}
use Rattle.states.specs.Status.{status_of}
use Rattle.states.specs.declared.Status.{Status}
use Rattle.states.specs.declared.Status.TheVariants as U
use Rattle.stream.specs.declared.reader.Reader.{Reader}
use Rattle.streaming.specs.Stream as S
use Rattle.streaming.specs.Stream.{Stream, start_of}
use Rattle.streaming.specs.Calls.{Called, step_of, finish_of}

-- ---- the state

unfoldable pub status_as : S.Status → Status
status_as S.live = U.Open
status_as (S.shut k) = U.Shut (cause_of k)
status_as S.done = U.Done

-- the stream that a reader stands for, and the reader of a stream
abbrev pub stream_of : Reader → Stream
stream_of r = record { alphabet = r.choice.alphabet; options = r.choice.options; state = state_of r.core; status = status_of r.status }

abbrev pub reader_of : Stream → Reader
reader_of s = record { choice = record { alphabet = s.alphabet; options = s.options }; core = core_of s.state; status = status_as s.status }

-- ---- the answer

abbrev pub place : ℕ → Place
place i = record { 0 = i }

abbrev pub count : ℕ → Count
count n = record { 0 = n }

-- the refusal of 01's number: 3, 9, 10, and the others by their cause
unfoldable pub kind_of : ℕ → ℕ → Kind
kind_of k i = cond (eqb k 3) (K.NoRoom (place i)) (cond (eqb k 9) K.BadState (cond (eqb k 10) K.Finished (kind_by (cause_of k) (place i))))

unfoldable pub outcome_of : ℕ → ℕ → ℕ → Outcome
outcome_of k i n = cond (eqb k 0) (O.Accepted (place i) (count n)) (O.Refused (kind_of k i) (count n))

-- ---- the calls

abbrev pub returned : Called → Stepped Reader
returned c =
    record {
      state = reader_of c.stream;
      told = record { outcome = outcome_of c.answer c.position (length c.wrote); taken = place c.took };
    }

-- a step with this piece and this buffer at entry, and the buffer at exit
unfoldable pub stepped : Reader → List ℕ → List ℕ → Stepped Reader
stepped r piece out = returned (step_of (stream_of r) piece (length out))

unfoldable pub written : Reader → List ℕ → List ℕ → List ℕ
written r piece out = filled (step_of (stream_of r) piece (length out)).wrote out

unfoldable pub finished : Reader → Stepped Reader
finished r = returned (finish_of (stream_of r))

unfoldable pub start_as : S.Start → Result Reader Kind
start_as S.declined = Err K.Choice
start_as (S.started s) = Ok (reader_of s)

unfoldable pub begun : ℕ → ℕ → Result Reader Kind
begun a opts = start_as (start_of a opts)
