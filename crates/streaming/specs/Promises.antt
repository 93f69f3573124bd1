-- 01, "Streams" and "How much a contract has to say": what is shown of a reader's stream, whatever calls were made, against the cleaning and the
-- continuations. Assumes nothing.
use Rattle.std.specs.Prelude.{ℕ, ◌+◌, ◌<◌, ◌≤◌, ◌≡◌, ◌⊎◌, ◌↔◌, List, [], ◌++◌, length, take, get_or}
use Rattle.reading.specs.Limit.{limit}
use Rattle.reading.specs.Continuation.{Continued, LongestShared}
use Rattle.reading.specs.Reader.{State, gives, refuses, going, fresh, step, feed_all, Verdict, judged}
use Rattle.reading.specs.Promises.{Promised}
use Rattle.streaming.specs.Stream.{live, shut, done, Stream}
use Rattle.streaming.specs.Calls.{Called, unmoved, step_of, finish_of}
use Rattle.streaming.specs.Reached.{Reachable}
use Rattle.streaming.specs.Driving.{Driven, Refused}

-- every call on the stream gives this answer at this position, takes and writes nothing and returns it unchanged
pub record Sticks (s : Stream) (k i : ℕ) : Type 0 where
  pub step : (piece : List ℕ) (room : ℕ) → step_of s piece room ≡ unmoved s k i
  pub finish : finish_of s ≡ unmoved s k i

-- what a call leaves: an earlier refusal is given again at the same position, and after a finish that answered 0 the stream is finished
pub record GivenAgain (c : Called) : Type 0 where
  pub refused : {k : ℕ} → c.stream.status ≡ shut k → Sticks c.stream c.answer c.position
  pub finished : c.stream.status ≡ done → Sticks c.stream 10 0

-- answer 9 exactly when no sequence of calls from a start gives the state, whatever is offered and whatever the room
pub record NineExactly (s : Stream) : Type 0 where
  pub step : (piece : List ℕ) (room : ℕ) → ((step_of s piece room).answer ≡ 9) ↔ (Reachable s → ⊥)
  pub finish : ((finish_of s).answer ≡ 9) ↔ (Reachable s → ⊥)

-- at each moment: the state is that of the text taken, and the bytes handed out are exactly what all its accepted continuations share
pub record AfterCalls (a opts : ℕ) (t out : List ℕ) (s : Stream) : Type 0 where
  pub alphabet : s.alphabet ≡ a
  pub options : s.options ≡ opts
  pub reads : feed_all a opts (going fresh []) t ≡ going s.state out
  pub taken : s.state.taken ≡ length t
  pub within : length t ≤ limit
  pub continued : Continued a opts t
  pub shared : LongestShared a opts t out

-- ---- a text offered in pieces

-- what a finish after all this tells, with the bytes joined
abbrev pub finish_verdict : Driven → Verdict
finish_verdict d = record { answer = (finish_of d.stream).answer; position = (finish_of d.stream).position; good = d.out ++ (finish_of d.stream).wrote }

-- joined bytes, answer and position are those of the whole text, with all that is promised of them; and after answer 0 the stream is finished
pub record Settles (a opts : ℕ) (text : List ℕ) (d : Driven) : Type 0 where
  pub whole : finish_verdict d ≡ judged a opts text
  pub promised : Promised a opts text (finish_verdict d)
  pub finished : (finish_verdict d).answer ≡ 0 → (finish_of d.stream).stream.status ≡ done

-- ---- one step

-- the whole piece is taken
pub record TookAll (piece : List ℕ) (c : Called) : Type 0 where
  pub answer : c.answer ≡ 0
  pub took : c.took ≡ length piece
  pub goes : c.stream.status ≡ live

-- the next byte is refused: with 2 at the limit, whatever it is, else by the reader's rule
pub record RefusedNext (a opts : ℕ) (piece : List ℕ) (c : Called) : Type 0 where
  pub status : c.stream.status ≡ shut c.answer
  pub inside : c.took < length piece
  pub place : c.position ≡ c.stream.state.taken
  pub why : ((c.answer ≡ 2) × (c.position ≡ limit)) ⊎ ((c.position < limit) × (step a opts c.stream.state (get_or piece c.took 0) ≡ refuses c.answer))

-- the next byte would complete a byte, and the room is full
pub record NextNeedsRoom (a opts : ℕ) (piece : List ℕ) (room : ℕ) (c : Called) : Type 0 where
  pub answer : c.answer ≡ 3
  pub inside : c.took < length piece
  pub place : c.position ≡ c.stream.state.taken
  pub before : c.position < limit
  pub full : length c.wrote ≡ room
  pub byte : ℕ
  pub next : State
  pub needs : step a opts c.stream.state (get_or piece c.took 0) ≡ gives byte next
  pub goes : c.stream.status ≡ live

-- a step stops only when the piece is taken, a byte is refused or the room is full for the byte that needs it; with room for a byte and a byte
-- offered it takes one or refuses
pub record GoesOn (s : Stream) (piece : List ℕ) (room : ℕ) : Type 0 where
  pub stops :
      TookAll piece (step_of s piece room)
      ⊎ (RefusedNext s.alphabet s.options piece (step_of s piece room) ⊎ NextNeedsRoom s.alphabet s.options piece room (step_of s piece room))
  pub moves : 0 < length piece → 0 < room → (0 < (step_of s piece room).took) ⊎ Refused (step_of s piece room).stream
  pub within : (step_of s piece room).took ≤ length piece
  pub fits : length (step_of s piece room).wrote ≤ room

-- what is taken can go on to an accepted text; and where a step stopped before the limit, the next byte is refused exactly when no continuation could
-- save the text with it
pub record RefusesExactly (a opts : ℕ) (t piece : List ℕ) (c : Called) : Type 0 where
  pub continued : Continued a opts (t ++ take c.took piece)
  pub exactly : c.took < length piece → c.position < limit
      → ((4 ≤ c.answer) × (c.answer ≤ 7)) ↔ (Continued a opts (t ++ take (c.took + 1) piece) → ⊥)
