-- What the writer's functions promise: the equation that determines the result and the buffer at exit, and what 01 says of them. Assumes nothing.
use Rattle.std.specs.Prelude.{ℕ, ◌≡◌, List, ◌++◌, length, take}
use Rattle.answer.specs.declared.Kind.{Kind}
use Rattle.answer.specs.declared.Outcome.{Outcome}
use Rattle.answer.specs.declared.Stepped.{Stepped}
use Rattle.answer.specs.Told.{told}
use Rattle.spelling.specs.Front.{ending}
use Rattle.spelling.specs.Machine.{Run, run}
use Rattle.writing.specs.Stream.{at, Turn, unmoved, by_why, close, in_order, step_of, finish_of}
use Rattle.writing.specs.Numbers.{step_numbers, finish_numbers}
use Rattle.writing.specs.Moment.{After}
use Rattle.reading.specs.Buffer.{filled}
use Rattle.spelling.specs.Whole.{write_of}
use Rattle.writing.specs.declared.Status.TheVariants as U
use Rattle.writing.specs.declared.Ran.{Ran}
use Rattle.writing.specs.declared.front.Front.{Front}
use Rattle.writing.specs.declared.Writer.{Writer}

-- ---- between the functions

-- a run's answer r, and the buffer o, o' at entry and exit, are what the definition gives
pub record RanAs (R : Run) (r : Ran) (o o' : List ℕ) : Type 0 where
  pub held : r.held ≡ R.held
  pub why : r.why ≡ R.why
  pub taken : r.taken ≡ R.took
  pub written : r.written ≡ length R.wrote
  pub buffer : o' ≡ filled R.wrote o

-- what a call gives, as the code returns it
abbrev pub given : Writer → Outcome → ℕ → Stepped Writer
given s x n = record { state = s; told = record { outcome = x; taken = at n } }

abbrev pub as_stepped : Turn → Stepped Writer
as_stepped t = given t.state t.outcome t.took

-- an open writer with these numbers
abbrev pub opened : ℕ → ℕ → ℕ → Writer
opened a n held = record { alphabet = a; taken = n; held = held; status = U.Open }

-- the state is that of an open writer with the numbers of f, so a call gives what an open writer gives
pub record OpenAs (s : Writer) (f : Front) : Type 0 where
  pub state : s ≡ opened f.alphabet f.taken f.held
  pub goes_on : (t : Turn) → in_order s t ≡ t

-- each call on the state is refused so
abbrev pub ShutAs : Writer → Kind → Type 0
ShutAs s k = (t : Turn) → in_order s t ≡ unmoved s k

-- what a run over a piece gives, as a step of an open writer
abbrev pub moved_by : ℕ → ℕ → ℕ → List ℕ → ℕ → Turn
moved_by a n held piece room = by_why (run a n held piece room).why (opened a n held) (run a n held piece room)

pub record MovedAs (a n held : ℕ) (piece o o' : List ℕ) (r : Stepped Writer) : Type 0 where
  pub result : r ≡ as_stepped (moved_by a n held piece (length o))
  pub buffer : o' ≡ filled (moved_by a n held piece (length o)).wrote o

pub record ClosedAs (a n held : ℕ) (o o' : List ℕ) (r : Stepped Writer) : Type 0 where
  pub result : r ≡ as_stepped (close (opened a n held) (ending a n held) (length o))
  pub buffer : o' ≡ filled (close (opened a n held) (ending a n held) (length o)).wrote o

-- ---- the stream

-- the text that a call wrote, read off the buffer at exit
abbrev pub handed_out : Stepped Writer → List ℕ → List ℕ
handed_out r o' = take (told r.told.outcome).count o'

pub record SteppedAs (s : Writer) (piece o o' : List ℕ) (r : Stepped Writer) : Type 0 where
  pub result : r ≡ as_stepped (step_of s piece (length o))
  pub buffer : o' ≡ filled (step_of s piece (length o)).wrote o
  pub answer : told r.told.outcome ≡ step_numbers s piece (length o)
  -- after any source, the state and the text handed out are those of the source with what was taken
  pub moment : (src text : List ℕ) → After s src text → After r.state (src ++ take r.told.taken.0 piece) (text ++ handed_out r o')

pub record FinishedAs (s : Writer) (o o' : List ℕ) (r : Stepped Writer) : Type 0 where
  pub result : r ≡ as_stepped (finish_of s (length o))
  pub buffer : o' ≡ filled (finish_of s (length o)).wrote o
  pub answer : told r.told.outcome ≡ finish_numbers s (length o)
  -- after any source, the text handed out is the whole written form where the stream is finished, else as it was
  pub moment : (src text : List ℕ) → After s src text → After r.state src (text ++ handed_out r o')

-- ---- the whole call

pub record WroteAs (a : ℕ) (src o o' : List ℕ) (r : Outcome) : Type 0 where
  pub answer : told r ≡ (write_of a src (length o)).told
  pub buffer : o' ≡ filled (write_of a src (length o)).text o
