-- 01, "Streams": what is promised of the results of `Reader::step` and `Reader::finish`, and of a text offered in pieces. Each promise of Promises
-- is of the call that the result tells. Assumes nothing.
use Rattle.std.specs.Prelude.{ℕ, ◌≡◌, ◌↔◌, List, [], ◌++◌, length, take}
use Rattle.alphabet.specs.Bits.{Below}
use Rattle.reading.specs.Reader.{judged}
use Rattle.reading.specs.Promises.{Promised}
use Rattle.states.specs.declared.Status.TheVariants as U
use Rattle.stream.specs.declared.reader.Reader.{Reader}
use Rattle.streaming.specs.Calls.{step_of, finish_of}
use Rattle.streaming.specs.Promises.{GivenAgain, AfterCalls, GoesOn, RefusesExactly}
use Rattle.stream.specs.Stepped.{stream_of, stepped, written, finished}
use Rattle.stream.specs.Made.{answer_of, took_of, handed_out, Tells, Made, Reached, Held, verdict_by}

pub record StepCarried (r : Reader) (piece out : List ℕ) : Type 0 where
  pub tells : Tells (stepped r piece out) out (written r piece out) (step_of (stream_of r) piece (length out))
  -- answer 9 exactly when no calls of the methods leave the state
  pub nine : (answer_of (stepped r piece out) ≡ 9) ↔ (Reached r → ⊥)
  -- after any calls: the state is that of the text taken, and the bytes handed out are what all its accepted continuations share
  pub moment : {a opts : ℕ} {t before : List ℕ} → Made a opts t before r → Below 256 piece
      → AfterCalls a opts (t ++ take (took_of (stepped r piece out)) piece) (before ++ handed_out r piece out) (stream_of (stepped r piece out).state)
  pub exactly : {a opts : ℕ} {t before : List ℕ} → Made a opts t before r → r.status ≡ U.Open → Below 256 piece
      → RefusesExactly a opts t piece (step_of (stream_of r) piece (length out))
  pub goes_on_law : Reached r → r.status ≡ U.Open → GoesOn (stream_of r) piece (length out)
  pub again : Reached r → Below 256 piece → GivenAgain (step_of (stream_of r) piece (length out))

pub record FinishCarried (r : Reader) : Type 0 where
  pub tells : Tells (finished r) [] [] (finish_of (stream_of r))
  pub nine : (answer_of (finished r) ≡ 9) ↔ (Reached r → ⊥)
  pub moment : {a opts : ℕ} {t before : List ℕ} → Made a opts t before r → AfterCalls a opts t before (stream_of (finished r).state)
  pub again : Reached r → GivenAgain (finish_of (stream_of r))

-- joined bytes, answer and position are those of the whole text, with all that is promised of them; and after answer 0 the stream is finished
pub record SettlesBy (a opts : ℕ) (text : List ℕ) (h : Held) : Type 0 where
  pub whole : verdict_by h ≡ judged a opts text
  pub promised : Promised a opts text (verdict_by h)
  pub finishes : answer_of (finished h.reader) ≡ 0 → (finished h.reader).state.status ≡ U.Done
