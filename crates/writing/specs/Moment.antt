-- 01, "Streams": "Answer 9 is given exactly when no sequence of calls from a start gives that state", and the text at each moment: "After n bytes,
-- floor(8n/b) digits have been written." Calls from a start, and what a state and the text handed out are after a source. Assumes nothing.
use Rattle.std.specs.Prelude.{ℕ, ◌<◌, ◌≤◌, ◌≡◌, List, [], ◌∷◌, ◌++◌, length, take, Ok}
use Rattle.alphabet.specs.Bits.{Below}
use Rattle.alphabet.specs.Alphabet.{bits}
use Rattle.alphabet.specs.Written.{written}
use Rattle.reading.specs.Limit.{limit}
use Rattle.spelling.specs.Front.{front, held_of}
use Rattle.writing.specs.Stream.{start_of, step_of, finish_of}
use Rattle.writing.specs.declared.Status.{Status}
use Rattle.writing.specs.declared.Status.TheVariants as U
use Rattle.writing.specs.declared.Writer.{Writer}

-- calls from a start: the source that they took, the text that they handed out, and the state that they gave
pub data Calls : List ℕ → List ℕ → Writer → Type 0 where
  start : {s : Writer} (a : ℕ) → start_of a ≡ Ok s → Calls [] [] s
  step : {src text : List ℕ} {s : Writer} → Calls src text s → (piece : List ℕ) → Below 256 piece → (room : ℕ)
      → Calls (src ++ take (step_of s piece room).took piece) (text ++ (step_of s piece room).wrote) (step_of s piece room).state
  finish : {src text : List ℕ} {s : Writer} → Calls src text s → (room : ℕ) → Calls src (text ++ (finish_of s room).wrote) (finish_of s room).state

-- some calls give the state
pub record Reachable (s : Writer) : Type 0 where
  pub source : List ℕ
  pub text : List ℕ
  pub calls : Calls source text s

-- the text that was handed out for a source: its front, and after a finish the whole written form
unfoldable pub handed : Status → ℕ → List ℕ → List ℕ
handed U.Open a src = front a src
handed U.TooLong a src = front a src
handed U.Done a src = written a src

-- the state after a source, with the text handed out
pub record After (s : Writer) (src text : List ℕ) : Type 0 where
  pub known : s.alphabet < 6
  pub taken : s.taken ≡ length src
  pub held : s.held ≡ held_of (bits s.alphabet) src
  pub within : length (written s.alphabet src) ≤ limit
  pub shut : s.status ≡ U.TooLong → (c : ℕ) → limit < length (written s.alphabet (src ++ c ∷ []))
  pub text_is : text ≡ handed s.status s.alphabet src
