-- 01, "Streams": answer 9 is given exactly when no sequence of calls from a start gives that state. The sequences of calls, with the text that they
-- took and the bytes that they handed out, and the states that they give. Assumes nothing.
use Rattle.std.specs.Prelude.{ℕ, ◌≡◌, List, [], ◌++◌, take}
use Rattle.alphabet.specs.Bits.{Below}
use Rattle.streaming.specs.Stream.{Stream, started, start_of}
use Rattle.streaming.specs.Calls.{step_of, finish_of}

-- calls from a start with a and opts that took this text and handed out these bytes give the stream: steps with any piece and any room, and finishes
pub data Calls (a opts : ℕ) : List ℕ → List ℕ → Stream → Type 0 where
  begun : {s : Stream} → start_of a opts ≡ started s → Calls a opts [] [] s
  stepped : {t out : List ℕ} {s : Stream} → Calls a opts t out s → (piece : List ℕ) → Below 256 piece → (room : ℕ)
      → Calls a opts (t ++ take (step_of s piece room).took piece) (out ++ (step_of s piece room).wrote) (step_of s piece room).stream
  closed : {t out : List ℕ} {s : Stream} → Calls a opts t out s → Calls a opts t (out ++ (finish_of s).wrote) (finish_of s).stream

pub record Reachable (s : Stream) : Type 0 where
  pub alphabet : ℕ
  pub options : ℕ
  pub text : List ℕ
  pub out : List ℕ
  pub calls : Calls alphabet options text out s
