-- 01, "Streams", of the methods as they are called: "Each call hands the stream's state back by value, with the answer, the position, the bytes taken
-- in this call and the bytes written". What a result tells, the sequences of calls, and a text offered in pieces. Assumes nothing.
use Rattle.std.specs.Prelude.{ℕ, ◌≡◌, ◌⊎◌, List, [], ◌∷◌, ◌++◌, length, take, drop, Ok}
use Rattle.answer.specs.declared.Stepped.{Stepped}
use Rattle.answer.specs.Told.{told}
use Rattle.alphabet.specs.Bits.{Below}
use Rattle.reading.specs.Reader.{Verdict}
use Rattle.rule.specs.declared.Cause.{Cause}
use Rattle.states.specs.declared.Status.TheVariants as U
use Rattle.stream.specs.declared.reader.Reader.{Reader}
use Rattle.streaming.specs.Calls.{Called}
use Rattle.streaming.specs.Driving.{Offer, Driven}
use Rattle.stream.specs.Stepped.{stream_of, begun, stepped, written, finished}

-- ---- a result in 01's numbers

abbrev pub answer_of : Stepped Reader → ℕ
answer_of x = (told x.told.outcome).answer

abbrev pub position_of : Stepped Reader → ℕ
position_of x = (told x.told.outcome).position

abbrev pub count_of : Stepped Reader → ℕ
count_of x = (told x.told.outcome).count

abbrev pub took_of : Stepped Reader → ℕ
took_of x = x.told.taken.0

-- the result x, with the buffer at entry and at exit, tells the call c; bytes past the count written are not changed
pub record Tells (x : Stepped Reader) (out out' : List ℕ) (c : Called) : Type 0 where
  pub stream : stream_of x.state ≡ c.stream
  pub answer : answer_of x ≡ c.answer
  pub position : position_of x ≡ c.position
  pub took : took_of x ≡ c.took
  pub count : count_of x ≡ length c.wrote
  pub wrote : take (count_of x) out' ≡ c.wrote
  pub rest : drop (count_of x) out' ≡ drop (count_of x) out

-- the bytes that a step handed out, read off the buffer at exit
abbrev pub handed_out : Reader → List ℕ → List ℕ → List ℕ
handed_out r piece out = take (count_of (stepped r piece out)) (written r piece out)

-- ---- sequences of calls

-- calls from a start with a and opts that took this text and handed out these bytes leave the reader
pub data Made (a opts : ℕ) : List ℕ → List ℕ → Reader → Type 0 where
  starts : {r : Reader} → begun a opts ≡ Ok r → Made a opts [] [] r
  steps : {t out : List ℕ} {r : Reader} → Made a opts t out r → (piece : List ℕ) → Below 256 piece → (buffer : List ℕ)
      → Made a opts (t ++ take (took_of (stepped r piece buffer)) piece) (out ++ handed_out r piece buffer) (stepped r piece buffer).state
  finishes : {t out : List ℕ} {r : Reader} → Made a opts t out r → Made a opts t out (finished r).state

pub record Reached (r : Reader) : Type 0 where
  pub alphabet : ℕ
  pub options : ℕ
  pub text : List ℕ
  pub out : List ℕ
  pub made : Made alphabet options text out r

-- ---- a text offered in pieces

-- one call: so many bytes of the text that is left, or all, and this buffer
pub record Lent : Type 0 where
  pub size : ℕ
  pub buffer : List ℕ

-- the reader, the text that it has not taken, and the bytes handed out, joined
pub record Held : Type 0 where
  pub reader : Reader
  pub left : List ℕ
  pub out : List ℕ

abbrev pub begins : Reader → List ℕ → Held
begins r text = record { reader = r; left = text; out = [] }

unfoldable pub offer_by : Lent → Held → Held
offer_by l h =
    let piece : List ℕ = take l.size h.left in
    let x : Stepped Reader = stepped h.reader piece l.buffer in
    record { reader = x.state; left = drop (took_of x) h.left; out = h.out ++ handed_out h.reader piece l.buffer }

unfoldable pub drive_by : List Lent → Held → Held
drive_by [] h = h
drive_by (l ∷ ls) h = drive_by ls (offer_by l h)

-- the same of the stream
abbrev pub offer_of : Lent → Offer
offer_of l = record { size = l.size; room = length l.buffer }

abbrev pub driven_of : Held → Driven
driven_of h = record { stream = stream_of h.reader; left = h.left; out = h.out }

-- a byte was refused
pub record ShutBy (r : Reader) : Type 0 where
  pub cause : Cause
  pub is : r.status ≡ U.Shut cause

-- every byte was taken, or one was refused
abbrev pub SettledBy : Held → Type 0
SettledBy h = (h.left ≡ []) ⊎ ShutBy h.reader

-- what a finish then tells, with the bytes joined
abbrev pub verdict_by : Held → Verdict
verdict_by h = record { answer = answer_of (finished h.reader); position = position_of (finished h.reader); good = h.out }
