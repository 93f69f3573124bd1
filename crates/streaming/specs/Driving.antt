-- 01, "Streams": a text offered in pieces, and again what was not taken, into any room at each call. Assumes nothing.
use Rattle.std.specs.Prelude.{ℕ, ◌<◌, ◌≡◌, ◌⊎◌, List, [], ◌∷◌, ◌++◌, take, drop}
use Rattle.streaming.specs.Stream.{shut, Stream}
use Rattle.streaming.specs.Calls.{Called, step_of}

-- one call: so many bytes of the text that is left, or all, into so much room
pub record Offer : Type 0 where
  pub size : ℕ
  pub room : ℕ

-- the stream, the text that it has not taken, and the bytes handed out, joined
pub record Driven : Type 0 where
  pub stream : Stream
  pub left : List ℕ
  pub out : List ℕ

abbrev pub begin : Stream → List ℕ → Driven
begin s text = record { stream = s; left = text; out = [] }

unfoldable pub told : Driven → Called → Driven
told d c = record { stream = c.stream; left = drop c.took d.left; out = d.out ++ c.wrote }

unfoldable pub offer : Offer → Driven → Driven
offer o d = told d (step_of d.stream (take o.size d.left) o.room)

unfoldable pub drive : List Offer → Driven → Driven
drive [] d = d
drive (o ∷ os) d = drive os (offer o d)

-- each call offers a byte, where one is left, and has room for one
abbrev pub Offering : List Offer → Type 0
Offering [] = Unit {0}
Offering (o ∷ os) = (0 < o.size) × (0 < o.room) × Offering os

-- a byte was refused
pub record Refused (s : Stream) : Type 0 where
  pub answer : ℕ
  pub is : s.status ≡ shut answer

-- every byte was taken, or one was refused
abbrev pub Settled : Driven → Type 0
Settled d = (d.left ≡ []) ⊎ Refused d.stream
