-- 01, "Texts with known outcomes", of a stream: Zm9v offered with room 1 takes 2, writes f, answers 3 at 2; the rest with room 2 takes 2, writes oo,
-- answers 0. Assumes nothing.
use Rattle.std.specs.Prelude.{ℕ, Bool, ◌&&◌, eqb}
use Prim.Native.String.{String}
use Rattle.alphabet.specs.Ascii.{ascii}
use Rattle.reading.specs.Known.{same}
use Rattle.streaming.specs.Stream.{fresh_stream}
use Rattle.streaming.specs.Calls.{Called, step_of}

-- the call takes so many bytes, writes these, and gives this answer at this position
unfoldable pub gave_out : Called → ℕ → String → ℕ → ℕ → Bool
gave_out c n text k i = eqb c.took n && same c.wrote (ascii text) && eqb c.answer k && eqb c.position i

unfoldable pub first : Called
first = step_of (fresh_stream 0 0) (ascii "Zm9v") 1

unfoldable pub second : Called
second = step_of first.stream (ascii "9v") 2

unfoldable pub streamed : Bool
streamed = gave_out first 2 "f" 3 2 && gave_out second 2 "oo" 0 4
