-- A state whose numbers fit together: the held bits are as many as the digits leave, and digits and pads are at most the bytes taken. Every
-- state that reading gives is one. Assumes nothing.
use Rattle.std.specs.Prelude.{ℕ, ◌^◌, ◌<◌, ◌≤◌}
use Rattle.reading.specs.Reader.{State, held_bits}

pub record Sound (a : ℕ) (s : State) : Type 0 where
  pub held : s.held < 2 ^ held_bits a s
  pub digits : s.digits ≤ s.taken
  pub pads : s.pads ≤ s.taken
