-- One byte late: what becomes of the byte that a state holds.
use Rattle.std.specs.Prelude.{ℕ, ◌≡◌, List, slice_index, slice_set}
use Rattle.lentlaw.specs.declared.delay.Delay.{Delay}
use Rattle.lentlaw.specs.declared.delay.Made.{Made}

-- the byte that is held now, and the one that is told
abbrev pub made : ℕ → ℕ → Made
made b t = record { state = record { byte = b }; told = t }

-- a step holds the first byte of the piece, and tells and writes the one that was held
abbrev pub Stepped : Delay → List ℕ → List ℕ → Made → List ℕ → Type 0
Stepped s piece out x out' = (x ≡ made (slice_index piece 0) s.byte) × (out' ≡ slice_set out 0 s.byte)

-- a finish holds no byte
abbrev pub Finished : Delay → Made → Type 0
Finished s x = x ≡ made 0 s.byte

-- a finish that writes
abbrev pub Written : Delay → List ℕ → Made → List ℕ → Type 0
Written s out x out' = (x ≡ made 0 s.byte) × (out' ≡ slice_set out 0 s.byte)
