-- What holds where a part of a run is done, for the contracts of the loops over a piece. Assumes nothing.
use Rattle.std.specs.Prelude.{ℕ, ◌+◌, ◌-◌, ◌%◌, ◌<◌, ◌≤◌, ◌^◌, ◌≡◌, true, cond, List, ◌++◌, ltb, length, drop, set, Option, None, Some, Result, Ok, Err}
use Rattle.reading.specs.Options.{allowed}
use Rattle.reading.specs.Sound.{Sound}
use Rattle.reading.specs.Buffer.{filled}
use Rattle.reading.specs.Piece.{after, run}
use Rattle.rule.specs.declared.Core.{Core}
use Rattle.rule.specs.declared.Cause.{Cause}
use Rattle.engine.specs.declared.step.Taken.{Taken}
use Rattle.engine.specs.declared.digits.Passed.{Passed}
use Rattle.engine.specs.declared.piece.Why.TheVariants as W
use Rattle.engine.specs.declared.piece.Ran.{Ran}
use Rattle.rule.specs.Meaning.{state_of}
use Rattle.engine.specs.Ran.{ran_as}

-- i bytes are taken and the n bytes `wrote` are given, and what is left is the run of the rest from the state k into the room that is left
pub record Loop (a opts : ℕ) (piece : List ℕ) (start : Core) (room : ℕ) (k : Core) (i n : ℕ) (wrote : List ℕ) : Type 0 where
  pub within : i ≤ length piece
  pub size : length wrote ≡ n
  pub fits : n ≤ room
  pub same : run a opts piece (state_of start) room ≡ after i wrote (run a opts (drop i piece) (state_of k) (room - n))
  pub sound : Sound a (state_of k)
  pub place : k.taken ≡ start.taken + i

-- the same of a run into the buffer out₀, which is now out
pub record Filling (a opts : ℕ) (piece : List ℕ) (start : Core) (out₀ out : List ℕ) (k : Core) (i n : ℕ) : Type 0 where
  pub wrote : List ℕ
  pub loop : Loop a opts piece start (length out₀) k i n wrote
  pub front : out ≡ wrote ++ drop n out₀

-- what digits came to: a part of the run, whatever the options are
pub record Passes (a : ℕ) (k : Core) (piece out₀ out : List ℕ) (x : Passed) : Type 0 where
  pub fills : (opts : ℕ) → allowed a opts ≡ true → Filling a opts piece k out₀ out x.core x.took x.wrote

-- i digits more: of the byte h, the r low bits are held
abbrev pub core_at : Core → ℕ → ℕ → ℕ → Core
core_at k h r i = record { digits = k.digits + i; held = h % 2 ^ r; pads = 0; taken = k.taken + i }

abbrev pub passed_as : Core → ℕ → ℕ → ℕ → ℕ → Passed
passed_as k h r i n = record { core = core_at k h r i; took = i; wrote = n }

-- a run into the buffer came so far and goes on, or it stopped as the run over the whole piece does
pub record Reached (a opts : ℕ) (k : Core) (piece out₀ out : List ℕ) (r : Ran) : Type 0 where
  pub goes : r.why ≡ W.All → Filling a opts piece k out₀ out r.core r.took r.wrote
  pub is : (r.why ≡ W.All → ⊥) → r ≡ ran_as (run a opts piece (state_of k) (length out₀))
  pub bytes : (r.why ≡ W.All → ⊥) → out ≡ filled (run a opts piece (state_of k) (length out₀)).wrote out₀

-- the same, and some byte is taken where it goes on
pub record Stretch (a opts : ℕ) (k : Core) (piece out₀ out : List ℕ) (r : Ran) : Type 0 where
  pub reached : Reached a opts k piece out₀ out r
  pub some : r.why ≡ W.All → 0 < length piece → 0 < r.took

-- a part from i to e of a text that is so long
pub record Part (i e len : ℕ) : Type 0 where
  pub begins : i < e
  pub within : e ≤ len
  pub small : e ≤ i + 256

-- what a byte does after digits, in so much room: it is taken, and may complete a byte, or it is refused
unfoldable pub taken_as : Passed → Core → Option ℕ → ℕ → Ran
taken_as p c None room = record { core = c; why = W.All; took = p.took + 1; wrote = p.wrote }
taken_as p c (Some x) room =
    cond (ltb p.wrote room)
    (record { core = c; why = W.All; took = p.took + 1; wrote = p.wrote + 1 })
    (record { core = p.core; why = W.Full; took = p.took; wrote = p.wrote })

unfoldable pub put_as : Passed → Result Taken Cause → ℕ → Ran
put_as p (Ok t) room = taken_as p t.core t.byte room
put_as p (Err e) room = record { core = p.core; why = W.Refused e; took = p.took; wrote = p.wrote }

-- and the buffer then
unfoldable pub taken_in : Passed → Option ℕ → List ℕ → List ℕ
taken_in p None out = out
taken_in p (Some x) out = cond (ltb p.wrote (length out)) (set out p.wrote x) out

unfoldable pub put_in : Passed → Result Taken Cause → List ℕ → List ℕ
put_in p (Ok t) out = taken_in p t.byte out
put_in p (Err e) out = out
