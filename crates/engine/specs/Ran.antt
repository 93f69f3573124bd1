-- What a run over a piece gives, in the engine's types: the definitions of `reading` (Piece) with the answer's shape, and the buffer.
-- Assumes nothing.
use Rattle.std.specs.Prelude.{ℕ, ◌+◌, ◌-◌, ◌≤◌, Bool, false, cond, List, [], ltb, length}
use Rattle.reading.specs.Options.{allowed}
use Rattle.reading.specs.Limit.{limit}
use Rattle.reading.specs.Reader.{fresh}
use Rattle.reading.specs.Sound.{Sound}
use Rattle.reading.specs.Piece as P
use Rattle.reading.specs.Piece.{run_piece}
use Rattle.rule.specs.declared.choice.Choice.{Choice}
use Rattle.rule.specs.declared.Core.{Core}
use Rattle.rule.specs.declared.Cause.TheVariants as C
use Rattle.engine.specs.declared.piece.Why.{Why}
use Rattle.engine.specs.declared.piece.Why.TheVariants as W
use Rattle.engine.specs.declared.piece.Ran.{Ran}
use Rattle.rule.specs.Meaning.{state_of, core_of, cause_of}
use Rattle.rule.specs.State.{ready}

unfoldable pub why_as : P.Why → Why
why_as P.all = W.All
why_as (P.refused k) = W.Refused (cause_of k)
why_as P.full = W.Full

-- a run that stopped for w after so many bytes of so many has bytes left to take
unfoldable pub goes_on : Why → ℕ → ℕ → Bool
goes_on W.All took len = ltb took len
goes_on (W.Refused c) took len = false
goes_on W.Full took len = false
goes_on W.Unfit took len = false

-- a run, and one more after it
abbrev pub then_as : Ran → Ran → Ran
then_as q r = record { core = r.core; why = r.why; took = q.took + r.took; wrote = q.wrote + r.wrote }

abbrev pub ran_as : P.Ran → Ran
ran_as r = record { core = core_of r.state; why = why_as r.why; took = r.took; wrote = length r.wrote }

-- a run under a choice, from a state of the code
abbrev pub run_by : Choice → Core → List ℕ → ℕ → P.Ran
run_by c k piece room = P.run c.alphabet c.options piece (state_of k) room

-- how many of so many bytes lie below the limit
unfoldable pub below : ℕ → ℕ → ℕ
below taken len = cond (ltb (limit - taken) len) (limit - taken) len

-- (a): all of what lies below the limit was taken, and a byte lies at it
unfoldable pub limited : Ran → ℕ → Ran
limited r len =
    cond (goes_on r.why r.took len) (record { core = r.core; why = W.Refused C.TooLong; took = r.took; wrote = r.wrote }) r

-- a state that text gives, and m bytes more are within the limit
pub record Ready (a : ℕ) (k : Core) (m : ℕ) : Type 0 where
  pub sound : Sound a (state_of k)
  pub within : k.taken + m ≤ limit

-- nothing was done
abbrev pub unfit : Core → Ran
unfit k = record { core = k; why = W.Unfit; took = 0; wrote = 0 }

-- a run from a state that is ready, and else nothing
unfoldable pub run_as : ℕ → ℕ → Core → List ℕ → ℕ → Ran
run_as a opts k piece room = cond (ready a opts k) (ran_as (run_piece a opts piece (state_of k) room)) (unfit k)

unfoldable pub run_bytes : ℕ → ℕ → Core → List ℕ → ℕ → List ℕ
run_bytes a opts k piece room = cond (ready a opts k) (run_piece a opts piece (state_of k) room).wrote []

-- a whole text, with room for as many bytes as it has: room never lacks
unfoldable pub fresh_as : ℕ → ℕ → List ℕ → Ran
fresh_as a opts text = cond (allowed a opts) (ran_as (run_piece a opts text fresh (length text))) (unfit (core_of fresh))

unfoldable pub fresh_bytes : ℕ → ℕ → List ℕ → List ℕ
fresh_bytes a opts text = cond (allowed a opts) (run_piece a opts text fresh (length text)).wrote []
