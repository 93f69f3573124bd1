-- What a byte does, in the definitions of `reading`, and the states that it may do it to. Assumes nothing.
use Rattle.std.specs.Prelude.{ℕ, ◌<◌, ◌≤◌, ◌^◌, Option, None, Some, Result, Ok, Err}
use Rattle.reading.specs.Limit.{limit}
use Rattle.reading.specs.Reader.{State, Step, takes, gives, refuses, held_bits}
use Rattle.rule.specs.declared.Core.{Core}
use Rattle.rule.specs.declared.Cause.{Cause}
use Rattle.rule.specs.Meaning.{state_of, number}
use Rattle.engine.specs.declared.step.Taken.{Taken}

-- a byte of text that is taken: the state then, and the byte that it completes, if it does
abbrev pub taken_of : State → Option ℕ → Step
taken_of s None = takes s
taken_of s (Some x) = gives x s

abbrev pub step_of : Result Taken Cause → Step
step_of (Ok t) = taken_of (state_of t.core) t.byte
step_of (Err c) = refuses (number c)

-- the numbers of a state that text gives, before one byte more
pub record Fit (a : ℕ) (k : Core) : Type 0 where
  pub held : k.held < 2 ^ held_bits a (state_of k)
  pub digits : k.digits ≤ k.taken
  pub pads : k.pads ≤ k.taken
  pub taken : k.taken < limit
