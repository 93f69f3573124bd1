-- 01, "Streams", between the functions of the code: what a state refuses to every call, and a run over a piece and the end of the text as a call's
-- result. Assumes nothing.
use Rattle.std.specs.Prelude.{ℕ, cond, Option, Some, None, Result, Ok, Err}
use Rattle.answer.specs.declared.Kind.{Kind}
use Rattle.answer.specs.declared.Kind.TheVariants as K
use Rattle.answer.specs.declared.Outcome.{Outcome}
use Rattle.answer.specs.declared.Outcome.TheVariants as O
use Rattle.answer.specs.declared.Stepped.{Stepped}
use Rattle.rule.specs.declared.choice.Choice.{Choice}
use Rattle.rule.specs.declared.Core.{Core}
use Rattle.rule.specs.declared.Cause.{Cause}
use Rattle.engine.specs.declared.piece.Why.{Why}
use Rattle.engine.specs.declared.piece.Why.TheVariants as W
use Rattle.engine.specs.declared.piece.Ran.{Ran}
use Rattle.states.specs.declared.Status.{Status}
use Rattle.states.specs.declared.Status.TheVariants as U
use Rattle.rule.specs.Meaning.{kind_by}
use Rattle.stream.specs.declared.reader.Reader.{Reader}
use Rattle.streaming.specs.Given.{given}
use Rattle.stream.specs.Stepped.{stream_of, place, count}

abbrev pub reader : Choice → Core → Status → Reader
reader q k u = record { choice = q; core = k; status = u }

abbrev pub packed : Reader → Outcome → ℕ → Stepped Reader
packed r x n = record { state = r; told = record { outcome = x; taken = place n } }

-- a refusal that takes and writes nothing and returns the state unchanged
abbrev pub untold : Reader → Kind → Stepped Reader
untold r k = packed r (O.Refused k (count 0)) 0

-- 10, then an earlier refusal again, at the bytes taken; an open state refuses nothing
unfoldable pub refused_by : Core → Status → Option Kind
refused_by k U.Open = None
refused_by k (U.Shut c) = Some (kind_by c (place k.taken))
refused_by k U.Done = Some K.Finished

-- 9 before all
unfoldable pub refusal_of : Reader → Option Kind
refusal_of r = cond (given (stream_of r)) (refused_by r.core r.status) (Some K.BadState)

unfoldable pub by_why : Choice → Core → ℕ → ℕ → Why → Stepped Reader
by_why q k took n W.All = packed (reader q k U.Open) (O.Accepted (place k.taken) (count n)) took
by_why q k took n (W.Refused c) = packed (reader q k (U.Shut c)) (O.Refused (kind_by c (place k.taken)) (count n)) took
by_why q k took n W.Full = packed (reader q k U.Open) (O.Refused (K.NoRoom (place k.taken)) (count n)) took
by_why q k took n W.Unfit = untold (reader q k U.Open) K.BadState

abbrev pub as_step : Choice → Ran → Stepped Reader
as_step q r = by_why q r.core r.took r.wrote r.why

unfoldable pub as_end : Choice → Core → Result (Unit {0}) Cause → Stepped Reader
as_end q k (Ok _) = packed (reader q k U.Done) (O.Accepted (place k.taken) (count 0)) 0
as_end q k (Err c) = untold (reader q k (U.Shut c)) (kind_by c (place k.taken))
