-- 01, "Streams", for a writer: what a start, a step and a finish give. "Order in a call: 9, then 10, then an earlier refusal other than 3 ..; all three
-- take and write nothing and return the state unchanged." Assumes nothing.
use Rattle.std.specs.Prelude.{ℕ, ◌+◌, ◌*◌, ◌%◌, ◌^◌, Bool, true, cond, ◌&&◌, List, [], ltb, leb, length, Result, Ok, Err}
use Rattle.alphabet.specs.Written.{written_length}
use Rattle.answer.specs.declared.Place.{Place}
use Rattle.answer.specs.declared.Count.{Count}
use Rattle.answer.specs.declared.Kind.{Kind}
use Rattle.answer.specs.declared.Kind.TheVariants as K
use Rattle.answer.specs.declared.Outcome.{Outcome}
use Rattle.answer.specs.declared.Outcome.TheVariants as O
use Rattle.alphabet.specs.Alphabet.{bits}
use Rattle.reading.specs.Limit.{limit}
use Rattle.spelling.specs.Front.{ending}
use Rattle.spelling.specs.Machine.{Run, run}
use Rattle.spelling.specs.declared.Why.{Why}
use Rattle.spelling.specs.declared.Why.TheVariants as W
use Rattle.writing.specs.declared.Status.{Status}
use Rattle.writing.specs.declared.Status.TheVariants as U
use Rattle.writing.specs.declared.Writer.{Writer}

abbrev pub at : ℕ → Place
at n = record { 0 = n }

abbrev pub count : ℕ → Count
count n = record { 0 = n }

-- a start: no state for an alphabet above 5, else a fresh one
unfoldable pub fresh : ℕ → Writer
fresh a = record { alphabet = a; taken = 0; held = 0; status = U.Open }

unfoldable pub start_of : ℕ → Result Writer Kind
start_of a = cond (ltb a 6) (Ok (fresh a)) (Err K.Choice)

-- the test of a state: a refusal for the limit stands only where the next byte exceeds it
unfoldable pub fits_status : Status → ℕ → ℕ → Bool
fits_status U.Open a n = true
fits_status U.TooLong a n = ltb limit (written_length a (n + 1))
fits_status U.Done a n = true

unfoldable pub sound_by : ℕ → ℕ → ℕ → Status → Bool
sound_by a n held u =
    ltb a 6 && (leb (written_length a n) limit && (ltb held (2 ^ (8 * n % bits a)) && fits_status u a n))

abbrev pub sound : Writer → Bool
sound s = sound_by s.alphabet s.taken s.held s.status

-- what a call gives: the state, the answer, the source bytes taken and the text written
pub record Turn : Type 0 where
  pub state : Writer
  pub outcome : Outcome
  pub took : ℕ
  pub wrote : List ℕ

-- a refusal that takes and writes nothing and returns the state unchanged
abbrev pub unmoved : Writer → Kind → Turn
unmoved s k = record { state = s; outcome = O.Refused k (count 0); took = 0; wrote = [] }

abbrev pub moved : Writer → Run → Status → Writer
moved s r u = record { alphabet = s.alphabet; taken = s.taken + r.took; held = r.held; status = u }

unfoldable pub by_why : Why → Writer → Run → Turn
by_why W.All s r = record { state = moved s r U.Open; outcome = O.Accepted (at (s.taken + r.took)) (count (length r.wrote)); took = r.took; wrote = r.wrote }
by_why W.Limit s r = record { state = moved s r U.TooLong; outcome = O.Refused (K.TooLong (at (s.taken + r.took))) (count (length r.wrote)); took = r.took; wrote = r.wrote }
by_why W.Room s r = record { state = moved s r U.Open; outcome = O.Refused (K.NoRoom (at (s.taken + r.took))) (count (length r.wrote)); took = r.took; wrote = r.wrote }

abbrev pub closed : Writer → Writer
closed s = record { alphabet = s.alphabet; taken = s.taken; held = s.held; status = U.Done }

-- the last digit and the pads if they all fit, else 3
unfoldable pub close : Writer → List ℕ → ℕ → Turn
close s text room =
    cond (ltb room (length text)) (unmoved s (K.NoRoom (at s.taken)))
    (record { state = closed s; outcome = O.Accepted (at s.taken) (count (length text)); took = 0; wrote = text })

-- 10, then the earlier refusal, else what an open writer gives
unfoldable pub by_status : Status → Writer → Turn → Turn
by_status U.Open s t = t
by_status U.TooLong s t = unmoved s (K.TooLong (at s.taken))
by_status U.Done s t = unmoved s K.Finished

-- 9 before all
unfoldable pub in_order : Writer → Turn → Turn
in_order s t = cond (sound s) (by_status s.status s t) (unmoved s K.BadState)

unfoldable pub ran_of : Writer → List ℕ → ℕ → Run
ran_of s piece room = run s.alphabet s.taken s.held piece room

unfoldable pub step_of : Writer → List ℕ → ℕ → Turn
step_of s piece room = in_order s (by_why (ran_of s piece room).why s (ran_of s piece room))

unfoldable pub finish_of : Writer → ℕ → Turn
finish_of s room = in_order s (close s (ending s.alphabet s.taken s.held) room)
