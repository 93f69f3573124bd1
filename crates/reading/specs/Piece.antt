-- 01, "Streams": a reader's step takes bytes until the piece is taken, a byte is refused, or the room is full for the byte that needs it. Here
-- stand rule (g), the room, and rule (a), the limit, each once. Assumes nothing.
use Rattle.std.specs.Prelude.{ℕ, zero, suc, ◌+◌, ◌-◌, cond, List, [], ◌∷◌, ◌++◌, ltb, length, take}
use Rattle.reading.specs.Limit.{limit}
use Rattle.reading.specs.Reader.{State, Step, takes, gives, refuses, step, ending, Verdict}

-- why a run over a piece stopped: all of it is taken, a byte is refused with an answer, or the next byte needs room
pub data Why : Type 0 where
  all : Why
  refused : ℕ → Why
  full : Why

-- the state then, why it stopped, how many bytes it took, and the bytes that it gave
pub record Ran : Type 0 where
  pub state : State
  pub why : Why
  pub took : ℕ
  pub wrote : List ℕ

abbrev pub stop : State → Why → Ran
stop s w = record { state = s; why = w; took = 0; wrote = [] }

abbrev pub after : ℕ → List ℕ → Ran → Ran
after n w r = record { state = r.state; why = r.why; took = n + r.took; wrote = w ++ r.wrote }

-- (g): a digit that would complete a byte when the room is full
unfoldable pub on_step : State → Step → (State → Ran) → ℕ → (State → ℕ → Ran) → Ran
on_step s (takes n) go room give = after 1 [] (go n)
on_step s (gives x n) go zero give = stop s full
on_step s (gives x n) go (suc room) give = after 1 (x ∷ []) (give n room)
on_step s (refuses k) go room give = stop s (refused k)

-- the bytes of a piece, one after the other, into room for so many bytes
unfoldable pub run : ℕ → ℕ → List ℕ → State → ℕ → Ran
run a opts [] s room = stop s all
run a opts (c ∷ cs) s room = on_step s (step a opts s c) (λ n. run a opts cs n room) room (λ n r. run a opts cs n r)

-- (a): the byte at the limit is refused with 2, whatever it is
unfoldable pub why_at_limit : Why → Why
why_at_limit all = refused 2
why_at_limit (refused k) = refused k
why_at_limit full = full

unfoldable pub at_limit_ran : Ran → Ran
at_limit_ran r = record { state = r.state; why = why_at_limit r.why; took = r.took; wrote = r.wrote }

unfoldable pub run_piece : ℕ → ℕ → List ℕ → State → ℕ → Ran
run_piece a opts piece s room =
    let left : ℕ = limit - s.taken in
    cond (ltb left (length piece)) (at_limit_ran (run a opts (take left piece) s room)) (run a opts piece s room)

-- ---- a run over a whole text

-- its answer: at the text's end, at the byte refused, or 3 for want of room
unfoldable pub answer_of : ℕ → ℕ → State → Why → ℕ
answer_of a opts s all = ending a opts s
answer_of a opts s (refused k) = k
answer_of a opts s full = 3

unfoldable pub verdict_of : ℕ → ℕ → Ran → Verdict
verdict_of a opts r = record { answer = answer_of a opts r.state r.why; position = r.state.taken; good = r.wrote }
