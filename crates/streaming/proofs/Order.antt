-- The order in a call: 9, then 10, then an earlier refusal, all three unmoved; else what a stream that goes on gives. Assumes nothing.
use Prim.Native.Nat.{ℕ}
use mathlib.Core.Path.{◌≡◌, ap₂, ◌∙◌}
use mathlib.Core.Bool.{true, false}
use mathlib.Core.List.{List}
use Rattle.reading.specs.Reader.{ending}
use Rattle.reading.specs.Piece.{run_piece}
use Rattle.streaming.specs.Stream.{live, shut, done, Stream}
use Rattle.streaming.specs.Given.{given}
use Rattle.streaming.specs.Calls.{Called, unmoved, by_status, in_order, ran, step_of, closes, finish_of}
use Rattle.streaming.specs.Promises.{Sticks}

module _ (s : Stream) where
  sticks : {k i : ℕ} → ((c : Called) → in_order s c ≡ unmoved s k i) → Sticks s k i
  unfolding step_of finish_of
  sticks f = record { step = λ piece room. f _; finish = f _ }

  pub nine_sticks : given s ≡ false → Sticks s 9 0
  unfolding in_order
  nine_sticks e = sticks (λ c. rw e)

  pub ten_sticks : given s ≡ true → s.status ≡ done → Sticks s 10 0
  unfolding in_order by_status
  ten_sticks e f = sticks (λ c. rw (e, f))

  pub refusal_sticks : {k : ℕ} → given s ≡ true → s.status ≡ shut k → Sticks s k s.state.taken
  unfolding in_order by_status
  refusal_sticks e f = sticks (λ c. rw (e, f))

  goes_on_law : given s ≡ true → s.status ≡ live → (c : Called) → in_order s c ≡ c
  unfolding in_order by_status
  goes_on_law e f c = rw (e, f)

  -- a stream of these alphabet and options that goes on
  module _ {a opts : ℕ} (ea : s.alphabet ≡ a) (eo : s.options ≡ opts) (e : given s ≡ true) (f : s.status ≡ live) where
    pub live_step : (piece : List ℕ) (room : ℕ) → step_of s piece room ≡ ran s (run_piece a opts piece s.state room)
    unfolding step_of
    live_step piece room = goes_on_law e f _ ∙ ap₂ (λ (x y : ℕ). ran s (run_piece x y piece s.state room)) ea eo

    pub live_finish : finish_of s ≡ closes s (ending a opts s.state)
    unfolding finish_of
    live_finish = goes_on_law e f _ ∙ ap₂ (λ (x y : ℕ). closes s (ending x y s.state)) ea eo
