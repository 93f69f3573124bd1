-- T5: the test passes exactly the states that calls from a start give. For each that passes, a text is built that leads to it in one step; a refusal
-- takes one byte more or a finish, and the end a finish. Assumes nothing.
use Prim.Native.Nat.{ℕ, ◌<◌}
use mathlib.Core.Path.{◌≡◌, refl, ap, ◌∙◌, subst}
use mathlib.Core.Logic.{◌↔◌}
use mathlib.Core.Bool.{true}
use mathlib.Core.List.{List, [], ◌∷◌}
use native.Mathlib.Omega.{arith}
use lib.ListN.{length}
use borrow.Author.Tests.{ne_eqb}
use Rattle.reading.specs.Options.{allowed}
use Rattle.reading.specs.Reader.{State, fresh, ending}
use Rattle.reading.specs.Piece.{refused, stop, run_piece}
use Rattle.reading.proofs.Building.{Leads, leads, led_fits}
use Rattle.reading.proofs.OptionLaws.{allowed_alphabet}
use Rattle.reading.proofs.Taking.{takes_all, refuses_one, refuses_at_limit}
use Rattle.streaming.specs.Stream.{Status, live, shut, done, Stream, started, fresh_stream, start_of}
use Rattle.streaming.specs.Given.{given}
use Rattle.streaming.specs.Calls.{Called, why_status, ran, step_of, end_status, closes, finish_of}
use Rattle.streaming.specs.Reached.{Calls, begun, stepped, closed, Reachable}
use Rattle.streaming.proofs.Order.{live_step, live_finish}
use Rattle.streaming.proofs.Standing.{Refusal, at_limit, at_byte, at_end, Stands, Standing, standing}
use Rattle.streaming.proofs.GivenLaws.{Readable, Sound, given_says, given_holds}

-- ---- what calls give passes the test

standing_sound : {a opts : ℕ} {t out : List ℕ} {s : Stream} → Standing a opts t out s → Sound s
standing_sound {a} {opts} {t} {out} {s} x =
    record {
      readable =
          rw (x.alphabet, x.options)
          (record { choice = x.choice; within = omega (arith, x.taken, x.within); fits = led_fits a (allowed_alphabet a opts x.choice) opts t x.reads });
      stands = rw (x.alphabet, x.options) x.stands;
    }

pub standing_given : {a opts : ℕ} {t out : List ℕ} {s : Stream} → Standing a opts t out s → given s ≡ true
standing_given {s = s} x = given_holds s (standing_sound x)

-- a stream after any calls is never answered 9
pub calls_given : {a opts : ℕ} {t out : List ℕ} {s : Stream} → Calls a opts t out s → given s ≡ true
calls_given c = standing_given (standing c)

-- ---- and what passes it is given by calls

abbrev at : ℕ → ℕ → State → Status → Stream
at a opts s u = record { alphabet = a; options = opts; state = s; status = u }

starts : (a opts : ℕ) → allowed a opts ≡ true → start_of a opts ≡ started (fresh_stream a opts)
unfolding start_of
starts a opts e = rw e

module _ (a opts : ℕ) (s : State) where
  by_calls : {t out : List ℕ} {n : Stream} → Calls a opts t out n → Reachable n
  by_calls {t} {out} c = record { alphabet = a; options = opts; text = t; out = out; calls = c }

  -- one step over the text that leads there
  live_reached : Readable a opts s → Reachable (at a opts s live)
  unfolding ran why_status
  live_reached r =
      let h : a < 6 = allowed_alphabet a opts r.choice in
      let x : Leads a opts s = leads a h opts r.choice s r.fits in
      let b : Calls a opts [] [] (fresh_stream a opts) = begun (starts a opts r.choice) in
      let e : (step_of (fresh_stream a opts) x.text (length x.out)).stream ≡ at a opts s live =
      ap (λ (c : Called). c.stream)
      (live_step (fresh_stream a opts) refl refl (calls_given b) refl x.text (length x.out)
      ∙ ap (ran (fresh_stream a opts)) (takes_all a opts fresh x.text x.reads (omega (arith, x.size, r.within)))) in
      subst Reachable e (by_calls (stepped b x.text x.bytes (length x.out)))

  module _ (l : Reachable (at a opts s live)) where
    -- a byte that is refused
    byte_reached : (c : ℕ) → c < 256 → {k : ℕ} → run_piece a opts (c ∷ []) s 0 ≡ stop s (refused k) → Reachable (at a opts s (shut k))
    unfolding ran why_status
    byte_reached c b {k} e =
        let same : (step_of (at a opts s live) (c ∷ []) 0).stream ≡ at a opts s (shut k) =
        ap (λ (d : Called). d.stream) (live_step (at a opts s live) refl refl (calls_given l.calls) refl (c ∷ []) 0 ∙ ap (ran (at a opts s live)) e) in
        subst Reachable same
        (record { alphabet = l.alphabet; options = l.options; text = _; out = _; calls = stepped l.calls (c ∷ []) (b, tt) 0 })

    -- a finish
    end_reached : {k : ℕ} → ending a opts s ≡ k → Reachable (at a opts s (end_status k))
    unfolding closes
    end_reached {k} e =
        let same : (finish_of (at a opts s live)).stream ≡ at a opts s (end_status k) =
        ap (λ (d : Called). d.stream) (live_finish (at a opts s live) refl refl (calls_given l.calls) refl ∙ ap (closes (at a opts s live)) e) in
        subst Reachable same (record { alphabet = l.alphabet; options = l.options; text = _; out = _; calls = closed l.calls })

    refusal_reached : {k : ℕ} → Refusal a opts s k → Reachable (at a opts s (shut k))
    unfolding end_status
    refusal_reached (at_limit e) = byte_reached 0 (omega arith) (refuses_at_limit a opts s 0 0 e)
    refusal_reached (at_byte m c b e) = byte_reached c b (refuses_one a opts s c 0 m e)
    refusal_reached (at_end {k = k} e m) = rw (ne_eqb k 0 (λ q. omega arith)) at (end_reached e)

    status_reached : (u : Status) → Stands a opts s u → Reachable (at a opts s u)
    unfolding end_status
    status_reached live x = l
    status_reached (shut k) x = refusal_reached x
    status_reached done x = end_reached x

pub given_reached : (s : Stream) → given s ≡ true → Reachable s
given_reached s e =
    let x : Sound s = given_says s e in
    status_reached s.alphabet s.options s.state (live_reached s.alphabet s.options s.state x.readable) s.status x.stands

-- the test passes exactly the states that calls give
pub given_exactly : (s : Stream) → (given s ≡ true) ↔ Reachable s
given_exactly s = (given_reached s, λ r. calls_given r.calls)
