-- The limit, as the code applies it: a piece that goes past it is cut there. Assumes nothing.
use Prim.Native.Nat.{ℕ, ◌-◌, ◌<◌, ◌≤◌}
use mathlib.Core.Path.{◌≡◌, refl, sym, ap, ◌∙◌, subst}
use mathlib.Core.Bool.{Bool, true, false, cond}
use mathlib.Core.List.{List, [], ◌++◌, append_assoc}
use native.Mathlib.Omega.{arith}
use lib.Dec.{ltb}
use lib.ListN.{length, take, drop, take-append-drop}
use lib.Seq.{length-take-le, take-length, drop-append-le}
use borrow.Author.Tests.{lt-ltb, le-ltb, ltb-true, ltb-false}
use Rattle.reading.specs.Options.{allowed}
use Rattle.reading.specs.Limit.{limit}
use Rattle.reading.specs.Reader.{State, fresh}
use Rattle.reading.specs.Piece as P
use Rattle.reading.specs.Piece.{run, run_piece, at_limit_ran}
use Rattle.reading.proofs.StepLaws.{fresh_sound}
use Rattle.reading.proofs.RunRoom.{run_room}
use Rattle.reading.proofs.PieceLaws.{run_feeds}
use Rattle.rule.specs.declared.Core.{Core}
use Rattle.rule.proofs.Readiness.{IsReady}
use Rattle.engine.specs.declared.piece.Ran.{Ran}
use Rattle.rule.specs.Meaning.{state_of, cause_of, core_of}
use Rattle.reading.specs.Buffer.{filled}
use Rattle.rule.specs.State.{ready}
use Rattle.engine.specs.Ran.{why_as, goes_on, ran_as, below, limited, Ready, unfit, run_as, run_bytes, fresh_as, fresh_bytes}

-- ---- what lies below the limit

pub below_within : (taken len : ℕ) → below taken len ≤ limit - taken
unfolding below
below_within taken len = go (ltb (limit - taken) len) refl
  where
    go : (x : Bool) → ltb (limit - taken) len ≡ x → cond x (limit - taken) len ≤ limit - taken
    go true e = omega arith
    go false e = ltb-false _ _ e

pub below_inside : (taken len : ℕ) → below taken len ≤ len
unfolding below
below_inside taken len = go (ltb (limit - taken) len) refl
  where
    go : (x : Bool) → ltb (limit - taken) len ≡ x → cond x (limit - taken) len ≤ len
    go true e = omega (arith, ltb-true (limit - taken) len e)
    go false e = omega arith

-- all m bytes of a longer piece were taken, and the next is at the limit
limited_past : (q : P.Ran) (m len : ℕ) → (q.why ≡ P.all → q.took ≡ m) → m < len → limited (ran_as q) len ≡ ran_as (at_limit_ran q)
unfolding limited at_limit_ran P.why_at_limit why_as cause_of goes_on
limited_past q m len f l = go q.why q.took f
  where
    go : (w : P.Why) (t : ℕ) → (w ≡ P.all → t ≡ m)
        → limited (ran_as (record { state = q.state; why = w; took = t; wrote = q.wrote })) len ≡ ran_as
        (at_limit_ran (record { state = q.state; why = w; took = t; wrote = q.wrote }))
    go P.all t f = rw (lt-ltb t len (omega (arith, f refl)))
    go (P.refused k) t f = refl
    go P.full t f = refl

-- the piece is no longer than what was taken
limited_same : (q : P.Ran) (len : ℕ) → (q.why ≡ P.all → len ≤ q.took) → limited (ran_as q) len ≡ ran_as q
unfolding limited why_as goes_on
limited_same q len f = go q.why f
  where
    go : (w : P.Why) → (w ≡ P.all → len ≤ q.took)
        → limited (ran_as (record { state = q.state; why = w; took = q.took; wrote = q.wrote })) len ≡ ran_as
        (record { state = q.state; why = w; took = q.took; wrote = q.wrote })
    go P.all f = rw (le-ltb q.took len (f refl))
    go (P.refused k) f = refl
    go P.full f = refl

module _ (a opts : ℕ) (piece : List ℕ) (s : State) (room : ℕ) where
  pub below_ran : limited (ran_as (run a opts (take (below s.taken (length piece)) piece) s room)) (length piece) ≡ ran_as
      (run_piece a opts piece s room)
  unfolding below run_piece
  below_ran = go (ltb (limit - s.taken) (length piece)) refl
    where
      go : (x : Bool) → ltb (limit - s.taken) (length piece) ≡ x
          → limited (ran_as (run a opts (take (cond x (limit - s.taken) (length piece)) piece) s room)) (length piece)
          ≡ ran_as (cond x (at_limit_ran (run a opts (take (limit - s.taken) piece) s room)) (run a opts piece s room))
      go true e =
          let front : List ℕ = take (limit - s.taken) piece in
          limited_past (run a opts front s room) (limit - s.taken) (length piece)
          (λ w. (run_feeds a opts front s room []).all_took w
          ∙ length-take-le (limit - s.taken) piece (omega (arith, ltb-true (limit - s.taken) (length piece) e)))
          (ltb-true (limit - s.taken) (length piece) e)
      go false e =
          rw (take-length piece)
          (limited_same (run a opts piece s room) (length piece) (λ w. omega (arith, (run_feeds a opts piece s room []).all_took w)))

  pub below_wrote : (run a opts (take (below s.taken (length piece)) piece) s room).wrote ≡ (run_piece a opts piece s room).wrote
  unfolding below run_piece at_limit_ran
  below_wrote = go (ltb (limit - s.taken) (length piece)) refl
    where
      go : (x : Bool) → ltb (limit - s.taken) (length piece) ≡ x
          → (run a opts (take (cond x (limit - s.taken) (length piece)) piece) s room).wrote
          ≡ (cond x (at_limit_ran (run a opts (take (limit - s.taken) piece) s room)) (run a opts piece s room)).wrote
      go true e = refl
      go false e = rw (take-length piece)

-- m bytes below the limit can be read from such a state
pub ready_for : {a opts : ℕ} {k : Core} {m : ℕ} → IsReady a opts k → m ≤ limit - k.taken → Ready a k m
ready_for {k = k} r l = record { sound = r.sound; within = omega (arith, r.taken) }

pub fresh_ready : (a m : ℕ) → m ≤ limit → Ready a (core_of fresh) m
fresh_ready a m l = record { sound = fresh_sound a; within = omega arith }

-- ---- a piece from any state

module _ (a opts : ℕ) (k : Core) (piece o : List ℕ) where
  pub run_none : {r : Ran} → ready a opts k ≡ false → r ≡ unfit k
      → (r ≡ run_as a opts k piece (length o)) × (o ≡ filled (run_bytes a opts k piece (length o)) o)
  unfolding run_as run_bytes
  run_none e q = (rw (e, q), rw e)

  pub run_told : {m : ℕ} {q r : Ran} {o' : List ℕ} → ready a opts k ≡ true → m ≡ below k.taken (length piece)
      → (q ≡ ran_as (run a opts (take m piece) (state_of k) (length o))) ×
      (o' ≡ filled (run a opts (take m piece) (state_of k) (length o)).wrote o)
      → r ≡ limited q (length piece) → (r ≡ run_as a opts k piece (length o)) × (o' ≡ filled (run_bytes a opts k piece (length o)) o)
  unfolding run_as run_bytes
  run_told e m f g =
      let h = rw m at f in
      (rw (e, g, h.0) (below_ran a opts piece (state_of k) (length o)), rw (e, ← below_wrote a opts piece (state_of k) (length o)) h.1)

-- what lies below the limit, as it is lent
pub below_length : (taken : ℕ) {m : ℕ} (l : List ℕ) → m ≡ below taken (length l) → length (take m l) ≡ m
below_length taken {m} l e = length-take-le m l (omega (arith, e, below_inside taken (length l)))

pub below_fits : (taken : ℕ) {m : ℕ} (l : List ℕ) → m ≡ below taken (length l) → length (take m l) ≤ limit - taken
below_fits taken l e = omega (arith, below_length taken l e, e, below_within taken (length l))

-- ---- a whole text

module _ (a opts : ℕ) (text : List ℕ) where
  pub fresh_none : {r : Ran} → allowed a opts ≡ false → r ≡ unfit (core_of fresh)
      → (r ≡ fresh_as a opts text) × (text ≡ filled (fresh_bytes a opts text) text)
  unfolding fresh_as fresh_bytes
  fresh_none e q = (rw (e, q), rw e)

  module _ {m : ℕ} (e : allowed a opts ≡ true) (is : m ≡ below 0 (length text)) where
    -- room for as many bytes as lie below the limit never lacks
    fresh_run : run a opts (take m text) fresh (length (take m text)) ≡ run a opts (take (below 0 (length text)) text) fresh (length text)
    fresh_run =
        run_room a opts (take m text) fresh (length (take m text)) (length text) (omega arith)
        (omega (arith, below_length 0 text is, is, below_inside 0 (length text)))
        ∙ ap (λ (n : ℕ). run a opts (take n text) fresh (length text)) is

    pub fresh_is : {q r : Ran} → q ≡ ran_as (run a opts (take m text) fresh (length (take m text))) → r ≡ limited q (length text)
        → r ≡ fresh_as a opts text
    unfolding fresh_as
    fresh_is f g = rw (e, g, f, fresh_run) (below_ran a opts text fresh (length text))

    pub fresh_gives : (run a opts (take m text) fresh (length (take m text))).wrote ≡ fresh_bytes a opts text
    unfolding fresh_bytes
    fresh_gives = rw (e, fresh_run) (below_wrote a opts text fresh (length text))

    -- the front of the buffer is filled, and what lies past the limit is as before
    pub fresh_filled : {front : List ℕ} → front ≡ filled (run a opts (take m text) fresh (length (take m text))).wrote (take m text)
        → front ++ drop m text ≡ filled (fresh_bytes a opts text) text
    fresh_filled {front} f =
        let w : List ℕ = (run a opts (take m text) fresh (length (take m text))).wrote in
        let n : length w ≤ length (take m text) = (run_feeds a opts (take m text) fresh (length (take m text)) []).wrote_in in
        ap (λ (x : List ℕ). x ++ drop m text) f
        ∙ append_assoc w (drop (length w) (take m text)) (drop m text)
        ∙ ap (λ (x : List ℕ). w ++ x) (sym (drop-append-le (length w) (take m text) (drop m text) n)
        ∙ ap (drop (length w)) (take-append-drop m text))
        ∙ ap (λ (x : List ℕ). filled x text) fresh_gives

-- ---- the code's fresh state

pub start_ready : {a : ℕ} {start : Core} {m : ℕ} → start ≡ core_of fresh → m ≤ limit → Ready a start m
start_ready {a} {start} {m} e l = subst (λ (k : Core). Ready a k m) (sym e) (fresh_ready a m l)

pub from_start : (a opts room : ℕ) (piece : List ℕ) {start : Core} {r : Ran} → start ≡ core_of fresh
    → r ≡ ran_as (run a opts piece (state_of start) room) → r ≡ ran_as (run a opts piece fresh room)
from_start a opts room piece e f = f ∙ ap (λ (k : Core). ran_as (run a opts piece (state_of k) room)) e

pub unfit_start : {start : Core} → start ≡ core_of fresh → unfit start ≡ unfit (core_of fresh)
unfit_start e = ap unfit e

pub filled_start : (a opts room : ℕ) (piece o : List ℕ) {start : Core} {o' : List ℕ} → start ≡ core_of fresh
    → o' ≡ filled (run a opts piece (state_of start) room).wrote o
    → o' ≡ filled (run a opts piece fresh room).wrote o
filled_start a opts room piece o e f = f ∙ ap (λ (k : Core). filled (run a opts piece (state_of k) room).wrote o) e
