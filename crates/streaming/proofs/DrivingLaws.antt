-- Where a text offered in pieces stands: what was taken is a front of it, what is left is the rest, and a refusal is of the first byte left.
-- Assumes nothing.
use Prim.Native.Nat.{ℕ, ◌<◌, ◌≤◌}
use mathlib.Core.Path.{◌≡◌, refl, sym, ap, ◌∙◌, subst, subst₂}
use mathlib.Core.Logic.{◌⊎◌, inl, inr}
use mathlib.Core.List.{List, [], ◌∷◌, ◌++◌, append_assoc, append-nil}
use native.Mathlib.Nat.{add-zero}
use native.Mathlib.Omega.{arith}
use lib.ListN.{length, take, drop, get_or, length-take, length-drop, take-append-drop}
use lib.Seq.{take-take, get_or-take, get_or-drop}
use Rattle.alphabet.specs.Bits.{Below}
use Rattle.alphabet.proofs.Below.{below_back, below_take}
use Rattle.reading.specs.Limit.{limit}
use Rattle.reading.specs.Reader.{State, refuses, step}
use Rattle.streaming.specs.Stream.{Status, live, shut, Stream, started, start_of}
use Rattle.streaming.specs.Calls.{Called, unmoved, step_of}
use Rattle.streaming.specs.Reached.{begun}
use Rattle.streaming.specs.Driving.{Offer, Driven, begin, told, offer, drive}
use Rattle.streaming.specs.Promises.{TookAll, RefusedNext, NextNeedsRoom, GoesOn}
use Rattle.streaming.proofs.Order.{refusal_sticks}
use Rattle.streaming.proofs.Standing.{start_is, Standing, standing, step_stands}
use Rattle.streaming.proofs.Reaching.{standing_given}
use Rattle.streaming.proofs.GoesOn.{step_goes_on}

-- the stream goes on, or has refused the first byte left: at the limit, or by the reader's rule
pub data How (a opts : ℕ) (left : List ℕ) (s : State) : Status → Type 0 where
  goes : How a opts left s live
  past : 0 < length left → s.taken ≡ limit → How a opts left s (shut 2)
  blames : {k : ℕ} → 0 < length left → s.taken < limit → step a opts s (get_or left 0 0) ≡ refuses k → How a opts left s (shut k)

pub record Drove (a opts : ℕ) (text : List ℕ) (d : Driven) : Type 0 where
  pub front : List ℕ
  pub whole : text ≡ front ++ d.left
  pub stands : Standing a opts front d.out d.stream
  pub how : How a opts d.left d.stream.state d.stream.status

-- a refused stream is offered to in vain
pub offer_sticks : {a opts : ℕ} {text : List ℕ} (d : Driven) → Drove a opts text d → {k : ℕ} → d.stream.status ≡ shut k → (o : Offer) → offer o d ≡ d
unfolding offer told
offer_sticks d x e o =
    let c : step_of d.stream (take o.size d.left) o.room ≡ unmoved d.stream _ _ =
    (refusal_sticks d.stream (standing_given x.stands) e).step (take o.size d.left) o.room in
    ap (told d) c ∙ λ j. record { stream = d.stream; left = d.left; out = append-nil d.out j }

module _ {a opts : ℕ} (text : List ℕ) (b : Below 256 text) (d : Driven) (x : Drove a opts text d) (o : Offer) where
  piece : List ℕ
  piece = take o.size d.left

  c : Called
  c = step_of d.stream piece o.room

  bytes : Below 256 piece
  unfolding piece
  bytes = below_take 256 o.size d.left (below_back 256 x.front d.left (rw x.whole at b))

  -- what was taken of the piece was taken of what is left
  within : c.took ≤ length piece → (c.took ≤ o.size) × (c.took ≤ length d.left)
  unfolding piece
  within l = omega (arith, length-take o.size d.left)

  whole : c.took ≤ o.size → text ≡ x.front ++ take c.took piece ++ drop c.took d.left
  unfolding piece
  whole l =
      x.whole
      ∙ ap (λ (u : List ℕ). x.front ++ u) (sym (take-append-drop c.took d.left))
      ∙ sym (append_assoc x.front (take c.took d.left) (drop c.took d.left))
      ∙ ap (λ (u : List ℕ). x.front ++ u ++ drop c.took d.left) (sym (take-take c.took o.size d.left l))

  -- the first byte left is the next of the piece
  next : c.took < length piece → get_or piece c.took 0 ≡ get_or (drop c.took d.left) 0 0
  unfolding piece
  next l =
      get_or-take o.size d.left c.took 0 (omega (arith, length-take o.size d.left))
      ∙ sym (get_or-drop c.took d.left 0 0 ∙ ap (λ (n : ℕ). get_or d.left n 0) (add-zero c.took))

  some : c.took < length piece → 0 < length (drop c.took d.left)
  unfolding piece
  some l = omega (arith, length-drop c.took d.left, length-take o.size d.left)

  refused_how : RefusedNext a opts piece c → How a opts (drop c.took d.left) c.stream.state c.stream.status
  refused_how y = rw y.status (go y.why)
    where
      go : ((c.answer ≡ 2) × (c.position ≡ limit)) ⊎ ((c.position < limit) × (step a opts c.stream.state (get_or piece c.took 0) ≡ refuses c.answer))
          → How a opts (drop c.took d.left) c.stream.state (shut c.answer)
      go (inl z) = rw z.0 (past (some y.inside) (sym y.place ∙ z.1))
      go (inr z) =
          blames (some y.inside) (omega (arith, y.place, z.0)) (ap (step a opts c.stream.state) (sym (next y.inside)) ∙ z.1)

  stops_how : TookAll piece c ⊎ (RefusedNext a opts piece c ⊎ NextNeedsRoom a opts piece o.room c)
      → How a opts (drop c.took d.left) c.stream.state c.stream.status
  stops_how (inl y) = rw y.goes goes
  stops_how (inr (inl y)) = refused_how y
  stops_how (inr (inr y)) = rw y.goes goes

  live_offer : d.stream.status ≡ live → Drove a opts text (offer o d)
  unfolding offer told c piece
  live_offer e =
      let g : GoesOn d.stream piece o.room = step_goes_on d.stream (standing_given x.stands) e piece o.room in
      record {
        front = x.front ++ take c.took piece;
        whole = whole (within g.within).0;
        stands = step_stands x.stands piece bytes o.room;
        how = stops_how
            (subst₂ (λ (p q : ℕ). TookAll piece c ⊎ (RefusedNext p q piece c ⊎ NextNeedsRoom p q piece o.room c)) x.stands.alphabet x.stands.options g.stops);
      }

  pub drove_offer : Drove a opts text (offer o d)
  drove_offer = go x.how refl
    where
      sticks : {k : ℕ} → d.stream.status ≡ shut k → Drove a opts text (offer o d)
      sticks e = rw (offer_sticks d x e o) x

      go : {u : Status} → How a opts d.left d.stream.state u → d.stream.status ≡ u → Drove a opts text (offer o d)
      go goes e = live_offer e
      go (past l m) e = sticks e
      go (blames l m f) e = sticks e

pub drove_all : {a opts : ℕ} (text : List ℕ) → Below 256 text → (os : List Offer) (d : Driven) → Drove a opts text d → Drove a opts text (drive os d)
unfolding drive
drove_all text b [] d x = x
drove_all text b (o ∷ os) d x = drove_all text b os (offer o d) (drove_offer text b d x o)

pub drove_begin : {a opts : ℕ} (text : List ℕ) (s : Stream) → start_of a opts ≡ started s → Drove a opts text (begin s text)
drove_begin {a} {opts} text s e =
    record {
      front = [];
      whole = refl;
      stands = standing (begun e);
      how = subst (λ (n : Stream). How a opts text n.state n.status) (start_is a opts s e).1 goes;
    }
