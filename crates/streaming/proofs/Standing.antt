-- Where a stream stands after any calls: its state is that of the text taken, and its status says how that text can be refused, or that it is whole.
-- Assumes nothing.
use Prim.Native.Nat.{ℕ, zero, suc, ◌<◌, ◌≤◌}
use mathlib.Core.Path.{◌≡◌, refl, sym, ap, ◌∙◌, subst}
use mathlib.Core.Bool.{Bool, true, false, cond}
use mathlib.Core.List.{List, [], ◌∷◌, ◌++◌, append-nil}
use native.Mathlib.Omega.{arith}
use lib.Dec.{eqb}
use lib.ListN.{length, take, length-append, get_or}
use lib.Seq.{length-take-le}
use borrow.Author.Tests.{eqb-true, eqb-false}
use Rattle.alphabet.specs.Bits.{Below}
use Rattle.alphabet.proofs.Below.{below_append, below_take}
use Rattle.reading.specs.Limit.{limit}
use Rattle.reading.specs.Options.{allowed}
use Rattle.reading.specs.Reader.{State, refuses, Reading, going, fresh, step, ending, feed_all}
use Rattle.reading.specs.Piece.{Why, all, refused, full, Ran}
use Rattle.reading.proofs.Seen.{feed_append}
use Rattle.reading.proofs.PieceLimit.{PieceFeeds, piece_feeds}
use Rattle.reading.proofs.Taking.{reads_none}
use Rattle.streaming.specs.Stream.{Status, live, shut, done, Stream, declined, started, fresh_stream, start_of}
use Rattle.streaming.specs.Given.{given}
use Rattle.streaming.specs.Calls.{Called, unmoved, why_status, ran, step_of, end_status, closes, finish_of}
use Rattle.streaming.specs.Reached.{Calls, begun, stepped, closed}
use Rattle.streaming.proofs.Order.{nine_sticks, ten_sticks, refusal_sticks, live_step, live_finish}

-- what is refused with k after what the state has taken: the byte at the limit, a byte before it, or the text's end
pub data Refusal (a opts : ℕ) (s : State) : ℕ → Type 0 where
  at_limit : s.taken ≡ limit → Refusal a opts s 2
  at_byte : {k : ℕ} → s.taken < limit → (c : ℕ) → c < 256 → step a opts s c ≡ refuses k → Refusal a opts s k
  at_end : {k : ℕ} → ending a opts s ≡ k → 0 < k → Refusal a opts s k

abbrev pub Stands : ℕ → ℕ → State → Status → Type 0
Stands a opts s live = Unit {0}
Stands a opts s (shut k) = Refusal a opts s k
Stands a opts s done = ending a opts s ≡ 0

pub record Standing (a opts : ℕ) (t out : List ℕ) (s : Stream) : Type 0 where
  pub alphabet : s.alphabet ≡ a
  pub options : s.options ≡ opts
  pub choice : allowed a opts ≡ true
  pub bytes : Below 256 t
  pub reads : feed_all a opts (going fresh []) t ≡ going s.state out
  pub taken : s.state.taken ≡ length t
  pub within : length t ≤ limit
  pub stands : Stands a opts s.state s.status

below_at : (xs : List ℕ) (i : ℕ) → Below 256 xs → i < length xs → get_or xs i 0 < 256
below_at [] i b l = omega arith
below_at (x ∷ xs) zero b l = b.0
below_at (x ∷ xs) (suc i) b l = below_at xs i b.1 (omega arith)

-- ---- a start

pub start_is : (a opts : ℕ) (s : Stream) → start_of a opts ≡ started s → (allowed a opts ≡ true) × (fresh_stream a opts ≡ s)
unfolding start_of
start_is a opts s e = go (allowed a opts) refl e
  where
    go : (x : Bool) → allowed a opts ≡ x → cond x (started (fresh_stream a opts)) declined ≡ started s → (allowed a opts ≡ true) × (fresh_stream a opts ≡ s)
    go true f e = (f, cc)
    go false f e = absurd (let z : ◌≡◌ {A = ℕ} 0 1 = cc in omega arith)

start_stands : (a opts : ℕ) (s : Stream) → start_of a opts ≡ started s → Standing a opts [] [] s
start_stands a opts s e =
    let x = start_is a opts s e in
    subst (Standing a opts [] []) x.1
    (record { alphabet = refl; options = refl; choice = x.0; bytes = tt; reads = reads_none a opts (going fresh []); taken = refl; within = omega arith; stands = tt })

module _ {a opts : ℕ} {t out : List ℕ} {s : Stream} (x : Standing a opts t out s) where
  -- a call that returns the state unchanged
  unmoved_stands : (c : Called) (piece : List ℕ) {k i : ℕ} → c ≡ unmoved s k i → Standing a opts (t ++ take c.took piece) (out ++ c.wrote) c.stream
  unmoved_stands c piece e = rw (e, append-nil, append-nil) x

  -- ---- a step

  why_stands : (piece : List ℕ) → Below 256 piece → (room : ℕ) (r : Ran) → PieceFeeds a opts piece s.state room out r → (w : Why) → r.why ≡ w → Stands a opts r.state (why_status w)
  unfolding why_status
  why_stands piece b room r f all e = tt
  why_stands piece b room r f (refused k) e = go (eqb k 2) refl
    where
      go : (y : Bool) → eqb k 2 ≡ y → Refusal a opts r.state k
      go true q = let k2 : k ≡ 2 = eqb-true k 2 q in subst (Refusal a opts r.state) (sym k2) (at_limit (f.two_at (e ∙ ap refused k2)))
      go false q = at_byte (f.refused_before k e (eqb-false k 2 q)) (get_or piece r.took 0) (below_at piece r.took b (f.refused_inside k e)) (f.refused_step k e (eqb-false k 2 q))
  why_stands piece b room r f full e = tt

  ran_stands : (piece : List ℕ) → Below 256 piece → (room : ℕ) (r : Ran) → PieceFeeds a opts piece s.state room out r
      → Standing a opts (t ++ take (ran s r).took piece) (out ++ (ran s r).wrote) (ran s r).stream
  unfolding ran
  ran_stands piece b room r f =
      let more : length (take r.took piece) ≡ r.took = length-take-le r.took piece f.took_in in
      record {
        alphabet = x.alphabet;
        options = x.options;
        choice = x.choice;
        bytes = below_append 256 t (take r.took piece) x.bytes (below_take 256 r.took piece b);
        reads = feed_append a opts (going fresh []) t (take r.took piece) ∙ ap (λ (z : Reading). feed_all a opts z (take r.took piece)) x.reads ∙ f.so_far;
        taken = rw length-append (omega (arith, f.taken, x.taken));
        within = rw length-append (omega (arith, f.taken, x.taken, f.in_limit));
        stands = why_stands piece b room r f r.why refl;
      }

  pub step_stands : (piece : List ℕ) → Below 256 piece → (room : ℕ)
      → Standing a opts (t ++ take (step_of s piece room).took piece) (out ++ (step_of s piece room).wrote) (step_of s piece room).stream
  step_stands piece b room = go (given s) refl s.status refl
    where
      c : Called
      c = step_of s piece room

      go : (y : Bool) → given s ≡ y → (u : Status) → s.status ≡ u → Standing a opts (t ++ take c.took piece) (out ++ c.wrote) c.stream
      go false g u e = unmoved_stands c piece ((nine_sticks s g).step piece room)
      go true g (shut k) e = unmoved_stands c piece ((refusal_sticks s g e).step piece room)
      go true g done e = unmoved_stands c piece ((ten_sticks s g e).step piece room)
      go true g live e =
          rw (live_step s x.alphabet x.options g e piece room)
          (ran_stands piece b room _ (piece_feeds a opts piece s.state room out (omega (arith, x.taken, x.within))))

  -- ---- a finish

  end_stands : (k : ℕ) → ending a opts s.state ≡ k → Stands a opts s.state (end_status k)
  unfolding end_status
  end_stands k e = go (eqb k 0) refl
    where
      go : (y : Bool) → eqb k 0 ≡ y → Stands a opts s.state (cond y done (shut k))
      go true q = e ∙ eqb-true k 0 q
      go false q = at_end e (omega (arith, eqb-false k 0 q))

  closes_stands : (k : ℕ) → ending a opts s.state ≡ k → Standing a opts t (out ++ (closes s k).wrote) (closes s k).stream
  unfolding closes
  closes_stands k e =
      record {
        alphabet = x.alphabet;
        options = x.options;
        choice = x.choice;
        bytes = x.bytes;
        reads = rw append-nil x.reads;
        taken = x.taken;
        within = x.within;
        stands = end_stands k e;
      }

  pub finish_stands : Standing a opts t (out ++ (finish_of s).wrote) (finish_of s).stream
  finish_stands = go (given s) refl s.status refl
    where
      c : Called
      c = finish_of s

      still : {k i : ℕ} → c ≡ unmoved s k i → Standing a opts t (out ++ c.wrote) c.stream
      still e = rw (e, append-nil) x

      go : (y : Bool) → given s ≡ y → (u : Status) → s.status ≡ u → Standing a opts t (out ++ c.wrote) c.stream
      go false g u e = still (nine_sticks s g).finish
      go true g (shut k) e = still (refusal_sticks s g e).finish
      go true g done e = still (ten_sticks s g e).finish
      go true g live e = rw (live_finish s x.alphabet x.options g e) (closes_stands _ refl)

-- whatever calls were made from a start
pub standing : {a opts : ℕ} {t out : List ℕ} {s : Stream} → Calls a opts t out s → Standing a opts t out s
standing (begun e) = start_stands _ _ _ e
standing (stepped c piece b room) = step_stands (standing c) piece b room
standing (closed c) = finish_stands (standing c)
