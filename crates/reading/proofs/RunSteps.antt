-- A run over a piece, one byte at a time from any index: what a loop over the piece follows. Assumes nothing.
use Prim.Native.Nat.{ℕ, zero, suc, ◌+◌, ◌-◌, ◌<◌, ◌≤◌, zero-le}
use mathlib.Core.Path.{◌≡◌, refl, ap, ◌∙◌}
use mathlib.Core.List.{List, [], ◌∷◌, ◌++◌, append_assoc, append-nil}
use native.Mathlib.Nat.{add_assoc, add-zero, zero-add, sub-zero}
use native.Mathlib.Numerals.{add-one}
use native.Mathlib.Omega.{arith}
use lib.ListN.{length, drop, get_or, length-append, drop_of_length-le}
use lib.Seq.{drop-cons}
use Rattle.reading.specs.Reader.{State, Step, takes, gives, refuses, step}
use Rattle.reading.specs.Piece.{Why, all, refused, full, Ran, stop, after, on_step, run}

pub after_after : (i j : ℕ) (w v : List ℕ) (r : Ran) → after i w (after j v r) ≡ after (i + j) (w ++ v) r
after_after i j w v r = simp (add_assoc, append_assoc)

after_none : (r : Ran) → r ≡ after 0 [] r
after_none r = simp zero-add

room_less : (room : ℕ) → 0 < room → (s : State) (x : ℕ) (n : State) (go : State → Ran) (give : State → ℕ → Ran)
    → on_step s (gives x n) go room give ≡ after 1 (x ∷ []) (give n (room - 1))
unfolding on_step
room_less zero h s x n go give = absurd (omega arith)
room_less (suc room) h s x n go give = ap (λ (r : ℕ). after 1 (x ∷ []) (give n r)) (omega arith)

-- what of a run is done: i bytes are taken and `wrote` is given, and what is left is the run of the rest
pub record Going (a opts : ℕ) (piece : List ℕ) (s₀ : State) (room : ℕ) (s : State) (i n : ℕ) (wrote : List ℕ) : Type 0 where
  pub within : i ≤ length piece
  pub size : length wrote ≡ n
  pub fits : n ≤ room
  pub same : run a opts piece s₀ room ≡ after i wrote (run a opts (drop i piece) s (room - n))

-- the run is over, with this state and reason, i bytes taken and these given
pub record Over (a opts : ℕ) (piece : List ℕ) (s₀ : State) (room : ℕ) (s : State) (w : Why) (i : ℕ) (wrote : List ℕ) : Type 0 where
  pub is : run a opts piece s₀ room ≡ record { state = s; why = w; took = i; wrote = wrote }

pub begins : (a opts : ℕ) (piece : List ℕ) (s : State) (room : ℕ) → Going a opts piece s room s 0 0 []
begins a opts piece s room =
    record { within = zero-le; size = refl; fits = zero-le; same = rw sub-zero (after_none (run a opts piece s room)) }

module _ {a opts : ℕ} {piece : List ℕ} {s₀ : State} {room : ℕ} {s : State} {i n : ℕ} {wrote : List ℕ}
    (g : Going a opts piece s₀ room s i n wrote) where
  peel : i < length piece
      → run a opts (drop i piece) s (room - n) ≡ on_step s (step a opts s (get_or piece i 0))
      (λ m. run a opts (drop (i + 1) piece) m (room - n)) (room - n) (λ m r. run a opts (drop (i + 1) piece) m r)
  unfolding run
  peel h = rw (add-one, drop-cons piece i 0)

  over : {w : Why} → run a opts (drop i piece) s (room - n) ≡ stop s w → Over a opts piece s₀ room s w i wrote
  over e = record { is = g.same ∙ ap (λ (r : Ran). after i wrote r) e ∙ simp (append-nil, add-zero) }

  -- a byte that is taken and gives nothing
  pub goes_on_law : {m : State} → i < length piece → step a opts s (get_or piece i 0) ≡ takes m → Going a opts piece s₀ room m (i + 1) n wrote
  unfolding on_step
  goes_on_law {m} h e = record {
    within = omega arith;
    size = g.size;
    fits = g.fits;
    same =
        g.same
        ∙ ap (λ (r : Ran). after i wrote r)
        (peel h ∙ ap (λ (t : Step). on_step s t (λ m. run a opts (drop (i + 1) piece) m (room - n)) (room - n)
        (λ m r. run a opts (drop (i + 1) piece) m r)) e)
        ∙ after_after i 1 wrote [] (run a opts (drop (i + 1) piece) m (room - n))
        ∙ ap (λ (w : List ℕ). after (i + 1) w (run a opts (drop (i + 1) piece) m (room - n))) (append-nil wrote);
  }

  -- a byte that gives a byte, with room for it
  pub gives_one : {m : State} {x : ℕ} → i < length piece → n < room → step a opts s (get_or piece i 0) ≡ gives x m
      → Going a opts piece s₀ room m (i + 1) (n + 1) (wrote ++ x ∷ [])
  gives_one {m} {x} h l e =
      let left : room - n - 1 ≡ room - (n + 1) = omega arith in
      record {
        within = omega arith;
        size = rw (length-append, g.size);
        fits = omega arith;
        same =
            g.same
            ∙ ap (λ (r : Ran). after i wrote r)
            (peel h ∙ ap (λ (t : Step). on_step s t (λ m. run a opts (drop (i + 1) piece) m (room - n)) (room - n)
            (λ m r. run a opts (drop (i + 1) piece) m r)) e
            ∙ room_less (room - n) (omega arith) s x m (λ m. run a opts (drop (i + 1) piece) m (room - n))
            (λ m r. run a opts (drop (i + 1) piece) m r))
            ∙ after_after i 1 wrote (x ∷ []) (run a opts (drop (i + 1) piece) m (room - n - 1))
            ∙ ap (λ (r : ℕ). after (i + 1) (wrote ++ x ∷ []) (run a opts (drop (i + 1) piece) m r)) left;
      }

  -- a byte that would give a byte, and no room
  pub is_full : {m : State} {x : ℕ} → i < length piece → n ≡ room → step a opts s (get_or piece i 0) ≡ gives x m
      → Over a opts piece s₀ room s full i wrote
  unfolding on_step
  is_full {m} {x} h l e =
      let none : room - n ≡ 0 = omega arith in
      over (peel h
      ∙ ap (λ (t : Step). on_step s t (λ m. run a opts (drop (i + 1) piece) m (room - n)) (room - n)
      (λ m r. run a opts (drop (i + 1) piece) m r)) e
      ∙ ap (λ (r : ℕ). on_step s (gives x m) (λ m. run a opts (drop (i + 1) piece) m (room - n)) r
      (λ m r. run a opts (drop (i + 1) piece) m r)) none)

  -- a byte that is refused
  pub is_refused : {k : ℕ} → i < length piece → step a opts s (get_or piece i 0) ≡ refuses k → Over a opts piece s₀ room s (refused k) i wrote
  unfolding on_step
  is_refused h e = over
      (peel h ∙ ap (λ (t : Step). on_step s t (λ m. run a opts (drop (i + 1) piece) m (room - n)) (room - n)
      (λ m r. run a opts (drop (i + 1) piece) m r)) e)

  -- the piece's end
  pub is_all : length piece ≤ i → Over a opts piece s₀ room s all i wrote
  unfolding run
  is_all h = over (rw (drop_of_length-le piece h))
