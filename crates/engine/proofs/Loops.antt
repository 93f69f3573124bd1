-- What holds where a part of a run is done, that each kind of byte keeps it, and what it gives at the run's end. Assumes nothing.
use Prim.Native.Nat.{ℕ, ◌+◌, ◌-◌, ◌<◌, ◌≤◌}
use mathlib.Core.Path.{◌≡◌, refl, sym, ap, ◌∙◌, subst}
use mathlib.Core.List.{List, [], ◌∷◌, ◌++◌, append_assoc, append-nil}
use native.Mathlib.Nat.{add-zero}
use native.Mathlib.Omega.{arith}
use lib.ListN.{length, take, drop, get_or, set, length-append, length-drop, drop_of_length-le}
use lib.Seq.{take_all, set_at, take_at, drop_at, drop-cons, drop-drop}
use native.Mathlib.Numerals.{add-one}
use Rattle.reading.specs.Reader.{takes, gives, refuses, step}
use Rattle.reading.specs.Sound.{Sound}
use Rattle.reading.specs.Piece.{after, run}
use Rattle.reading.proofs.StepLaws.{Next, Keeps, keeps}
use Rattle.reading.proofs.RunSteps.{Going, after_after, begins, goes_on_law, gives_one, is_full, is_refused, is_all}
use Rattle.rule.specs.declared.Core.{Core}
use Rattle.rule.specs.declared.Cause.{Cause}
use Rattle.rule.proofs.Causes.{cause_back}
use Rattle.engine.specs.declared.piece.Why.TheVariants as W
use Rattle.engine.specs.declared.piece.Ran.{Ran}
use Rattle.rule.specs.Meaning.{state_of, number}
use Rattle.engine.specs.Meaning.{Fit}
use Rattle.reading.specs.Buffer.{filled}
use Rattle.engine.specs.Ran.{why_as, ran_as, Ready}
use Rattle.engine.specs.Loop.{Loop, Filling}

module _ {a opts : ℕ} {piece : List ℕ} {start : Core} {room : ℕ} {k : Core} {i n : ℕ} {wrote : List ℕ} where
  pub going : Loop a opts piece start room k i n wrote → Going a opts piece (state_of start) room (state_of k) i n wrote
  going g = record { within = g.within; size = g.size; fits = g.fits; same = g.same }

  pub looped : Going a opts piece (state_of start) room (state_of k) i n wrote → Sound a (state_of k) → k.taken ≡ start.taken + i
      → Loop a opts piece start room k i n wrote
  looped g s p = record { within = g.within; size = g.size; fits = g.fits; same = g.same; sound = s; place = p }

pub loop_begins : (a opts : ℕ) (piece : List ℕ) (k : Core) (room : ℕ) → Ready a k (length piece) → Loop a opts piece k room k 0 0 []
loop_begins a opts piece k room r = looped (begins a opts piece (state_of k) room) r.sound (sym (add-zero k.taken))

-- the run is over: what the code returns is what the definition gives
pub record Done (a opts : ℕ) (piece : List ℕ) (start : Core) (room : ℕ) (r : Ran) (wrote : List ℕ) : Type 0 where
  pub is : r ≡ ran_as (run a opts piece (state_of start) room)
  pub bytes : (run a opts piece (state_of start) room).wrote ≡ wrote

module _ {a opts : ℕ} {piece : List ℕ} {start : Core} {room : ℕ} {k : Core} {i n : ℕ} {wrote : List ℕ} (h : a < 6)
    (g : Loop a opts piece start room k i n wrote) where
  pub fit : Ready a start (length piece) → i < length piece → Fit a k
  fit r l = record { held = g.sound.held; digits = g.sound.digits; pads = g.sound.pads; taken = omega (arith, g.place, r.within) }

  kept : (c : ℕ) → Keeps a (state_of k) (step a opts (state_of k) c)
  kept c = keeps a h (state_of k) g.sound opts c

  module _ (l : i < length piece) where
    pub loop_takes : {k' : Core} → step a opts (state_of k) (get_or piece i 0) ≡ takes (state_of k')
        → Loop a opts piece start room k' (i + 1) n wrote
    loop_takes {k'} e =
        let m : Next a (state_of k) (state_of k') = subst (Keeps a (state_of k)) e (kept (get_or piece i 0)) in
        looped (goes_on_law (going g) l e) m.sound (omega (arith, m.one, g.place))

    pub loop_gives : {k' : Core} {x : ℕ} → step a opts (state_of k) (get_or piece i 0) ≡ gives x (state_of k') → n < room
        → Loop a opts piece start room k' (i + 1) (n + 1) (wrote ++ x ∷ [])
    loop_gives {k'} {x} e r =
        let m : Next a (state_of k) (state_of k') × (x < 256) = subst (Keeps a (state_of k)) e (kept (get_or piece i 0)) in
        looped (gives_one (going g) l r e) m.0.sound (omega (arith, m.0.one, g.place))

    pub loop_full : {k' : Core} {x : ℕ} → step a opts (state_of k) (get_or piece i 0) ≡ gives x (state_of k') → n ≡ room
        → Done a opts piece start room (record { core = k; why = W.Full; took = i; wrote = n }) wrote
    unfolding why_as
    loop_full e r =
        let o = is_full (going g) l r e in
        record { is = rw (o.is, g.size); bytes = rw o.is }

    pub loop_refused : {c : Cause} → step a opts (state_of k) (get_or piece i 0) ≡ refuses (number c)
        → Done a opts piece start room (record { core = k; why = W.Refused c; took = i; wrote = n }) wrote
    unfolding why_as
    loop_refused {c} e =
        let o = is_refused (going g) l e in
        record { is = rw (o.is, g.size, cause_back c); bytes = rw o.is }

  pub loop_all : length piece ≤ i → Done a opts piece start room (record { core = k; why = W.All; took = i; wrote = n }) wrote
  unfolding why_as
  loop_all l =
      let o = is_all (going g) l in
      record { is = rw (o.is, g.size); bytes = rw o.is }

-- ---- the buffer

-- one byte more at the front
pub stored : (w o : List ℕ) (n x : ℕ) → length w ≡ n → n < length o → set (w ++ drop n o) n x ≡ (w ++ x ∷ []) ++ drop (n + 1) o
stored w o n x e l = rw (drop-cons o n 0 l, set_at w (get_or o n 0) (drop (Prim.Native.Nat.suc n) o) x n e, append_assoc, add-one n)

-- the rest of a list, as the code lends it
pub rest_all : (l : List ℕ) (i : ℕ) → take (length l - i) (drop i l) ≡ drop i l
rest_all l i = take_all (length l - i) (drop i l) (omega (arith, length-drop i l))

pub rest_some : (l : List ℕ) (i : ℕ) → i < length l → 0 < length (take (length l - i) (drop i l))
rest_some l i h = rw (rest_all l i, length-drop) (omega arith)

-- what lies past the rest that was lent
pub past_none : (l : List ℕ) (n : ℕ) → drop (length l - n) (drop n l) ≡ []
past_none l n = drop_of_length-le (drop n l) {i = length l - n} (omega (arith, length-drop n l))

-- bytes v stored at the front of the rest follow the bytes w
pub stored_lent : (w v o : List ℕ) {n : ℕ} {out out' : List ℕ} → length w ≡ n → out ≡ w ++ drop n o
    → out' ≡ filled v (take (length out - n) (drop n out))
    → take n out ++ (out' ++ drop (length out - n) (drop n out)) ≡ (w ++ v) ++ drop (n + length v) o
stored_lent w v o {n} {out} {out'} size front e =
    let rest : drop n out ≡ drop n o = ap (drop n) front ∙ drop_at w (drop n o) n size in
    rw (
      past_none out n,
      append-nil,
      e,
      rest_all out n,
      rest,
      ap (take n) front
          ∙ take_at w (drop n o) n size,
      drop-drop (length v) n o,
      append_assoc,
    )

-- ---- the loop into a buffer

pub filling_begins : (a opts : ℕ) (piece : List ℕ) (k : Core) (out : List ℕ) → Ready a k (length piece)
    → Filling a opts piece k out out k 0 0
filling_begins a opts piece k out r = record { wrote = []; loop = loop_begins a opts piece k (length out) r; front = refl }

module _ {a opts : ℕ} {piece : List ℕ} {start : Core} {out₀ out : List ℕ} {k : Core} {i n : ℕ} (h : a < 6)
    (f : Filling a opts piece start out₀ out k i n) where
  pub same_size : length out ≡ length out₀
  same_size = ap length f.front ∙ simp (length-append, length-drop) (omega (arith, f.loop.size, f.loop.fits))

  -- the rest of the piece can be read
  pub filling_ready : Ready a start (length piece) → Ready a k (length (take (length piece - i) (drop i piece)))
  filling_ready r =
      record {
        sound = f.loop.sound;
        within = rw (rest_all piece i, length-drop)
            (omega (arith, f.loop.within, f.loop.place, r.within));
      }

  pub filling_takes : {k' : Core} → i < length piece → step a opts (state_of k) (get_or piece i 0) ≡ takes (state_of k')
      → Filling a opts piece start out₀ out k' (i + 1) n
  filling_takes {k'} l e = record { wrote = f.wrote; loop = loop_takes h f.loop l {k' = k'} e; front = f.front }

  pub filling_gives : {k' : Core} {x : ℕ} → i < length piece → step a opts (state_of k) (get_or piece i 0) ≡ gives x (state_of k')
      → n < length out₀
      → Filling a opts piece start out₀ (set out n x) k' (i + 1) (n + 1)
  filling_gives {k'} {x} l e r =
      record {
        wrote = f.wrote ++ x ∷ [];
        loop = loop_gives h f.loop l {k' = k'} e r;
        front = ap (λ (o : List ℕ). set o n x) f.front ∙ stored f.wrote out₀ n x f.loop.size r;
      }

  pub filling_done : {q r : Ran} → q ≡ r → Done a opts piece start (length out₀) r f.wrote
      → (q ≡ ran_as (run a opts piece (state_of start) (length out₀))) ×
      (out ≡ filled (run a opts piece (state_of start) (length out₀)).wrote out₀)
  filling_done e d = (e ∙ d.is, rw (d.bytes, f.loop.size) f.front)

  -- where a part of the rest is done into the rest of the buffer, more of the whole is done
  pub filling_joins : {out' : List ℕ} {k' : Core} {m w : ℕ} → Filling a opts (drop i piece) k (drop n out) out' k' m w
      → Filling a opts piece start out₀ (take n out ++ out') k' (i + m) (n + w)
  filling_joins {out'} {k'} {m} {w} g =
      let size : length f.wrote ≡ n = f.loop.size in
      let rest : drop n out ≡ drop n out₀ = ap (drop n) f.front ∙ drop_at f.wrote (drop n out₀) n size in
      let room : length (drop n out) ≡ length out₀ - n = ap length rest ∙ length-drop n out₀ in
      let fits : w ≤ length out₀ - n = omega (arith, g.loop.fits, room) in
      let left : length (drop n out) - w ≡ length out₀ - (n + w) = omega (arith, room) in
      record {
        wrote = f.wrote ++ g.wrote;
        loop = record {
          within = omega (arith, f.loop.within, g.loop.within, length-drop i piece);
          size = rw (length-append, size, g.loop.size);
          fits = omega (arith, f.loop.fits, fits);
          same =
              f.loop.same
              ∙ ap (λ (x : ℕ). after i f.wrote (run a opts (drop i piece) (state_of k) x)) (sym room)
              ∙ ap (after i f.wrote) g.loop.same
              ∙ after_after i m f.wrote g.wrote _
              ∙ rw (left, drop-drop m i piece);
          sound = g.loop.sound;
          place = omega (arith, f.loop.place, g.loop.place);
        };
        front = rw (g.front, ap (take n) f.front ∙ take_at f.wrote (drop n out₀) n size, rest, drop-drop w n out₀, append_assoc);
      }

  -- the same, with the rest of the piece and of the buffer as the code lends them
  pub filling_lent : {out' : List ℕ} {k' : Core} {m w : ℕ}
      → Filling a opts (take (length piece - i) (drop i piece)) k (take (length out - n) (drop n out)) out' k' m w
      → Filling a opts piece start out₀ (take n out ++ (out' ++ drop (length out - n) (drop n out))) k' (i + m) (n + w)
  filling_lent {out'} {k'} {m} {w} g =
      rw (past_none out n, append-nil) (filling_joins (rw (rest_all piece i, rest_all out n) at g))
