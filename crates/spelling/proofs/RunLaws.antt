-- A run over a piece after any source: it takes a start of the piece, gives exactly what the front grows by, holds the bits that are left, and
-- stops only for 01's reasons. Assumes nothing.
use Prim.Native.Nat.{ℕ, ◌+◌, ◌-◌, ◌<◌, ◌≤◌, zero-le}
use mathlib.Core.Path.{◌≡◌, refl, sym, ap, ◌∙◌, subst}
use mathlib.Core.Bool.{Bool, true, false, cond}
use mathlib.Core.List.{List, [], ◌∷◌, ◌++◌, append_assoc, append-nil, map}
use native.Mathlib.Nat.{add_assoc, add-zero}
use native.Mathlib.Numerals.{one-add}
use native.Mathlib.Omega.{arith}
use lib.Dec.{ltb}
use lib.ListN.{length, take, length-append, length-map}
use borrow.Author.Tests.{ltb-true, ltb-false}
use Rattle.alphabet.specs.Written.{written_length}
use Rattle.alphabet.specs.Alphabet.{bits, digit}
use Rattle.reading.specs.Limit.{limit}
use Rattle.spelling.specs.declared.Why.{Why}
use Rattle.spelling.specs.declared.Why.TheVariants as W
use Rattle.spelling.specs.Front.{front, held_of}
use Rattle.spelling.specs.Machine.{Run, stop, after, full_runs, completes, keeps, where_room, on_byte, run}
use Rattle.alphabet.proofs.AlphabetLaws.{bits_low}
use Rattle.spelling.proofs.FrontLaws.{held_snoc, front_snoc, completes_length}

-- why a run that took k bytes of the piece stopped
abbrev pub Because : Why → ℕ → List ℕ → List ℕ → ℕ → ℕ → Type 0
Because W.All a src piece room k = k ≡ length piece
Because W.Limit a src piece room k = (k < length piece) × (limit < written_length a (length src + k + 1))
Because W.Room a src piece room k =
    (k < length piece)
    × (written_length a (length src + k + 1) ≤ limit)
    × (room + length (front a src) < length (front a (src ++ take (k + 1) piece)))

pub record RunAs (a : ℕ) (src piece : List ℕ) (room : ℕ) (R : Run) : Type 0 where
  pub short : R.took ≤ length piece
  pub held : R.held ≡ held_of (bits a) (src ++ take R.took piece)
  pub text : front a src ++ R.wrote ≡ front a (src ++ take R.took piece)
  pub fits : length R.wrote ≤ room
  pub within : written_length a (length src + R.took) ≤ limit
  pub why : Because R.why a src piece room R.took

snoc_length : (src : List ℕ) (c : ℕ) → length (src ++ c ∷ []) ≡ length src + 1
snoc_length src c = length-append src (c ∷ [])

module _ (a : ℕ) (h : a < 6) where
  stopped : (src piece : List ℕ) (room : ℕ) (w : Why) → written_length a (length src) ≤ limit → Because w a src piece room 0
      → RunAs a src piece room (stop (held_of (bits a) src) w)
  stopped src piece room w l y =
      record {
        short = zero-le;
        held = rw append-nil;
        text = rw (append-nil, append-nil);
        fits = zero-le;
        within = rw add-zero l;
        why = y;
      }

  -- the front grows by the digits that a byte completes
  pub front_more : (src : List ℕ) (c : ℕ) → length (front a (src ++ c ∷ [])) ≡ length (front a src) + full_runs (bits a) (length src)
  front_more src c =
      ap length (front_snoc a h src c)
      ∙ simp length-append
      (rw (length-map (completes (bits a) (length src) (held_of (bits a) src) c) (digit a), completes_length (bits a) (length src) (held_of (bits a) src) c))

  module _ (src : List ℕ) (c : ℕ) (cs : List ℕ) (room : ℕ) (roomy : full_runs (bits a) (length src) ≤ room) where
    onward : (k : ℕ) → (src ++ c ∷ []) ++ take k cs ≡ src ++ take (1 + k) (c ∷ cs)
    onward k = rw (one-add k, append_assoc)

    same_why : (w : Why) (k : ℕ) → Because w a (src ++ c ∷ []) cs (room - full_runs (bits a) (length src)) k → Because w a src (c ∷ cs) room (1 + k)
    same_why W.All k y = rw y (one-add (length cs))
    same_why W.Limit k y =
        let e : length (src ++ c ∷ []) + k + 1 ≡ length src + (1 + k) + 1 = omega (arith, snoc_length src c) in
        (omega (arith, y.0), subst (λ (n : ℕ). limit < written_length a n) e y.1)
    same_why W.Room k y =
        let e : length (src ++ c ∷ []) + k + 1 ≡ length src + (1 + k) + 1 = omega (arith, snoc_length src c) in
        let f : (src ++ c ∷ []) ++ take (k + 1) cs ≡ src ++ take (1 + k + 1) (c ∷ cs) = onward (k + 1) ∙ ap (λ (n : ℕ). src ++ take n (c ∷ cs)) (sym (add_assoc 1 k 1)) in (
          omega (arith, y.0),
          subst (λ (n : ℕ). written_length a n ≤ limit) e y.1,
          subst (λ (l : List ℕ). room + length (front a src) < length (front a l)) f (omega (arith, y.2, front_more src c)),
        )

    taken : {R : Run} → RunAs a (src ++ c ∷ []) cs (room - full_runs (bits a) (length src)) R
        → RunAs a src (c ∷ cs) room (after 1 (map (digit a) (completes (bits a) (length src) (held_of (bits a) src) c)) R)
    taken {R} r =
        let ds = completes (bits a) (length src) (held_of (bits a) src) c in
        record {
          short = omega (arith, r.short);
          held = r.held ∙ ap (held_of (bits a)) (onward R.took);
          text = sym (append_assoc (front a src) (map (digit a) ds) R.wrote) ∙ ap (λ (l : List ℕ). l ++ R.wrote) (sym (front_snoc a h src c)) ∙ r.text ∙ ap (front a) (onward R.took);
          fits = simp length-append (omega (arith, r.fits, length-map ds (digit a), completes_length (bits a) (length src) (held_of (bits a) src) c));
          within = subst (λ (n : ℕ). written_length a n ≤ limit) (omega (arith, snoc_length src c)) r.within;
          why = same_why R.why R.took r.why;
        }

  pub run_means : (src piece : List ℕ) (room : ℕ) → written_length a (length src) ≤ limit → RunAs a src piece room (run a (length src) (held_of (bits a) src) piece room)
  unfolding run on_byte where_room
  run_means src [] room l = stopped src [] room W.All l refl
  run_means src (c ∷ cs) room l =
      go (ltb limit (written_length a (length src + 1))) refl (ltb room (full_runs (bits a) (length src))) refl (run_means (src ++ c ∷ []) cs (room - full_runs (bits a) (length src)))
    where
      next : Run
      next = run a (length src + 1) (keeps (bits a) (length src) (held_of (bits a) src) c) cs (room - full_runs (bits a) (length src))

      same : run a (length (src ++ c ∷ [])) (held_of (bits a) (src ++ c ∷ [])) cs (room - full_runs (bits a) (length src)) ≡ next
      same = rw (held_snoc (bits a) (omega (arith, bits_low a h)) src c, snoc_length src c)

      go : (t : Bool) → ltb limit (written_length a (length src + 1)) ≡ t → (u : Bool) → ltb room (full_runs (bits a) (length src)) ≡ u
          → (written_length a (length (src ++ c ∷ [])) ≤ limit → RunAs a (src ++ c ∷ []) cs (room - full_runs (bits a) (length src)) (run a (length (src ++ c ∷ [])) (held_of (bits a) (src ++ c ∷ [])) cs (room - full_runs (bits a) (length src))))
          → RunAs a src (c ∷ cs) room (on_byte a (length src) (held_of (bits a) src) c room next)
      go true e u f ih = rw e (stopped src (c ∷ cs) room W.Limit l (omega arith, rw add-zero (ltb-true _ _ e)))
      go false e true f ih =
          rw (e, f)
          (stopped src (c ∷ cs) room W.Room l (omega arith, rw add-zero (ltb-false limit (written_length a (length src + 1)) e), omega (arith, front_more src c, ltb-true room (full_runs (bits a) (length src)) f)))
      go false e false f ih =
          rw (e, f)
          (taken src c cs room (ltb-false room (full_runs (bits a) (length src)) f)
          (rw same at (ih (rw (snoc_length src c) (ltb-false limit (written_length a (length src + 1)) e)))))

-- from any numbers, a run takes no more than the piece has
pub run_short : (a n held : ℕ) (piece : List ℕ) (room : ℕ) → (run a n held piece room).took ≤ length piece
unfolding run on_byte where_room
run_short a n held [] room = zero-le
run_short a n held (c ∷ cs) room =
    go (ltb limit (written_length a (n + 1))) (ltb room (full_runs (bits a) n)) (run_short a (n + 1) (keeps (bits a) n held c) cs (room - full_runs (bits a) n))
  where
    next : Run
    next = run a (n + 1) (keeps (bits a) n held c) cs (room - full_runs (bits a) n)

    go : (t u : Bool) → next.took ≤ length cs
        → (cond t (stop held W.Limit) (cond u (stop held W.Room) (after 1 (map (digit a) (completes (bits a) n held c)) next))).took ≤ length (c ∷ cs)
    go true u l = zero-le
    go false true l = zero-le
    go false false l = omega arith
