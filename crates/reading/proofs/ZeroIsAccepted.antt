-- Where the reader answers 0, the text is accepted, and its cleaned text is the written form of the good bytes. Assumes nothing.
use Prim.Native.Nat.{ℕ, suc, ◌+◌, ◌-◌, ◌*◌, ◌/◌, ◌%◌, ◌^◌, ◌<◌}
use mathlib.Core.Path.{◌≡◌, refl, sym, ap, ◌∙◌}
use mathlib.Core.Logic.{◌⊎◌, inl, inr}
use mathlib.Core.Bool.{Bool, true, false, cond, not, ◌&&◌, ◌||◌}
use mathlib.Core.List.{List, [], ◌∷◌, ◌++◌, map}
use native.Mathlib.Nat.{mod-lt, zero-mod, div-mul-le_self, lt_of_le_of_lt}
use native.Mathlib.Omega.{arith}
use lib.Dec.{eqb, ltb}
use lib.ListN.{length, length-append, length-map, length-replicate}
use borrow.Author.Tests.{ltb-true, ltb-false, eqb-true, eqb-false}
use Rattle.alphabet.specs.Digits.{digits_of, bytes_of, left_of}
use Rattle.alphabet.specs.Written.{spelled, wanting, written}
use Rattle.alphabet.specs.Bits.{Below}
use Rattle.alphabet.specs.Alphabet.{bits, group, tail, spare, digit}
use Rattle.alphabet.proofs.Shapes.{spelled_is, written_spelled, shape, shape_last, digit_no_pad}
use Rattle.alphabet.proofs.SpareBits.{clear_low, cleared_left, cleared_bytes}
use Rattle.alphabet.proofs.DigitLaws.{digits_bytes, bytes_below}
use Rattle.alphabet.proofs.AlphabetLaws.{group_pos, tail_padded, spare_none, spare_tail}
use Rattle.alphabet.proofs.Below.{below_snoc}
use Rattle.alphabet.proofs.WrittenLaws.{ByDigits, wanting_none, wanting_some, last_group, InTable, in_table, table_in, full_whole}
use Rattle.alphabet.proofs.Lengths.{fill_whole}
use Rattle.reading.specs.Options.{any_spare, nopad}
use Rattle.reading.specs.Cleaning.{refilled, pad_run, cleared, clean, Accepted}
use Rattle.reading.specs.Reader.{Reading, going, fresh, wants, ending, feed_all, finish, read_all}
use Rattle.reading.proofs.ReaderLaws.{and_false, state, Tailed, Stop}
use Rattle.reading.proofs.Seen.{Seen, progress, start}
use Rattle.reading.proofs.CleaningLaws.{pads_after, pads_kept, pads_added, pads_none, refilled_shape, run_shape, cleared_none, cleared_full, cleared_shape}

-- digits and pads that make an accepted text
pub record Closed (a opts : ℕ) (ds : List ℕ) (p : ℕ) : Type 0 where
  pub pads : pads_after a opts ds p ≡ wanting (group a) (length ds)
  pub few : bits a * length ds % 8 < bits a
  pub clear : any_spare opts ≡ false → left_of (bits a) ds ≡ 0

-- ---- closed digits and pads are accepted

-- the text is spelled by whole digits that give the same bytes as ds
pub record Tidy (a : ℕ) (ds t : List ℕ) : Type 0 where
  pub digits : ByDigits a t
  pub same : bytes_of (bits a) digits.values ≡ bytes_of (bits a) ds

-- such a text is the written form of these bytes
pub tidy_written : (a : ℕ) (ds t : List ℕ) → Tidy a ds t → written a (bytes_of (bits a) ds) ≡ t
tidy_written a ds t y =
    written_spelled a (bytes_of (bits a) ds)
    ∙ ap (λ (bytes : List ℕ). spelled a (digits_of (bits a) bytes)) (sym y.same)
    ∙ ap (spelled a) (digits_bytes (bits a) y.digits.values y.digits.below y.digits.whole)
    ∙ y.digits.form

-- a list is empty, or has a last element
pub data Snoc : List ℕ → Type 0 where
  none : Snoc []
  some : (ds : List ℕ) (v : ℕ) → Snoc (ds ++ v ∷ [])

pub snoc : (ds : List ℕ) → Snoc ds
snoc [] = none
snoc (x ∷ ds) = go (snoc ds)
  where
    go : {es : List ℕ} → Snoc es → Snoc (x ∷ es)
    go none = some [] x
    go (some fs v) = some (x ∷ fs) v

pub below_last : (m : ℕ) (ds : List ℕ) {v : ℕ} → Below m (ds ++ v ∷ []) → Below m ds × (v < m)
below_last m [] l = (tt, l.0)
below_last m (x ∷ ds) l = let r = below_last m ds l.1 in ((l.0, r.0), r.1)

run_none : (a : ℕ) → a < 6 → (ds : List ℕ) → Below (2 ^ bits a) ds → pad_run (shape a ds 0) ≡ 0
unfolding pad_run
run_none a h ds l = go (snoc ds) l
  where
    go : {es : List ℕ} → Snoc es → Below (2 ^ bits a) es → pad_run (shape a es 0) ≡ 0
    go none l = refl
    go (some fs v) l = rw shape_last (run_shape 0 (digit a v) (map (digit a) fs) (digit_no_pad a h (below_last (2 ^ bits a) fs l).1))

module _ (a : ℕ) (h : a < 6) (opts : ℕ) where
  -- the last digit's spare bits are cleared
  spelled_last : (ds : List ℕ) (v : ℕ) → Below (2 ^ bits a) (ds ++ v ∷ []) → bits a * length (ds ++ v ∷ []) % 8 < bits a → 0 < length (ds ++ v ∷ []) % group a
      → any_spare opts ≡ true → Tidy a (ds ++ v ∷ []) (cleared a opts (shape a (ds ++ v ∷ []) (wanting (group a) (length (ds ++ v ∷ [])))))
  spelled_last ds v l f k e =
      let n : ℕ = length (ds ++ v ∷ []) in
      let w : ℕ = wanting (group a) n in
      let lt : n % group a < group a = mod-lt n (group_pos a h) in
      let t : tail a (n % group a) ≡ group a - n % group a = table_in a h (n % group a) lt k (omega (arith, last_group a h n)) in
      let tw : tail a (n % group a) ≡ w = t ∙ sym (wanting_some (group a) n (group_pos a h) k) in
      let st : (spare a (tail a (n % group a)) ≡ bits a * (n % group a) % 8) × (0 < bits a * (n % group a) % 8) = spare_tail a h lt (omega arith) in
      let sw : spare a w ≡ bits a * n % 8 = ap (spare a) (sym tw) ∙ st.0 ∙ sym (last_group a h n) in
      let v< : v < 2 ^ bits a = (below_last (2 ^ bits a) ds l).1 in
      let full : length (shape a (ds ++ v ∷ []) w) % group a ≡ 0 = simp (length-append (map (digit a) (ds ++ v ∷ [])), length-map, length-replicate) (fill_whole (group a) n (group_pos a h)) in
      let c : ℕ = clear_low (spare a w) v in
      let same : length (ds ++ c ∷ []) ≡ n = length-append ds (c ∷ []) ∙ sym (length-append ds (v ∷ [])) in
      let longer : suc (length ds) ≡ n = omega (arith, length-append ds (v ∷ [])) in
      let size : bits a * suc (length ds) ≡ 8 * (bits a * n / 8) + spare a w = rw longer (omega (arith, sw)) in
      rw (cleared_shape a h opts ds v w v< e full (omega (arith, sw, st.1, last_group a h n)))
      (record {
        digits =
            record {
              values = ds ++ c ∷ [];
              below = below_snoc (2 ^ bits a) ds (below_last (2 ^ bits a) ds l).0 (lt_of_le_of_lt (div-mul-le_self v (2 ^ spare a w)) v<);
              whole = record { few = rw same f; clear = cleared_left (bits a) ds v (spare a w) (bits a * n / 8) (omega (arith, sw)) (omega (arith, sw)) size };
              form = spelled_is a (ds ++ c ∷ []) ∙ ap (λ (m : ℕ). shape a (ds ++ c ∷ []) (wanting (group a) m)) same;
            };
        same = cleared_bytes (bits a) ds v (spare a w) (bits a * n / 8) (omega (arith, sw)) (omega (arith, sw)) size;
      })

  spelled_clear : (ds : List ℕ) → Below (2 ^ bits a) ds → bits a * length ds % 8 < bits a → 0 < length ds % group a → any_spare opts ≡ true
      → Tidy a ds (cleared a opts (shape a ds (wanting (group a) (length ds))))
  spelled_clear ds l f k e = go (snoc ds) l f k
    where
      go : {es : List ℕ} → Snoc es → Below (2 ^ bits a) es → bits a * length es % 8 < bits a → 0 < length es % group a → Tidy a es (cleared a opts (shape a es (wanting (group a) (length es))))
      go none l f k = absurd (omega (arith, zero-mod (group a)))
      go (some fs v) l f k = spelled_last fs v l f k e

  pub closed_tidy : (ds : List ℕ) (p : ℕ) → Below (2 ^ bits a) ds → Closed a opts ds p → Tidy a ds (cleared a opts (refilled a opts (shape a ds p)))
  closed_tidy ds p l c =
      rw (refilled_shape a h opts ds p l, c.pads) (go (any_spare opts) refl (eqb (length ds % group a) 0) refl)
    where
      go : (x : Bool) → any_spare opts ≡ x → (y : Bool) → eqb (length ds % group a) 0 ≡ y → Tidy a ds (cleared a opts (shape a ds (wanting (group a) (length ds))))
      go false e y f =
          rw (cleared_none a opts (shape a ds (wanting (group a) (length ds))) e)
          (record { digits = record { values = ds; below = l; whole = record { few = c.few; clear = c.clear e }; form = spelled_is a ds }; same = refl })
      go true e true f =
          let z : length ds % group a ≡ 0 = eqb-true (length ds % group a) 0 f in
          let w : wanting (group a) (length ds) ≡ 0 = wanting_none (group a) (length ds) z in
          let s : spare a (pad_run (shape a ds (wanting (group a) (length ds)))) ≡ 0 = rw (w, run_none a h ds l) (spare_none a h) in
          rw (cleared_full a opts (shape a ds (wanting (group a) (length ds))) s)
          (record { digits = record { values = ds; below = l; whole = full_whole a h ds z; form = spelled_is a ds }; same = refl })
      go true e false f = spelled_clear ds l c.few (omega (arith, eqb-false (length ds % group a) 0 f)) e

  -- ---- what the reader's end says

  pub by_table : (ds : List ℕ) → 0 < tail a (length ds % group a) → (wanting (group a) (length ds) ≡ tail a (length ds % group a)) × (bits a * length ds % 8 < bits a)
  by_table ds l =
      let k : InTable a (length ds % group a) = in_table a h (length ds % group a) (mod-lt (length ds) (group_pos a h)) l in
      (wanting_some (group a) (length ds) (group_pos a h) k.some ∙ sym k.pads, omega (arith, last_group a h (length ds), k.few))

  pub ended : (ds : List ℕ) (p i : ℕ) → (0 < p → Tailed a opts ds p) → ending a opts (state a ds p i) ≡ 0 → Closed a opts ds p
  unfolding ending wants
  ended ds p i t e =
      go (ltb 0 p) refl (eqb p (tail a (length ds % group a))) refl (eqb (length ds % group a) 0) refl (nopad opts) refl (eqb (tail a (length ds % group a)) 0) refl
      (not (eqb (left_of (bits a) ds) 0) && not (any_spare opts)) refl e
    where
      go : (x : Bool) → ltb 0 p ≡ x → (y : Bool) → eqb p (tail a (length ds % group a)) ≡ y → (z : Bool) → eqb (length ds % group a) 0 ≡ z → (n : Bool) → nopad opts ≡ n
          → (u : Bool) → eqb (tail a (length ds % group a)) 0 ≡ u → (q : Bool) → (not (eqb (left_of (bits a) ds) 0) && not (any_spare opts)) ≡ q
          → ◌≡◌ {A = ℕ} (cond x (cond y 0 8) (cond z 0 (cond (not n || u) 8 (cond q 6 0)))) 0 → Closed a opts ds p
      go true e true f z g n k u l q m r =
          let p> : 0 < p = ltb-true 0 p e in
          let pt : p ≡ tail a (length ds % group a) = eqb-true p (tail a (length ds % group a)) f in
          let b = by_table ds (omega arith) in
          record { pads = pads_kept a opts ds p p> ∙ pt ∙ sym b.0; few = b.1; clear = (t p>).clear }
      go true e false f z g n k u l q m r = absurd (omega (arith, r))
      go false e y f true g n k u l q m r =
          let z : length ds % group a ≡ 0 = eqb-true (length ds % group a) 0 g in
          let w : wanting (group a) (length ds) ≡ 0 = wanting_none (group a) (length ds) z in
          let p0 : p ≡ 0 = omega (arith, ltb-false 0 p e) in
          record { pads = ap (pads_after a opts ds) p0 ∙ pads_none a opts ds w ∙ sym w; few = (full_whole a h ds z).few; clear = λ s. (full_whole a h ds z).clear }
      go false e y f false g false k u l q m r = absurd (omega (arith, r))
      go false e y f false g true k true l q m r = absurd (omega (arith, r))
      go false e y f false g true k false l true m r = absurd (omega (arith, r))
      go false e y f false g true k false l false m r =
          let p0 : p ≡ 0 = omega (arith, ltb-false 0 p e) in
          let t> : 0 < tail a (length ds % group a) = omega (arith, eqb-false (tail a (length ds % group a)) 0 l) in
          record {
            pads = ap (pads_after a opts ds) p0 ∙ pads_added a opts ds k (tail_padded a h (mod-lt (length ds) (group_pos a h)) t>);
            few = (by_table ds t>).1;
            clear = λ s. eqb-true (left_of (bits a) ds) 0 (and_false (eqb (left_of (bits a) ds) 0) (any_spare opts) m s);
          }

  -- answer 0: the cleaned text is the written form of the good bytes
  pub accepts→written : (t : List ℕ) → (read_all a opts t).answer ≡ 0 → written a (read_all a opts t).good ≡ clean a opts t
  unfolding read_all finish clean
  accepts→written t e = go (progress a h opts [] t (going fresh []) (start a opts))
    where
      go : Seen a opts t (feed_all a opts (going fresh []) t) ⊎ Stop (feed_all a opts (going fresh []) t) → written a (read_all a opts t).good ≡ clean a opts t
      go (inl s) =
          let y : Tidy a s.values (cleared a opts (refilled a opts (shape a s.values s.pads))) =
          closed_tidy s.values s.pads s.below
          (ended s.values s.pads (length t) s.tailed (sym (ap (λ (z : Reading). (finish a opts z).answer) s.here) ∙ e)) in
          rw (s.spelt, s.here) (tidy_written a s.values (cleared a opts (refilled a opts (shape a s.values s.pads))) y)
      go (inr x) = absurd (omega (arith, x.4, sym (ap (λ (z : Reading). (finish a opts z).answer) x.3) ∙ e))

  pub good_below : (t : List ℕ) → (read_all a opts t).answer ≡ 0 → Below 256 (read_all a opts t).good
  unfolding read_all finish
  good_below t e = go (progress a h opts [] t (going fresh []) (start a opts))
    where
      go : Seen a opts t (feed_all a opts (going fresh []) t) ⊎ Stop (feed_all a opts (going fresh []) t) → Below 256 (read_all a opts t).good
      go (inl s) = rw s.here (bytes_below (bits a) s.values)
      go (inr x) = absurd (omega (arith, x.4, sym (ap (λ (z : Reading). (finish a opts z).answer) x.3) ∙ e))

  pub accepts→accepted : (t : List ℕ) → (read_all a opts t).answer ≡ 0 → Accepted a opts t
  accepts→accepted t e = record { source = (read_all a opts t).good; bytes = good_below t e; form = accepts→written t e }
