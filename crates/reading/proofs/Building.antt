-- The states that texts lead to: what such a state fits, and for each state that fits a text: its digits, then its pads, then bytes that are
-- dropped. Assumes nothing.
use Prim.Native.Nat.{ℕ, zero, suc, ◌+◌, ◌-◌, ◌%◌, ◌^◌, ◌<◌, ◌≤◌}
use mathlib.Core.Path.{◌≡◌, refl, sym, ap, ap₂, ◌∙◌, subst}
use mathlib.Core.Logic.{inl, inr}
use mathlib.Core.Bool.{Bool, true, false, cond}
use mathlib.Core.List.{List, [], ◌∷◌, ◌++◌, map, append-nil}
use native.Mathlib.Omega.{arith}
use lib.Dec.{ltb}
use lib.ListN.{length, length-append, length-map, length-replicate, replicate}
use borrow.Author.Tests.{ltb-true, ltb-false}
use Rattle.alphabet.specs.Bits.{Below}
use Rattle.alphabet.specs.Digits.{bytes_of}
use Rattle.alphabet.specs.Alphabet.{bits, group, tail, digit, pad}
use Rattle.alphabet.proofs.Below.{below_append, below_replicate}
use Rattle.alphabet.proofs.Edges.{digit_own}
use Rattle.alphabet.proofs.Shapes.{shape, shape_below}
use Rattle.alphabet.proofs.Symbols.{digit_printable}
use Rattle.alphabet.proofs.DigitLaws.{regrouped}
use Rattle.alphabet.proofs.Leaving.{Leaving, leaving}
use Rattle.reading.specs.Options.{lines, blank, any_spare, any_case, allowed}
use Rattle.reading.specs.Cleaning.{dropped, kept, turned}
use Rattle.reading.specs.Reader.{State, Reading, going, fresh, wants, held_bits, feed_all}
use Rattle.reading.proofs.ReaderLaws.{state, seen}
use Rattle.reading.proofs.OptionLaws.{allowed_case}
use Rattle.reading.proofs.PlainText.{plain, plain_append, turned_pad, kept_high, own_stays, drops_exactly}
use Rattle.reading.proofs.Seen.{Seen, fresh_seen}
use Rattle.reading.proofs.AcceptedIsZero.{feed_shape}
use Rattle.reading.proofs.Continuations.{plain_one}
use Rattle.reading.proofs.Fronts.{seen_going}

-- what every state fits that a text leads to
pub record Fits (a opts : ℕ) (s : State) : Type 0 where
  pub counts : s.digits + s.pads ≤ s.taken
  pub exact : lines opts ≡ false → blank opts ≡ false → s.taken ≡ s.digits + s.pads
  pub held : s.held < 2 ^ held_bits a s
  pub pads : s.pads ≤ wants a s
  pub clear : 0 < s.pads → any_spare opts ≡ false → s.held ≡ 0

-- a text that leads to the state
pub record Leads (a opts : ℕ) (s : State) : Type 0 where
  pub text : List ℕ
  pub bytes : Below 256 text
  pub size : length text ≡ s.taken
  pub out : List ℕ
  pub reads : feed_all a opts (going fresh []) text ≡ going s out

-- ---- a text leads to a state that fits

kept_short : (opts : ℕ) (t : List ℕ) → length (kept opts t) ≤ length t
unfolding kept
kept_short opts [] = omega arith
kept_short opts (c ∷ t) = go (dropped opts c) (kept_short opts t)
  where
    go : (x : Bool) → length (kept opts t) ≤ length t → length (cond x (kept opts t) (c ∷ kept opts t)) ≤ suc (length t)
    go true l = omega arith
    go false l = omega arith

kept_all : (opts : ℕ) (t : List ℕ) → lines opts ≡ false → blank opts ≡ false → length (kept opts t) ≡ length t
unfolding kept dropped
kept_all opts [] e f = refl
kept_all opts (c ∷ t) e f = rw (e, f, kept_all opts t e f)

module _ (a : ℕ) (h : a < 6) (opts : ℕ) (t : List ℕ) where
  seen_fits : (r : Seen a opts t (feed_all a opts (going fresh []) t)) → Fits a opts (state a r.values r.pads (length t))
  unfolding held_bits wants
  seen_fits r =
      let n : length (kept opts t) ≡ length r.values + r.pads = simp (length-append, length-map, length-replicate) at (ap length r.spelt) in
      record {
        counts = omega (arith, kept_short opts t);
        exact = λ e f. omega (arith, kept_all opts t e f);
        held = (regrouped (bits a) r.values).small;
        pads = go (ltb 0 r.pads) refl;
        clear = λ l e. (r.tailed l).clear e;
      }
    where
      go : (x : Bool) → ltb 0 r.pads ≡ x → r.pads ≤ tail a (length r.values % group a)
      go true e = (r.tailed (ltb-true 0 r.pads e)).fits
      go false e = omega (arith, ltb-false 0 r.pads e)

  pub led_fits : {s : State} {out : List ℕ} → feed_all a opts (going fresh []) t ≡ going s out → Fits a opts s
  led_fits {s} {out} e =
      let r : Seen a opts t (feed_all a opts (going fresh []) t) = seen_going a h opts t e in
      let g : seen a r.values r.pads (length t) ≡ going s out = sym r.here ∙ e in
      let same : state a r.values r.pads (length t) ≡ s = cc in
      subst (Fits a opts) same (seen_fits r)

-- ---- and to each state that fits

module _ (a : ℕ) (h : a < 6) (opts : ℕ) (c : allowed a opts ≡ true) where
  -- digits stay as they are

  digit_stays : {v : ℕ} → v < 2 ^ bits a → turned a opts (digit a v) ≡ digit a v
  unfolding turned
  digit_stays {v} l = go (any_case opts) refl
    where
      go : (x : Bool) → any_case opts ≡ x → turned a opts (digit a v) ≡ digit a v
      go true e = own_stays a opts (digit a v) (digit_own a h (allowed_case a opts c e) l)
      go false e = rw e

  plain_digits : (ds : List ℕ) → Below (2 ^ bits a) ds → plain a opts (map (digit a) ds) ≡ map (digit a) ds
  unfolding kept
  plain_digits [] l = refl
  plain_digits (v ∷ ds) l = rw (kept_high opts (digit a v) (digit_printable a h l.0).0, digit_stays l.0, plain_digits ds l.1)

  pub digits_read : (ds : List ℕ) → Below (2 ^ bits a) ds → feed_all a opts (going fresh []) (map (digit a) ds) ≡ seen a ds 0 (length ds)
  digits_read ds l =
      let size : 0 + length (map (digit a) ds) ≡ length ds = omega (arith, length-map ds (digit a)) in
      ap (λ (r : Reading). feed_all a opts r (map (digit a) ds)) (fresh_seen a)
      ∙ feed_shape a h opts (map (digit a) ds) [] ds 0 0 l (plain_digits ds l ∙ sym (append-nil (map (digit a) ds))) (omega arith) (λ n. absurd (omega arith))
      ∙ ap (seen a ds 0) size

  -- bytes that are dropped

  plain_dropped : (b n : ℕ) → dropped opts b ≡ true → plain a opts (replicate n b) ≡ []
  unfolding kept
  plain_dropped b zero e = refl
  plain_dropped b (suc n) e = rw e (plain_dropped b n e)

  -- n bytes that are dropped
  record Dropping (n : ℕ) : Type 0 where
    text : List ℕ
    bytes : Below 256 text
    size : length text ≡ n
    none : plain a opts text ≡ []

  drops : (b : ℕ) → b < 256 → dropped opts b ≡ true → (n : ℕ) → Dropping n
  drops b l e n = record { text = replicate n b; bytes = below_replicate 256 n l; size = length-replicate n b; none = plain_dropped b n e }

  dropping : (n : ℕ) → (lines opts ≡ false → blank opts ≡ false → n ≡ 0) → Dropping n
  unfolding kept dropped
  dropping n f = go (lines opts) refl (blank opts) refl
    where
      go : (x : Bool) → lines opts ≡ x → (y : Bool) → blank opts ≡ y → Dropping n
      go true e y g = drops 10 (omega arith) ((drops_exactly opts 10).1 (inl (e, inr refl))) n
      go false e true g = drops 32 (omega arith) ((drops_exactly opts 32).1 (inr (g, inl refl))) n
      go false e false g = record { text = []; bytes = tt; size = sym (f e g); none = refl }

  -- the text

  module _ (s : State) (f : Fits a opts s) where
    ds : Leaving (bits a) s.digits s.held
    unfolding held_bits
    ds = leaving (bits a) s.digits s.held f.held

    rest : Dropping (s.taken - (s.digits + s.pads))
    rest = dropping (s.taken - (s.digits + s.pads)) (λ e g. omega (arith, f.exact e g))

    built : List ℕ
    built = shape a ds.values s.pads ++ rest.text

    built_plain : plain a opts built ≡ shape a ds.values s.pads
    unfolding built
    built_plain =
        plain_append a opts (shape a ds.values s.pads) rest.text
        ∙ ap₂ (λ (p q : List ℕ). p ++ q)
        (plain_append a opts (map (digit a) ds.values) (replicate s.pads pad)
        ∙ ap₂ (λ (p q : List ℕ). p ++ q) (plain_digits ds.values ds.below) (plain_one a opts pad (omega arith) (turned_pad a opts) s.pads))
        rest.none
        ∙ append-nil (shape a ds.values s.pads)

    built_size : length built ≡ s.taken
    unfolding built
    built_size = simp (length-append, length-map, length-replicate) (omega (arith, ds.count, rest.size, f.counts))

    built_bytes : Below 256 built
    unfolding built
    built_bytes = below_append 256 (shape a ds.values s.pads) rest.text (shape_below a h ds.values s.pads ds.below) rest.bytes

    fits : s.pads ≤ tail a (length ds.values % group a)
    unfolding wants
    fits = rw ds.count f.pads

    built_reads : feed_all a opts (going fresh []) built ≡ going s (bytes_of (bits a) ds.values)
    built_reads =
        ap (λ (r : Reading). feed_all a opts r built) (fresh_seen a)
        ∙ feed_shape a h opts built [] ds.values s.pads 0 ds.below built_plain fits (λ l e. ds.left ∙ f.clear l e)
        ∙ here
      where
        size : 0 + length built ≡ s.taken
        size = omega (arith, built_size)

        here : seen a ds.values s.pads (0 + length built) ≡ going s (bytes_of (bits a) ds.values)
        here j = going (record { digits = ds.count j; held = ds.left j; pads = s.pads; taken = size j }) (bytes_of (bits a) ds.values)

    -- each such state is led to
    pub leads : Leads a opts s
    leads = record { text = built; bytes = built_bytes; size = built_size; out = bytes_of (bits a) ds.values; reads = built_reads }
