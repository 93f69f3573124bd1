-- A refused text has no accepted continuation; a text that is read has one: its pads completed, or its last group filled with digits of one value.
-- Assumes nothing.
use Prim.Native.Nat.{ℕ, zero, suc, ◌+◌, ◌-◌, ◌%◌, ◌^◌, ◌<◌}
use mathlib.Core.Path.{◌≡◌, refl, sym, ap, ap₂, ◌∙◌}
use mathlib.Core.Bool.{Bool, true, false}
use mathlib.Core.List.{List, [], ◌∷◌, ◌++◌, map, append_assoc, append-nil, map-append}
use native.Mathlib.Omega.{arith}
use lib.Dec.{ltb}
use lib.ListN.{length, length-append, length-replicate, replicate, replicate-append-replicate}
use borrow.Author.Tests.{ltb-true, ltb-false}
use Rattle.alphabet.specs.Bits.{Below}
use Rattle.alphabet.specs.Digits.{bytes_of}
use Rattle.alphabet.specs.Alphabet.{bits, group, tail, digit, pad}
use Rattle.alphabet.specs.Written.{wanting, written}
use Rattle.alphabet.proofs.AlphabetLaws.{group_pos}
use Rattle.alphabet.proofs.DigitLaws.{bytes_below}
use Rattle.alphabet.proofs.Edges.{edge, edge_below, edge_own}
use Rattle.alphabet.proofs.Symbols.{digit_printable, digit_byte}
use Rattle.alphabet.proofs.Below.{below_append, below_replicate}
use Rattle.alphabet.proofs.Lengths.{fill_whole}
use Rattle.alphabet.proofs.Shapes.{shape}
use Rattle.alphabet.proofs.WrittenLaws.{wanting_none, full_whole}
use Rattle.reading.specs.Cleaning.{kept, turned, clean, Accepted, refilled, cleared}
use Rattle.reading.specs.Continuation.{Continued, Continuation}
use Rattle.reading.specs.Reader.{Reading, going, fresh, feed_all, finish, read_all}
use Rattle.reading.proofs.ReaderLaws.{Tailed, Stop}
use Rattle.reading.proofs.PlainText.{plain, plain_append, turned_pad, kept_high, own_stays}
use Rattle.reading.proofs.Seen.{Seen, feed_append, feed_stopped}
use Rattle.reading.proofs.CleaningLaws.{pads_kept, pads_none}
use Rattle.reading.proofs.ZeroIsAccepted.{closed_tidy, tidy_written, by_table, Closed}
use Rattle.reading.proofs.AcceptedIsZero.{accepted→accepts}

-- ---- lists of one value

pub plain_one : (a opts c : ℕ) → 32 < c → turned a opts c ≡ c → (n : ℕ) → plain a opts (replicate n c) ≡ replicate n c
unfolding kept
plain_one a opts c l e zero = refl
plain_one a opts c l e (suc n) = rw (kept_high opts c l, e, plain_one a opts c l e n)

map_replicate : (f : ℕ → ℕ) (n v : ℕ) → map f (replicate n v) ≡ replicate n (f v)
map_replicate f zero v = refl
map_replicate f (suc n) v = ap (λ (xs : List ℕ). f v ∷ xs) (map_replicate f n v)

module _ (a : ℕ) (h : a < 6) (opts : ℕ) where
  -- ---- a refused text

  pub refused_none : (t u : List ℕ) → Stop (feed_all a opts (going fresh []) t) → Accepted a opts (t ++ u) → ⊥
  unfolding read_all finish
  refused_none t u x c =
      omega (
        arith,
        x.4,
        accepted→accepts a h opts (t ++ u) c,
        ap (λ (r : Reading). (finish a opts r).answer)
            (feed_append a opts (going fresh []) t u ∙ ap (λ (r : Reading). feed_all a opts r u) x.3 ∙ feed_stopped a opts x.0 x.1 x.2 u),
      )

  -- ---- a text that is read

  -- the bytes of a text of closed digits and pads are those of its digits
  written_by : (t ds : List ℕ) (p : ℕ) → Below (2 ^ bits a) ds → plain a opts t ≡ shape a ds p → Closed a opts ds p → written a (bytes_of (bits a) ds) ≡ clean a opts t
  unfolding clean
  written_by t ds p l e c =
      tidy_written a ds (cleared a opts (refilled a opts (shape a ds p))) (closed_tidy a h opts ds p l c)
      ∙ ap (λ (u : List ℕ). cleared a opts (refilled a opts u)) (sym e)

  module _ (t : List ℕ) (r : Reading) (s : Seen a opts t r) where
    -- padding that was begun is completed, and adds no byte
    pub pads_on : 0 < s.pads → Continuation a opts t (bytes_of (bits a) s.values)
    pads_on q =
        let ds : List ℕ = s.values in
        let y : Tailed a opts ds s.pads = s.tailed q in
        let n : ℕ = tail a (length ds % group a) in
        let m : s.pads + (n - s.pads) ≡ n = omega (arith, y.fits) in
        let n> : 0 < n = omega (arith, y.fits) in
        let b = by_table a h opts ds n> in
        record {
          more = replicate (n - s.pads) pad;
          bytes = below_replicate 256 (n - s.pads) (omega arith);
          source = bytes_below (bits a) ds;
          form =
              written_by (t ++ replicate (n - s.pads) pad) ds n s.below
              (plain_append a opts t (replicate (n - s.pads) pad)
              ∙ ap₂ (λ (p q : List ℕ). p ++ q) s.spelt (plain_one a opts pad (omega arith) (turned_pad a opts) (n - s.pads))
              ∙ append_assoc (map (digit a) ds) (replicate s.pads pad) (replicate (n - s.pads) pad)
              ∙ ap (λ (p : List ℕ). map (digit a) ds ++ p) (replicate-append-replicate s.pads (n - s.pads) pad ∙ ap (λ (k : ℕ). replicate k pad) m))
              (record { pads = pads_kept a opts ds n n> ∙ sym b.0; few = b.1; clear = y.clear });
        }

    -- digits of all clear or all set bits may follow, up to the end of a group
    pub digits_on : s.pads ≡ 0 → (x : Bool) (k : ℕ) → (length s.values + k) % group a ≡ 0
        → Continuation a opts t (bytes_of (bits a) (s.values ++ replicate k (edge a x)))
    digits_on p0 x k g =
        let ds : List ℕ = s.values in
        let v : ℕ = edge a x in
        let v< : v < 2 ^ bits a = edge_below a x in
        let es : List ℕ = ds ++ replicate k v in
        let full : length es % group a ≡ 0 = simp (length-append ds, length-replicate) g in
        let none : wanting (group a) (length es) ≡ 0 = wanting_none (group a) (length es) full in
        record {
          more = replicate k (digit a v);
          bytes = below_replicate 256 k (omega (arith, digit_byte a h v<));
          source = bytes_below (bits a) es;
          form =
              written_by (t ++ replicate k (digit a v)) es 0 (below_append (2 ^ bits a) ds (replicate k v) s.below (below_replicate (2 ^ bits a) k v<))
              (plain_append a opts t (replicate k (digit a v))
              ∙ ap₂ (λ (p q : List ℕ). p ++ q) (s.spelt ∙ ap (λ (j : ℕ). map (digit a) ds ++ replicate j pad) p0 ∙ append-nil (map (digit a) ds))
              (plain_one a opts (digit a v) (digit_printable a h v<).0 (own_stays a opts (digit a v) (edge_own a h x)) k)
              ∙ rw (append-nil, map-append, map_replicate (digit a) k v))
              (record { pads = pads_none a opts es none ∙ sym none; few = (full_whole a h es full).few; clear = λ q. (full_whole a h es full).clear });
        }

    -- what is read so far can go on to an accepted text
    pub read_continued : Continued a opts t
    read_continued = go (ltb 0 s.pads) refl
      where
        by : {whole : List ℕ} → Continuation a opts t whole → Continued a opts t
        by {whole} c = record { more = c.more; bytes = c.bytes; accepted = record { source = whole; bytes = c.source; form = c.form } }

        go : (x : Bool) → ltb 0 s.pads ≡ x → Continued a opts t
        go true e = by (pads_on (ltb-true 0 s.pads e))
        go false e =
            by
            (digits_on (omega (arith, ltb-false 0 s.pads e)) false (wanting (group a) (length s.values)) (fill_whole (group a) (length s.values) (group_pos a h)))
