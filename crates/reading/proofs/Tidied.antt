-- A canonical text is its own cleaned text under every allowed choice; so an accepted text's cleaned text cleans to itself, is the written form of its
-- bytes, is accepted with the same bytes, and is no longer than the limit. Assumes nothing.
use Prim.Native.Nat.{ℕ, zero, suc, ◌+◌, ◌-◌, ◌%◌, ◌^◌, ◌<◌, ◌≤◌}
use mathlib.Core.Path.{◌≡◌, refl, sym, ap, ◌∙◌}
use mathlib.Core.Logic.{◌⊎◌, inl, inr}
use mathlib.Core.Bool.{Bool, true, false, cond, ◌&&◌}
use mathlib.Core.List.{List, [], ◌∷◌}
use native.Mathlib.Omega.{arith}
use lib.Dec.{eqb, ltb}
use lib.ListN.{length, get_or, set, length-set, length-map, replicate}
use borrow.Author.Tests.{ltb-true, ltb-false}
use Rattle.alphabet.specs.Bits.{Below}
use Rattle.alphabet.specs.Digits.{digits_of}
use Rattle.alphabet.specs.Alphabet.{bits, group, digit, is_digit, pad, spare}
use Rattle.alphabet.specs.Written.{wanting, spelled, written, Canonical}
use Rattle.alphabet.proofs.Shapes.{spelled_is, shape, shape_length, written_once}
use Rattle.alphabet.proofs.AlphabetLaws.{group_pos}
use Rattle.alphabet.proofs.Edges.{digit_own}
use Rattle.alphabet.proofs.Symbols.{digit_printable}
use Rattle.alphabet.proofs.DigitLaws.{digits_bytes}
use Rattle.alphabet.proofs.Lengths.{eights_group, fill_most}
use Rattle.alphabet.proofs.WrittenLaws.{ByDigits, canonical→digits}
use Rattle.reading.specs.Options.{any_case, any_spare, allowed}
use Rattle.reading.specs.Limit.{limit}
use Rattle.reading.specs.Cleaning.{dropped, kept, turned, refilled, pad_run, cleared_digit, cleared, clean, Accepted}
use Rattle.reading.specs.Reader.{Reading, going, fresh, feed_all, finish, read_all, judged}
use Rattle.reading.specs.Promises.{Promised}
use Rattle.reading.specs.Tidying.{Tidied}
use Rattle.reading.proofs.ReaderLaws.{Stop}
use Rattle.reading.proofs.PlainText.{plain, turned_pad, kept_high, own_stays}
use Rattle.reading.proofs.Seen.{Seen, progress, start}
use Rattle.reading.proofs.CleaningLaws.{pads_after, pads_kept, pads_none, refilled_shape}
use Rattle.reading.proofs.ZeroIsAccepted.{Closed, Tidy, closed_tidy, ended}
use Rattle.reading.proofs.AcceptedIsZero.{accepted→accepts}
use Rattle.reading.proofs.OptionLaws.{allowed_alphabet, allowed_case}
use Rattle.reading.proofs.LimitLaws.{limit_whole}
use Rattle.reading.proofs.Meaning.{promised}
use Rattle.reading.proofs.Strict.{strict_cleans_nothing}

-- ---- lengths

pub kept_shorter : (opts : ℕ) (t : List ℕ) → length (kept opts t) ≤ length t
unfolding kept
kept_shorter opts [] = omega arith
kept_shorter opts (c ∷ t) = go (dropped opts c) (kept_shorter opts t)
  where
    go : (x : Bool) → length (kept opts t) ≤ length t → length (cond x (kept opts t) (c ∷ kept opts t)) ≤ suc (length t)
    go true l = omega arith
    go false l = omega arith

cleared_length : (a opts : ℕ) (t : List ℕ) → length (cleared a opts t) ≡ length t
unfolding cleared
cleared_length a opts t =
    go (any_spare opts && eqb (length t % group a) 0 && ltb 0 (spare a (pad_run t)) && ltb (pad_run t) (length t) && is_digit a (get_or t (length t - (pad_run t + 1)) 0))
  where
    go : (x : Bool) → length (cond x (set t (length t - (pad_run t + 1)) (cleared_digit a (spare a (pad_run t)) (get_or t (length t - (pad_run t + 1)) 0))) t) ≡ length t
    go true = length-set t _ _
    go false = refl

-- ---- canonical texts

pads_stay : (a opts : ℕ) (ds : List ℕ) → pads_after a opts ds (wanting (group a) (length ds)) ≡ wanting (group a) (length ds)
pads_stay a opts ds = go (ltb 0 w) refl
  where
    w : ℕ
    w = wanting (group a) (length ds)

    go : (x : Bool) → ltb 0 w ≡ x → pads_after a opts ds w ≡ w
    go true e = pads_kept a opts ds w (ltb-true 0 w e)
    go false e = let z : w ≡ 0 = omega (arith, ltb-false 0 w e) in ap (pads_after a opts ds) z ∙ pads_none a opts ds z ∙ sym z

module _ (a opts : ℕ) (ok : allowed a opts ≡ true) where
  h : a < 6
  h = allowed_alphabet a opts ok

  digit_stays : {v : ℕ} → v < 2 ^ bits a → turned a opts (digit a v) ≡ digit a v
  unfolding turned
  digit_stays {v} l = go (any_case opts) refl
    where
      go : (x : Bool) → any_case opts ≡ x → turned a opts (digit a v) ≡ digit a v
      go true e = own_stays a opts (digit a v) (digit_own a h (allowed_case a opts ok e) l)
      go false e = rw e

  plain_pads : (p : ℕ) → plain a opts (replicate p pad) ≡ replicate p pad
  unfolding kept
  plain_pads zero = refl
  plain_pads (suc p) = rw (kept_high opts pad (omega arith), turned_pad a opts, plain_pads p)

  plain_shape : (ds : List ℕ) (p : ℕ) → Below (2 ^ bits a) ds → plain a opts (shape a ds p) ≡ shape a ds p
  unfolding kept
  plain_shape [] p l = plain_pads p
  plain_shape (v ∷ ds) p l = rw (kept_high opts (digit a v) (digit_printable a h l.0).0, digit_stays l.0, plain_shape ds p l.1)

  pub canonical_stays : (t : List ℕ) → Canonical a t → clean a opts t ≡ t
  unfolding clean
  canonical_stays t c =
      let d : ByDigits a t = canonical→digits a h c in
      let ds : List ℕ = d.values in
      let w : ℕ = wanting (group a) (length ds) in
      let y : Tidy a ds (cleared a opts (refilled a opts (shape a ds w))) =
      closed_tidy a h opts ds w d.below (record { pads = pads_stay a opts ds; few = d.whole.few; clear = λ e. d.whole.clear }) in
      let same : y.digits.values ≡ ds =
      sym (digits_bytes (bits a) y.digits.values y.digits.below y.digits.whole)
      ∙ ap (digits_of (bits a)) y.same
      ∙ digits_bytes (bits a) ds d.below d.whole in
      let form : shape a ds w ≡ t = sym (spelled_is a ds) ∙ d.form in
      ap (clean a opts) (sym form)
      ∙ ap (λ (u : List ℕ). cleared a opts (refilled a opts u)) (plain_shape ds w d.below)
      ∙ sym y.digits.form
      ∙ ap (spelled a) same
      ∙ d.form

  -- ---- accepted texts

  -- padding fills a group, and the limit is a whole number of groups
  clean_fits : (t : List ℕ) → Accepted a opts t → length t ≤ limit → length (clean a opts t) ≤ limit
  unfolding read_all finish clean
  clean_fits t c l = go (progress a h opts [] t (going fresh []) (start a opts))
    where
      zero_answer : (read_all a opts t).answer ≡ 0
      zero_answer = accepted→accepts a h opts t c

      go : Seen a opts t (feed_all a opts (going fresh []) t) ⊎ Stop (feed_all a opts (going fresh []) t) → length (clean a opts t) ≤ limit
      go (inr x) = absurd (omega (arith, x.4, sym (ap (λ (r : Reading). (finish a opts r).answer) x.3) ∙ zero_answer))
      go (inl s) =
          let ds : List ℕ = s.values in
          let k : Closed a opts ds s.pads =
          ended a h opts ds s.pads (length t) s.tailed (sym (ap (λ (r : Reading). (finish a opts r).answer) s.here) ∙ zero_answer) in
          let size : length (plain a opts t) ≡ length ds + s.pads = ap length s.spelt ∙ shape_length a ds s.pads in
          let less : length (plain a opts t) ≤ length t = simp length-map (kept_shorter opts t) in
          let whole : length (cleared a opts (refilled a opts (plain a opts t))) ≡ length ds + wanting (group a) (length ds) =
          cleared_length a opts (refilled a opts (plain a opts t))
          ∙ ap length (ap (refilled a opts) s.spelt ∙ refilled_shape a h opts ds s.pads s.below)
          ∙ shape_length a ds (pads_after a opts ds s.pads)
          ∙ ap (λ (n : ℕ). length ds + n) k.pads in
          rw whole (fill_most (group a) (length ds) limit (group_pos a h) (eights_group a h limit limit_whole) (omega arith))

  -- a text that is the written form of bytes, and fits, is read as these bytes
  reads_back : (t bytes : List ℕ) → Below 256 bytes → written a bytes ≡ t → length t ≤ limit
      → ((judged a opts t).answer ≡ 0) × ((judged a opts t).good ≡ bytes)
  reads_back t bytes b e l =
      let c : Canonical a t = record { source = bytes; bytes = b; form = e } in
      let s : clean a opts t ≡ t = canonical_stays t c in
      let p : Promised a opts t (judged a opts t) = promised a h opts t in
      let z : (judged a opts t).answer ≡ 0 = p.zero_exactly.1 (rw s c, l) in
      (z, written_once a h (judged a opts t).good bytes p.bytes b (p.form z ∙ s ∙ sym e))

  pub tidied_again : (t : List ℕ) → (judged a opts t).answer ≡ 0 → Tidied a opts t (judged a opts t).good
  tidied_again t z =
      let p : Promised a opts t (judged a opts t) = promised a h opts t in
      let both : Accepted a opts t × (length t ≤ limit) = p.zero_exactly.0 z in
      let fits : length (clean a opts t) ≤ limit = clean_fits t both.0 both.1 in
      let again : clean a opts (clean a opts t) ≡ clean a opts t = canonical_stays (clean a opts t) both.0 in
      record {
        form = sym (p.form z);
        canonical = both.0;
        again = again;
        strictly = strict_cleans_nothing a (clean a opts t);
        accepted = rw again both.0;
        same_bytes = (reads_back (clean a opts t) (judged a opts t).good p.bytes (p.form z) fits).1;
        fits = fits;
      }

  -- a text accepted strictly is accepted under every allowed choice, with the same bytes
  pub strict_under_all : (t : List ℕ) → (judged a 0 t).answer ≡ 0 → ((judged a opts t).answer ≡ 0) × ((judged a opts t).good ≡ (judged a 0 t).good)
  strict_under_all t z =
      let p : Promised a 0 t (judged a 0 t) = promised a h 0 t in
      reads_back t (judged a 0 t).good p.bytes (p.form z ∙ strict_cleans_nothing a t) (p.zero_exactly.0 z).1

-- the writer's text is read as what was written
pub written_reads_back : (a opts : ℕ) → allowed a opts ≡ true → (bytes : List ℕ) → Below 256 bytes → length (written a bytes) ≤ limit
    → ((judged a opts (written a bytes)).answer ≡ 0) × ((judged a opts (written a bytes)).good ≡ bytes)
written_reads_back a opts ok bytes b l = reads_back a opts ok (written a bytes) bytes b refl l
