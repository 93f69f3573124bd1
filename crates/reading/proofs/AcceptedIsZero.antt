-- Accepted texts are answered 0: a text of digits and pads that are closed is read to its end. Assumes nothing.
use Prim.Native.Nat.{ℕ, zero, suc, ◌+◌, ◌-◌, ◌%◌, ◌^◌, ◌<◌, ◌≤◌}
use mathlib.Core.Path.{◌≡◌, refl, sym, ap, ap₂, ◌∙◌, subst}
use mathlib.Core.Logic.{◌⊎◌, inl, inr}
use mathlib.Core.Bool.{Bool, true, false, cond, not, ◌&&◌}
use mathlib.Core.List.{head-eq_of_cons-eq, tail-eq_of_cons-eq, nil≢cons, cons≢nil, List, [], ◌∷◌, ◌++◌, append_assoc, append-nil}
use native.Mathlib.Nat.{add-zero, mod-lt}
use native.Mathlib.Omega.{arith}
use lib.Dec.{eqb, ltb}
use lib.ListN.{length, replicate}
use borrow.Author.Tests.{ltb-true, ltb-false, eqb-true, eqb-false, eq-eqb, ne_eqb}
use Rattle.alphabet.specs.Alphabet.{is_digit, bits, group, tail, value, digit, padded, pad}
use Rattle.alphabet.specs.Bits.{Below}
use Rattle.alphabet.specs.Digits.{bytes_of, left_of}
use Rattle.alphabet.specs.Written.{wanting, Canonical}
use Rattle.alphabet.proofs.Symbols.{pad_is_no_digit, pad_is}
use Rattle.alphabet.proofs.Shapes.{spelled_is, shape, digit_is}
use Rattle.alphabet.proofs.AlphabetLaws.{group_pos, value_digit, tail_padded}
use Rattle.alphabet.proofs.WrittenLaws.{ByDigits, canonical→digits, wanting_none, wanting_some, last_group, table_in}
use Rattle.reading.specs.Options.{any_spare, nopad}
use Rattle.reading.specs.Cleaning.{refilled, cleared, kept, turned, clean, Accepted, dropped}
use Rattle.reading.specs.Reader.{Reading, wants, on_pad, follow, ending, feed, feed_all, finish, read_all}
use Rattle.reading.proofs.ReaderLaws.{state, seen, to_pad, feed_dropped, feed_digit}
use Rattle.reading.proofs.PlainText.{plain, plain_case, turned_back}
use Rattle.reading.proofs.Seen.{fresh_seen}
use Rattle.reading.proofs.CleaningLaws.{pads_after, pads_kept}
use Rattle.reading.proofs.ZeroIsAccepted.{Closed}
use Rattle.reading.proofs.CleaningBack.{Shape, cleared_back, refilled_back, accepted_closed}

-- ---- a text of closed digits and pads is read to its end

feed_next : (a : ℕ) → a < 6 → (opts : ℕ) (ds : List ℕ) (p i c : ℕ) → dropped opts c ≡ false → turned a opts c ≡ pad → p < tail a (length ds % group a)
    → (any_spare opts ≡ false → left_of (bits a) ds ≡ 0) → feed a opts (seen a ds p i) c ≡ seen a ds (p + 1) (i + 1)
unfolding on_pad follow wants
feed_next a h opts ds p i c f e l z =
    to_pad a opts ds p i c f (ap (is_digit a) e ∙ pad_is_no_digit a h) (rw (turned_back a opts c e) (pad_is a (tail_padded a h (mod-lt (length ds) (group_pos a h)) (omega arith))))
    ∙ go (ltb 0 p) refl (eqb (left_of (bits a) ds) 0) refl (any_spare opts) refl
  where
    go : (x : Bool) → ltb 0 p ≡ x → (y : Bool) → eqb (left_of (bits a) ds) 0 ≡ y → (w : Bool) → any_spare opts ≡ w
        → follow (state a ds p i) (bytes_of (bits a) ds) (on_pad a opts (state a ds p i)) ≡ seen a ds (p + 1) (i + 1)
    go true e y g w k = rw (e, ne_eqb p (tail a (length ds % group a)) (λ e. omega arith))
    go false e true g w k = rw (e, ne_eqb (tail a (length ds % group a)) 0 (λ e. omega arith), g)
    go false e false g true k = rw (e, ne_eqb (tail a (length ds % group a)) 0 (λ e. omega arith), g, k)
    go false e false g false k = absurd (eqb-false (left_of (bits a) ds) 0 g (z k))

feed_padded : (a : ℕ) → a < 6 → (opts : ℕ) (ds t : List ℕ) (p i n : ℕ) → plain a opts t ≡ replicate n pad → p + n ≤ tail a (length ds % group a)
    → (0 < n → any_spare opts ≡ false → left_of (bits a) ds ≡ 0) → feed_all a opts (seen a ds p i) t ≡ seen a ds (p + n) (i + length t)
unfolding feed_all kept
feed_padded a h opts ds [] p i zero e l z = rw (add-zero, add-zero)
feed_padded a h opts ds [] p i (suc n) e l z = absurd (nil≢cons e)
feed_padded a h opts ds (c ∷ t) p i n e l z = go (plain_case a opts c t) n e l z (feed_padded a h opts ds t)
  where
    go : ((dropped opts c ≡ true) × (plain a opts (c ∷ t) ≡ plain a opts t)) ⊎ ((dropped opts c ≡ false) × (plain a opts (c ∷ t) ≡ turned a opts c ∷ plain a opts t))
        → (n : ℕ) → plain a opts (c ∷ t) ≡ replicate n pad → p + n ≤ tail a (length ds % group a) → (0 < n → any_spare opts ≡ false → left_of (bits a) ds ≡ 0)
        → ((p i n : ℕ) → plain a opts t ≡ replicate n pad → p + n ≤ tail a (length ds % group a) → (0 < n → any_spare opts ≡ false → left_of (bits a) ds ≡ 0)
        → feed_all a opts (seen a ds p i) t ≡ seen a ds (p + n) (i + length t))
        → feed_all a opts (feed a opts (seen a ds p i) c) t ≡ seen a ds (p + n) (i + suc (length t))
    go (inl x) n e l z rec = rw (feed_dropped a opts ds p i c x.0) (rec p (i + 1) n (sym x.1 ∙ e) l z ∙ ap (seen a ds (p + n)) (omega arith))
    go (inr x) zero e l z rec = absurd (cons≢nil (sym x.1 ∙ e))
    go (inr x) (suc n) e l z rec =
        rw (feed_next a h opts ds p i c x.0 (head-eq_of_cons-eq (sym x.1 ∙ e)) (omega arith) (z (omega arith)))
        (rec (p + 1) (i + 1) n (tail-eq_of_cons-eq (sym x.1 ∙ e)) (omega arith) (λ k. z (omega arith)) ∙ ap₂ (seen a ds) (omega arith) (omega arith))

pub feed_shape : (a : ℕ) → a < 6 → (opts : ℕ) (t ds vs : List ℕ) (n i : ℕ) → Below (2 ^ bits a) vs → plain a opts t ≡ shape a vs n
    → n ≤ tail a (length (ds ++ vs) % group a) → (0 < n → any_spare opts ≡ false → left_of (bits a) (ds ++ vs) ≡ 0)
    → feed_all a opts (seen a ds 0 i) t ≡ seen a (ds ++ vs) n (i + length t)
unfolding feed_all kept
feed_shape a h opts [] ds [] zero i b e l z = rw (append-nil, add-zero)
feed_shape a h opts [] ds [] (suc n) i b e l z = absurd (nil≢cons e)
feed_shape a h opts [] ds (v ∷ vs) n i b e l z = absurd (nil≢cons e)
feed_shape a h opts (c ∷ t) ds vs n i b e l z = go (plain_case a opts c t) vs b e l z (feed_shape a h opts t)
  where
    go : ((dropped opts c ≡ true) × (plain a opts (c ∷ t) ≡ plain a opts t)) ⊎ ((dropped opts c ≡ false) × (plain a opts (c ∷ t) ≡ turned a opts c ∷ plain a opts t))
        → (vs : List ℕ) → Below (2 ^ bits a) vs → plain a opts (c ∷ t) ≡ shape a vs n → n ≤ tail a (length (ds ++ vs) % group a)
        → (0 < n → any_spare opts ≡ false → left_of (bits a) (ds ++ vs) ≡ 0)
        → ((ds vs : List ℕ) (n i : ℕ) → Below (2 ^ bits a) vs → plain a opts t ≡ shape a vs n → n ≤ tail a (length (ds ++ vs) % group a)
        → (0 < n → any_spare opts ≡ false → left_of (bits a) (ds ++ vs) ≡ 0) → feed_all a opts (seen a ds 0 i) t ≡ seen a (ds ++ vs) n (i + length t))
        → feed_all a opts (feed a opts (seen a ds 0 i) c) t ≡ seen a (ds ++ vs) n (i + suc (length t))
    go (inl x) vs b e l z rec = rw (feed_dropped a opts ds 0 i c x.0) (rec ds vs n (i + 1) b (sym x.1 ∙ e) l z ∙ ap (seen a (ds ++ vs) n) (omega arith))
    go (inr x) [] b e l z rec =
        feed_padded a h opts ds (c ∷ t) 0 i n e (omega (arith, ap (λ (y : List ℕ). tail a (length y % group a)) (append-nil ds))) (λ k s. ap (left_of (bits a)) (sym (append-nil ds)) ∙ z k s)
        ∙ ap₂ (λ (y : List ℕ) (m : ℕ). seen a y m (i + suc (length t))) (sym (append-nil ds)) (omega arith)
    go (inr x) (v ∷ vs) b e l z rec =
        let tc : turned a opts c ≡ digit a v = head-eq_of_cons-eq (sym x.1 ∙ e) in
        let vc : value a (turned a opts c) ≡ v = ap (value a) tc ∙ value_digit a h b.0 in
        let s : ds ++ v ∷ vs ≡ ds ++ v ∷ [] ++ vs = sym (append_assoc ds (v ∷ []) vs) in
        rw (feed_digit a h opts ds i c x.0 (rw tc (digit_is a h b.0)) (rw vc b.0), vc, s)
        (rec (ds ++ v ∷ []) vs n (i + 1) b.1 (tail-eq_of_cons-eq (sym x.1 ∙ e)) (rw s at l) (λ k q. ap (left_of (bits a)) (sym s) ∙ z k q)
        ∙ ap (seen a (ds ++ v ∷ [] ++ vs) n) (omega arith))

-- ---- and its end is answered 0

record Ends (a opts : ℕ) (ds : List ℕ) (p : ℕ) : Type 0 where
  fits : p ≤ tail a (length ds % group a)
  zero_answer : (i : ℕ) → ending a opts (state a ds p i) ≡ 0

no_pads : (a opts : ℕ) (ds : List ℕ) → 0 < pads_after a opts ds 0 → nopad opts ≡ true
unfolding pads_after
no_pads a opts ds l = go (nopad opts) (padded a) l
  where
    go : (x y : Bool) → 0 < cond (x && y && true) (wanting (group a) (length ds)) 0 → x ≡ true
    go true y l = refl
    go false y l = absurd (omega arith)

closed_ends : (a : ℕ) → a < 6 → (opts : ℕ) (ds : List ℕ) (p : ℕ) → Closed a opts ds p → Ends a opts ds p
unfolding ending wants
closed_ends a h opts ds p c = go (ltb 0 p) refl (eqb (length ds % group a) 0) refl
  where
    table : 0 < length ds % group a → tail a (length ds % group a) ≡ wanting (group a) (length ds)
    table l =
        table_in a h (length ds % group a) (mod-lt (length ds) (group_pos a h)) l (omega (arith, last_group a h (length ds), c.few))
        ∙ sym (wanting_some (group a) (length ds) (group_pos a h) l)

    spares : (y : Bool) → eqb (left_of (bits a) ds) 0 ≡ y → (x : Bool) → any_spare opts ≡ x → (not (eqb (left_of (bits a) ds) 0) && not (any_spare opts)) ≡ false
    spares true g x f = rw g
    spares false g true f = rw (g, f)
    spares false g false f = absurd (eqb-false (left_of (bits a) ds) 0 g (c.clear f))

    go : (x : Bool) → ltb 0 p ≡ x → (y : Bool) → eqb (length ds % group a) 0 ≡ y → Ends a opts ds p
    go true e true f =
        absurd (omega (arith, ltb-true 0 p e, pads_kept a opts ds p (ltb-true 0 p e), c.pads, wanting_none (group a) (length ds) (eqb-true (length ds % group a) 0 f)))
    go true e false f =
        let t : p ≡ tail a (length ds % group a) =
        sym (pads_kept a opts ds p (ltb-true 0 p e)) ∙ c.pads ∙ sym (table (omega (arith, eqb-false (length ds % group a) 0 f))) in
        record { fits = omega arith; zero_answer = λ i. rw (e, eq-eqb p (tail a (length ds % group a)) t) }
    go false e true f = record { fits = omega (arith, ltb-false 0 p e); zero_answer = λ i. rw (e, f) }
    go false e false f =
        let d : 0 < length ds % group a = omega (arith, eqb-false (length ds % group a) 0 f) in
        let p0 : p ≡ 0 = omega (arith, ltb-false 0 p e) in
        let w : wanting (group a) (length ds) ≡ group a - length ds % group a = wanting_some (group a) (length ds) (group_pos a h) d in
        let w> : 0 < wanting (group a) (length ds) = omega (arith, mod-lt (length ds) (group_pos a h)) in
        let n : nopad opts ≡ true = no_pads a opts ds (omega (arith, ap (pads_after a opts ds) p0, c.pads)) in
        record {
          fits = omega arith;
          zero_answer =
              λ i. rw (e, f, n, ne_eqb (tail a (length ds % group a)) 0 (λ q. omega (arith, table d)), spares (eqb (left_of (bits a) ds) 0) refl (any_spare opts) refl);
        }

pub accepted→accepts : (a : ℕ) → a < 6 → (opts : ℕ) (t : List ℕ) → Accepted a opts t → (read_all a opts t).answer ≡ 0
unfolding read_all finish clean
accepted→accepts a h opts t c =
    let s : Shape a (plain a opts t) =
    refilled_back a opts (plain a opts t) (cleared_back a h opts (refilled a opts (plain a opts t)) (whole (canonical→digits a h c))) in
    let k : Closed a opts s.values s.pads =
    accepted_closed a h opts s.values s.pads s.below (subst (λ (u : List ℕ). Canonical a (cleared a opts (refilled a opts u))) (sym s.form) c) in
    let e : Ends a opts s.values s.pads = closed_ends a h opts s.values s.pads k in
    ap (λ (r : Reading). (finish a opts (feed_all a opts r t)).answer) (fresh_seen a)
    ∙ ap (λ (r : Reading). (finish a opts r).answer) (feed_shape a h opts t [] s.values s.pads 0 s.below (sym s.form) e.fits (λ l. k.clear))
    ∙ e.zero_answer (0 + length t)
  where
    whole : {u : List ℕ} → ByDigits a u → Shape a u
    whole d = record { values = d.values; pads = wanting (group a) (length d.values); below = d.below; form = sym (spelled_is a d.values) ∙ d.form }
