-- What a reader that goes on has seen: the text without what is dropped, in the alphabet's own case, is digits of the values that its state tells of,
-- and pads. Assumes nothing.
use Prim.Native.Nat.{ℕ, ◌+◌, ◌^◌, ◌<◌}
use mathlib.Core.Path.{◌≡◌, refl, sym, ap, ◌∙◌}
use mathlib.Core.Logic.{◌⊎◌, inl, inr}
use mathlib.Core.Bool.{Bool, true, false}
use mathlib.Core.List.{List, [], ◌∷◌, ◌++◌, map, append_assoc, append-nil, map-append}
use native.Mathlib.Omega.{arith}
use lib.Dec.{ltb}
use lib.ListN.{length, length-append, replicate, replicate-append-replicate}
use borrow.Author.Tests.{ltb-false}
use Rattle.alphabet.specs.Bits.{Below}
use Rattle.alphabet.specs.Digits.{bytes_of}
use Rattle.alphabet.specs.Alphabet.{bits, value, digit, is_digit, is_pad, pad}
use Rattle.alphabet.proofs.Flow.{regroup_start}
use Rattle.alphabet.proofs.Below.{below_snoc}
use Rattle.alphabet.proofs.DigitLaws.{regrouped_left, regrouped_bytes}
use Rattle.alphabet.proofs.Symbols.{IsDigit, is_digit_law, is_pad_law}
use Rattle.reading.specs.Cleaning.{dropped, turned, kept}
use Rattle.reading.specs.Reader.{Reading, going, stopped, fresh, feed, feed_all}
use Rattle.reading.proofs.ReaderLaws.{seen, Tailed, Stop, Padded, feed_pad, feed_dropped, feed_foreign, feed_late, feed_digit}
use Rattle.reading.proofs.PlainText.{plain, plain_append, plain_drop, plain_keep, turned_pad}

pub record Seen (a opts : ℕ) (t : List ℕ) (r : Reading) : Type 0 where
  pub values : List ℕ
  pub pads : ℕ
  pub below : Below (2 ^ bits a) values
  pub here : r ≡ seen a values pads (length t)
  pub spelt : plain a opts t ≡ map (digit a) values ++ replicate pads pad
  pub tailed : 0 < pads → Tailed a opts values pads

module _ (a : ℕ) (h : a < 6) (opts : ℕ) (t : List ℕ) (r : Reading) (s : Seen a opts t r) (c : ℕ) where
  snoc_length : length t + 1 ≡ length (t ++ c ∷ [])
  snoc_length = sym (length-append t (c ∷ []))

  plain_snoc : (ys : List ℕ) → plain a opts (c ∷ []) ≡ ys → plain a opts (t ++ c ∷ []) ≡ map (digit a) s.values ++ replicate s.pads pad ++ ys
  plain_snoc ys e = rw (plain_append a opts t (c ∷ []), s.spelt, e)

  abbrev Next : Type 0
  Next = Seen a opts (t ++ c ∷ []) (feed a opts r c) ⊎ Stop (feed a opts r c)

  step_here : {x : Reading} → feed a opts (seen a s.values s.pads (length t)) c ≡ x → feed a opts r c ≡ x
  step_here e = ap (λ (z : Reading). feed a opts z c) s.here ∙ e

  drops : dropped opts c ≡ true → Next
  drops f =
      inl
      (record {
        values = s.values;
        pads = s.pads;
        below = s.below;
        here = step_here (feed_dropped a opts s.values s.pads (length t) c f) ∙ ap (seen a s.values s.pads) snoc_length;
        spelt = plain_snoc [] (plain_drop a opts c f) ∙ append-nil (map (digit a) s.values ++ replicate s.pads pad);
        tailed = s.tailed;
      })

  digits : dropped opts c ≡ false → is_digit a (turned a opts c) ≡ true → s.pads ≡ 0 → Next
  digits f g z =
      let d : IsDigit a (turned a opts c) = is_digit_law a h (turned a opts c) g in
      inl
      (record {
        values = s.values ++ value a (turned a opts c) ∷ [];
        pads = 0;
        below = below_snoc (2 ^ bits a) s.values s.below d.small;
        here =
            step_here
            (ap (λ (p : ℕ). feed a opts (seen a s.values p (length t)) c) z ∙ feed_digit a h opts s.values (length t) c f g d.small)
            ∙ ap (seen a (s.values ++ value a (turned a opts c) ∷ []) 0) snoc_length;
        spelt = plain_snoc (turned a opts c ∷ []) (plain_keep a opts c f) ∙ rw (z, append-nil, append-nil, map-append, d.same);
        tailed = λ l. absurd (omega arith);
      })

  pads : dropped opts c ≡ false → is_digit a (turned a opts c) ≡ false → is_pad a c ≡ true → Next
  pads f g k = go (feed_pad a opts s.values s.pads (length t) c s.tailed f g k)
    where
      go : Padded a opts s.values s.pads (length t) (feed a opts (seen a s.values s.pads (length t)) c) → Next
      go (inl x) =
          inl
          (record {
            values = s.values;
            pads = s.pads + 1;
            below = s.below;
            here = step_here x.0 ∙ ap (seen a s.values (s.pads + 1)) snoc_length;
            spelt =
                plain_snoc (pad ∷ []) (plain_keep a opts c f ∙ ap (λ (y : ℕ). y ∷ []) (ap (turned a opts) (is_pad_law a c k).1 ∙ turned_pad a opts))
                ∙ append_assoc (map (digit a) s.values) (replicate s.pads pad) (pad ∷ [])
                ∙ ap (λ (y : List ℕ). map (digit a) s.values ++ y) (replicate-append-replicate s.pads 1 pad);
            tailed = λ l. x.1;
          })
      go (inr x) = inr (x.0, x.1, x.2, step_here x.3, x.4)

  -- one byte more: seen, or a refusal
  pub next : Next
  next =
      go (dropped opts c) refl (is_digit a (turned a opts c)) refl (ltb 0 s.pads) refl (is_pad a c) refl
    where
      stops : {k : ℕ} → feed a opts (seen a s.values s.pads (length t)) c ≡ stopped k (length t) (bytes_of (bits a) s.values) → 0 < k → Next
      stops {k} e l = inr (k, length t, bytes_of (bits a) s.values, step_here e, l)

      go : (y : Bool) → dropped opts c ≡ y → (z : Bool) → is_digit a (turned a opts c) ≡ z
          → (u : Bool) → ltb 0 s.pads ≡ u → (v : Bool) → is_pad a c ≡ v → Next
      go true f z g u k v l = drops f
      go false f true g true k v l = stops (feed_late a opts s.values s.pads (length t) c f g k) (omega arith)
      go false f true g false k v l = digits f g (omega (arith, ltb-false 0 s.pads k))
      go false f false g u k true l = pads f g l
      go false f false g u k false l = stops (feed_foreign a opts s.values s.pads (length t) c f g l) (omega arith)

-- ---- a whole text

pub feed_stopped : (a opts k i : ℕ) (out t : List ℕ) → feed_all a opts (stopped k i out) t ≡ stopped k i out
unfolding feed_all feed
feed_stopped a opts k i out [] = refl
feed_stopped a opts k i out (c ∷ t) = feed_stopped a opts k i out t

pub progress : (a : ℕ) → a < 6 → (opts : ℕ) (t u : List ℕ) (r : Reading) → Seen a opts t r
    → Seen a opts (t ++ u) (feed_all a opts r u) ⊎ Stop (feed_all a opts r u)
unfolding feed_all
progress a h opts t [] r s = inl (rw append-nil s)
progress a h opts t (c ∷ u) r s = go (next a h opts t r s c) (progress a h opts (t ++ c ∷ []) u (feed a opts r c))
  where
    go : Seen a opts (t ++ c ∷ []) (feed a opts r c) ⊎ Stop (feed a opts r c)
        → (Seen a opts (t ++ c ∷ []) (feed a opts r c) → Seen a opts (t ++ c ∷ [] ++ u) (feed_all a opts (feed a opts r c) u) ⊎ Stop (feed_all a opts (feed a opts r c) u))
        → Seen a opts (t ++ c ∷ u) (feed_all a opts (feed a opts r c) u) ⊎ Stop (feed_all a opts (feed a opts r c) u)
    go (inl x) k = rw append_assoc at (k x)
    go (inr x) k = inr (x.0, x.1, x.2, ap (λ (z : Reading). feed_all a opts z u) x.3 ∙ feed_stopped a opts x.0 x.1 x.2 u, x.4)

pub fresh_seen : (a : ℕ) → going fresh [] ≡ seen a [] 0 0
fresh_seen a j =
    going (record { digits = 0; held = regrouped_left (bits a) [] [] 0 0 (regroup_start (bits a)) j; pads = 0; taken = 0 })
    (regrouped_bytes (bits a) [] [] 0 0 (regroup_start (bits a)) j)

pub start : (a opts : ℕ) → Seen a opts [] (going fresh [])
unfolding kept
start a opts =
    record {
      values = [];
      pads = 0;
      below = tt;
      here = fresh_seen a;
      spelt = refl;
      tailed = λ l. absurd (omega arith);
    }

pub feed_append : (a opts : ℕ) (r : Reading) (t u : List ℕ) → feed_all a opts r (t ++ u) ≡ feed_all a opts (feed_all a opts r t) u
unfolding feed_all
feed_append a opts r [] u = refl
feed_append a opts r (c ∷ t) u = feed_append a opts (feed a opts r c) t u
