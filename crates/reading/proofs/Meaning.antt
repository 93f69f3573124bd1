-- What 01 promises of a verdict holds of every text's: the judge's meaning. By cases: the text is read to its end, to the limit, or a byte of it is
-- refused. Assumes nothing.
use Prim.Native.Nat.{ℕ, ◌+◌, ◌%◌, ◌<◌, ◌≤◌}
use mathlib.Core.Path.{◌≡◌, refl, sym, ap, ◌∙◌, subst}
use mathlib.Core.Logic.{◌⊎◌, inl, inr}
use mathlib.Core.Bool.{Bool, true, false, cond, not, ◌&&◌, ◌||◌}
use mathlib.Core.List.{List, [], append-nil}
use native.Mathlib.Omega.{arith}
use lib.Dec.{eqb, leb, ltb}
use lib.ListN.{length, take, length-take}
use lib.Seq.{take-length, take-take}
use borrow.Author.Tests.{leb-true, leb-false, ltb-true, ltb-false}
use Rattle.alphabet.specs.Digits.{bytes_of}
use Rattle.alphabet.specs.Alphabet.{bits, group}
use Rattle.alphabet.specs.Written.{written}
use Rattle.alphabet.proofs.DigitLaws.{bytes_below}
use Rattle.reading.specs.Options.{nopad, any_spare}
use Rattle.reading.specs.Cleaning.{Accepted}
use Rattle.reading.specs.Limit.{limit}
use Rattle.reading.specs.Continuation.{Continued}
use Rattle.reading.specs.Reader.{State, going, fresh, wants, ending, finish, read_all, at_limit, judged, Verdict}
use Rattle.reading.specs.Promises.{Promised, LostAt, Listed}
use Rattle.reading.proofs.ReaderLaws.{state, Stop}
use Rattle.reading.proofs.Seen.{Seen, progress, start}
use Rattle.reading.proofs.ZeroIsAccepted.{accepts→accepted, accepts→written}
use Rattle.reading.proofs.AcceptedIsZero.{accepted→accepts}
use Rattle.reading.proofs.Positions.{Stopping, stopped_where}
use Rattle.reading.proofs.Continuations.{read_continued}
use Rattle.reading.proofs.Fronts.{read, seen_going, seen_take, front_accepted}
use Rattle.reading.proofs.Shared.{longest_shared}
use Rattle.reading.proofs.Counting.{bytes_counted}

-- ---- the answers at the end

-- 0, 6 or 8
AtEnd : ℕ → Type 0
AtEnd k = (k ≡ 0) ⊎ ((k ≡ 6) ⊎ (k ≡ 8))

ending_listed : (a opts : ℕ) (s : State) → AtEnd (ending a opts s)
unfolding ending AtEnd
ending_listed a opts s =
    go (ltb 0 s.pads) (eqb s.pads (wants a s)) (eqb (s.digits % group a) 0) (not (nopad opts) || eqb (wants a s) 0) (not (eqb s.held 0) && not (any_spare opts))
  where
    go : (v w x y z : Bool) → AtEnd (cond v (cond w 0 8) (cond x 0 (cond y 8 (cond z 6 0))))
    go true true x y z = inl refl
    go true false x y z = inr (inr refl)
    go false w true y z = inl refl
    go false w false true z = inr (inr refl)
    go false w false false true = inr (inl refl)
    go false w false false false = inl refl

nonzero : {k : ℕ} → (k ≡ 6) ⊎ (k ≡ 8) → k ≡ 0 → ⊥
nonzero (inl e) f = omega arith
nonzero (inr e) f = omega arith

two_not : (◌≡◌ {A = ℕ} 2 6) ⊎ (◌≡◌ {A = ℕ} 2 8) → ⊥
two_not (inl e) = omega arith
two_not (inr e) = omega arith

never_two : {k : ℕ} → AtEnd k → k ≡ 2 → ⊥
unfolding AtEnd
never_two (inl e) f = omega arith
never_two (inr (inl e)) f = omega arith
never_two (inr (inr e)) f = omega arith

refused : {k : ℕ} → AtEnd k → (k ≡ 0 → ⊥) → (k ≡ 6) ⊎ (k ≡ 8)
unfolding AtEnd
refused (inl e) f = absurd (f e)
refused (inr x) f = x

among : {k : ℕ} → AtEnd k → Listed k
unfolding AtEnd
among (inl e) = inl e
among (inr (inl e)) = inr (inr (omega arith, omega arith))
among (inr (inr e)) = inr (inr (omega arith, omega arith))

module _ (a : ℕ) (h : a < 6) (opts : ℕ) (t : List ℕ) where
  -- a byte is lost only where it is refused: not inside what was read
  not_lost : (u : List ℕ) → Seen a opts u (read a opts u) → (i n : ℕ) → i < n → take n t ≡ u → LostAt a opts t i → ⊥
  not_lost u s i n l e x =
      x.through
      (read_continued a h opts (take (i + 1) t) _
      (subst (λ (w : List ℕ). Seen a opts w (read a opts w)) (ap (take (i + 1)) (sym e) ∙ take-take (i + 1) n t (omega arith)) (seen_take a h opts u (i + 1) s)))

  -- ---- the text is read to its end

  module _ (fits : length t ≤ limit) (s : Seen a opts t (read a opts t)) where
    at_end : Verdict
    at_end = record { answer = ending a opts (state a s.values s.pads (length t)); position = length t; good = bytes_of (bits a) s.values }

    is_read : read_all a opts t ≡ at_end
    unfolding read_all finish at_end
    is_read = ap (finish a opts) s.here

    zero_accepted : at_end.answer ≡ 0 → Accepted a opts t
    unfolding at_end
    zero_accepted e = accepts→accepted a h opts t (ap (λ (v : Verdict). v.answer) is_read ∙ e)

    accepted_zero : Accepted a opts t → at_end.answer ≡ 0
    accepted_zero c = sym (ap (λ (v : Verdict). v.answer) is_read) ∙ accepted→accepts a h opts t c

    all_taken : take (length t) t ≡ t
    all_taken = take-length t

    read_promised : Promised a opts t at_end
    unfolding at_end
    read_promised =
        record {
          zero_exactly = (λ e. (zero_accepted e, fits), λ c. accepted_zero c.0);
          zero_place = λ e. refl;
          form = λ e. ap (λ (v : Verdict). written a v.good) (sym is_read) ∙ accepts→written a h opts t (ap (λ (v : Verdict). v.answer) is_read ∙ e);
          byte_refused = λ i l m. (λ x. absurd (omega (arith, x.place)), λ x. absurd (not_lost t s i (length t) l all_taken x));
          end_refused = (
            λ x. record { continued = read_continued a h opts t _ s; unaccepted = λ c. nonzero x.kind (accepted_zero c); fits = fits },
            λ x. record { place = refl; kind = refused (ending_listed a opts (state a s.values s.pads (length t))) (λ e. x.unaccepted (zero_accepted e)) },
          );
          too_long = (λ e. absurd (never_two (ending_listed a opts (state a s.values s.pads (length t))) e), λ x. absurd (omega (arith, x.0)));
          too_long_place = λ e. absurd (never_two (ending_listed a opts (state a s.values s.pads (length t))) e);
          listed = among (ending_listed a opts (state a s.values s.pads (length t)));
          in_text = omega arith;
          in_limit = fits;
          bytes = bytes_below (bits a) s.values;
          good = rw all_taken (longest_shared a h opts t s);
          count = rw all_taken (bytes_counted a h opts t _ s);
        }

  -- ---- the text is read to the limit

  module _ (over : limit < length t) (s : Seen a opts (take limit t) (read a opts (take limit t))) where
    past_promised : Promised a opts t (record { answer = 2; position = limit; good = bytes_of (bits a) s.values })
    past_promised =
        record {
          zero_exactly = (λ e. absurd (omega arith), λ c. absurd (omega (arith, c.1)));
          zero_place = λ e. absurd (omega arith);
          form = λ e. absurd (omega arith);
          byte_refused = λ i l m. (λ x. absurd (omega (arith, x.low)), λ x. absurd (not_lost (take limit t) s i limit m refl x));
          end_refused = (λ x. absurd (two_not x.kind), λ x. absurd (omega (arith, x.fits)));
          too_long = (λ e. (over, read_continued a h opts (take limit t) _ s), λ x. refl);
          too_long_place = λ e. refl;
          listed = inr (inl refl);
          in_text = omega arith;
          in_limit = omega arith;
          bytes = bytes_below (bits a) s.values;
          good = longest_shared a h opts (take limit t) s;
          count = bytes_counted a h opts (take limit t) _ s;
        }

  -- ---- a byte is refused

  module _ (k i : ℕ) (out : List ℕ) (x : Stopping a opts fresh [] t k i out) (m : i < limit) where
    i_is : x.n ≡ i
    i_is = omega (arith, x.place)

    s : Seen a opts (take i t) (read a opts (take i t))
    s = seen_going a h opts (take i t) {out = out} (rw i_is at x.before)

    out_is : out ≡ bytes_of (bits a) s.values
    out_is = let e : going x.at out ≡ going (state a s.values s.pads (length (take i t))) (bytes_of (bits a) s.values) = sym (rw i_is at x.before) ∙ s.here in cc

    stops : Stop (read a opts (take (i + 1) t))
    stops = (k, i, out, rw i_is at x.through, omega (arith, x.low))

    -- no text that has the byte goes on
    lost_after : (n : ℕ) → i < n → Continued a opts (take n t) → ⊥
    lost_after n l c =
        front_accepted a h opts (take n t) (i + 1) c.more
        (subst (λ (w : List ℕ). Stop (read a opts w)) (sym (take-take (i + 1) n t (omega arith))) stops)
        c.accepted

    lost : LostAt a opts t i
    lost = record { before = read_continued a h opts (take i t) _ s; through = lost_after (i + 1) (omega arith) }

    lost_here : (j : ℕ) → LostAt a opts t j → i ≡ j
    lost_here j y = go (ltb i j) refl (ltb j i) refl
      where
        go : (p : Bool) → ltb i j ≡ p → (q : Bool) → ltb j i ≡ q → i ≡ j
        go true e q f = absurd (lost_after j (ltb-true i j e) y.before)
        go false e true f = absurd (not_lost (take i t) s j i (ltb-true j i f) refl y)
        go false e false f = omega (arith, ltb-false i j e, ltb-false j i f)

    refused_promised : Promised a opts t (record { answer = k; position = i; good = out })
    refused_promised =
        record {
          zero_exactly = (λ e. absurd (omega (arith, x.low)), λ c. absurd (front_accepted a h opts t (i + 1) [] stops (rw append-nil c.0)));
          zero_place = λ e. absurd (omega (arith, x.low));
          form = λ e. absurd (omega (arith, x.low));
          byte_refused = λ j l m'. (λ y. subst (LostAt a opts t) y.place lost, λ y. record { place = lost_here j y; low = x.low; high = x.high });
          end_refused = (λ y. absurd (omega (arith, y.place, x.inside)), λ y. absurd (front_accepted a h opts t (i + 1) y.continued.more stops y.continued.accepted));
          too_long = (λ e. absurd (omega (arith, x.low)), λ y. absurd (lost_after limit m y.1));
          too_long_place = λ e. absurd (omega (arith, x.low));
          listed = inr (inr (x.low, omega (arith, x.high)));
          in_text = omega (arith, x.inside);
          in_limit = omega arith;
          bytes = rw out_is (bytes_below (bits a) s.values);
          good = rw out_is (longest_shared a h opts (take i t) s);
          count = rw out_is (bytes_counted a h opts (take i t) _ s);
        }

  -- a refusal before the limit is one of the whole text
  stopping_whole : (k i : ℕ) (out : List ℕ) → Stopping a opts fresh [] (take limit t) k i out → Stopping a opts fresh [] t k i out
  stopping_whole k i out x =
      let n< : (x.n < limit) × (x.n < length t) = omega (arith, x.inside, length-take limit t) in
      record {
        n = x.n;
        inside = n<.1;
        place = x.place;
        low = x.low;
        high = x.high;
        at = x.at;
        before = rw (take-take x.n limit t (omega (arith, n<.0))) at x.before;
        through = rw (take-take (x.n + 1) limit t (omega (arith, n<.0))) at x.through;
      }

  within : length t ≤ limit → Promised a opts t (read_all a opts t)
  unfolding read_all finish
  within l = go (progress a h opts [] t (going fresh []) (start a opts))
    where
      go : Seen a opts t (read a opts t) ⊎ Stop (read a opts t) → Promised a opts t (read_all a opts t)
      go (inl s) = rw (is_read l s) (read_promised l s)
      go (inr y) =
          let x : Stopping a opts fresh [] t y.0 y.1 y.2 = stopped_where a opts fresh [] t y.0 y.1 y.2 y.3 in
          rw y.3 (refused_promised y.0 y.1 y.2 x (omega (arith, x.place, x.inside)))

  beyond : limit < length t → Promised a opts t (at_limit (read a opts (take limit t)))
  unfolding at_limit
  beyond l = go (progress a h opts [] (take limit t) (going fresh []) (start a opts))
    where
      go : Seen a opts (take limit t) (read a opts (take limit t)) ⊎ Stop (read a opts (take limit t)) → Promised a opts t (at_limit (read a opts (take limit t)))
      go (inl s) = rw s.here (past_promised l s)
      go (inr y) =
          let x : Stopping a opts fresh [] (take limit t) y.0 y.1 y.2 = stopped_where a opts fresh [] (take limit t) y.0 y.1 y.2 y.3 in
          rw y.3 (refused_promised y.0 y.1 y.2 (stopping_whole y.0 y.1 y.2 x) (omega (arith, x.place, x.inside, length-take limit t)))

-- every verdict of the judge keeps what 01 promises of it
pub promised : (a : ℕ) → a < 6 → (opts : ℕ) (t : List ℕ) → Promised a opts t (judged a opts t)
unfolding judged
promised a h opts t = go (leb (length t) limit) refl
  where
    go : (x : Bool) → leb (length t) limit ≡ x → Promised a opts t (cond x (read_all a opts t) (at_limit (read a opts (take limit t))))
    go true e = within a h opts t (leb-true (length t) limit e)
    go false e = beyond a h opts t (leb-false (length t) limit e)
