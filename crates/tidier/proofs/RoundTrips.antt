-- The round trips of the whole calls: what was written is read back, what was read from an accepted text is written as its tidied text, and a tidied
-- text is its own. Over the definitions, wherever the room suffices. Assumes nothing.
use Prim.Native.Nat.{ℕ, ◌<◌, ◌≤◌}
use mathlib.Core.Path.{◌≡◌, refl, sym, ap, ◌∙◌}
use mathlib.Core.Bool.{Bool, true, false, cond}
use mathlib.Core.List.{List}
use native.Mathlib.Omega.{arith}
use lib.Dec.{eqb, ltb}
use lib.ListN.{length}
use borrow.Author.Tests.{eqb-true, eqb-false, eq-eqb, ltb-false, le-ltb}
use Rattle.answer.specs.Told.{Told}
use Rattle.alphabet.specs.Bits.{Below}
use Rattle.alphabet.specs.Written.{written}
use Rattle.reading.specs.Options.{allowed}
use Rattle.reading.specs.Limit.{limit}
use Rattle.reading.specs.Cleaning.{clean}
use Rattle.reading.specs.Reader.{judged}
use Rattle.reading.specs.Tidying.{Tidied}
use Rattle.reading.proofs.OptionLaws.{allowed_alphabet, strict_allowed}
use Rattle.reading.proofs.Strict.{strict_exactly}
use Rattle.reading.proofs.Tidied.{tidied_again, written_reads_back}
use Rattle.block.specs.Whole.{choice, no_room, read_of, read_bytes}
use Rattle.tidier.specs.Tidy.{tidy_of, tidy_text}
use Rattle.block.proofs.Answers.{promised_of}

-- ---- a call with room for an accepted text

-- "accepted or written": answer 0, the length read, and so many bytes
abbrev pub done : ℕ → ℕ → Told
done i n = record { answer = 0; position = i; count = n }

module _ (a opts : ℕ) (t : List ℕ) (room : ℕ) (ok : allowed a opts ≡ true) (zero : (judged a opts t).answer ≡ 0) where
  pub accepted_read : length (judged a opts t).good ≤ room
      → (read_of a opts t room ≡ done (length t) (length (judged a opts t).good)) × (read_bytes a opts t room ≡ (judged a opts t).good)
  unfolding read_of read_bytes
  accepted_read l =
      let b : ltb room (length (judged a opts t).good) ≡ false = le-ltb room (length (judged a opts t).good) l in
      (rw (ok, b, zero, (promised_of a opts t ok).zero_place zero), rw (ok, b))

  pub accepted_tidied : length (clean a opts t) ≤ room
      → (tidy_of a opts t room ≡ done (length t) (length (clean a opts t))) × (tidy_text a opts t room ≡ clean a opts t)
  unfolding tidy_of tidy_text
  accepted_tidied l =
      let b : ltb room (length (clean a opts t)) ≡ false = le-ltb room (length (clean a opts t)) l in
      let z : eqb (judged a opts t).answer 0 ≡ true = eq-eqb (judged a opts t).answer 0 zero in
      (rw (ok, z, b), rw (ok, z, b))

-- ---- reading strictly what was written gives the source

pub written_is_read : (a : ℕ) → a < 6 → (src : List ℕ) → Below 256 src → length (written a src) ≤ limit → (room : ℕ) → length src ≤ room
    → (read_of a 0 (written a src) room ≡ done (length (written a src)) (length src)) × (read_bytes a 0 (written a src) room ≡ src)
written_is_read a h src b l room m =
    let back = written_reads_back a 0 (strict_allowed a h) src b l in
    rw back.1 at (accepted_read a 0 (written a src) room (strict_allowed a h) back.0 (rw back.1 m))

-- ---- writing what was read from an accepted text gives its tidied text

pub read_is_written_tidied : (a opts : ℕ) (t : List ℕ) → allowed a opts ≡ true → (judged a opts t).answer ≡ 0
    → (room other : ℕ) → length (judged a opts t).good ≤ room → length (clean a opts t) ≤ other
    → written a (read_bytes a opts t room) ≡ tidy_text a opts t other
read_is_written_tidied a opts t ok zero room other l m =
    ap (written a) (accepted_read a opts t room ok zero l).1 ∙ (promised_of a opts t ok).form zero ∙ sym (accepted_tidied a opts t other ok zero m).1

-- ---- tidying what the tidier wrote accepts it and writes the same text

-- the tidier's answer 0
pub record Tidies (a opts : ℕ) (t : List ℕ) (room : ℕ) : Type 0 where
  pub choice : allowed a opts ≡ true
  pub zero : (judged a opts t).answer ≡ 0
  pub text : tidy_text a opts t room ≡ clean a opts t

pub zero_tidies : (a opts : ℕ) (t : List ℕ) (room : ℕ) → (tidy_of a opts t room).answer ≡ 0 → Tidies a opts t room
unfolding tidy_of
zero_tidies a opts t room = go (allowed a opts) refl (eqb (judged a opts t).answer 0) refl (ltb room (length (clean a opts t))) refl
  where
    go : (x : Bool) → allowed a opts ≡ x → (y : Bool) → eqb (judged a opts t).answer 0 ≡ y → (z : Bool) → ltb room (length (clean a opts t)) ≡ z
        → (cond x (cond y (cond z (no_room (length (clean a opts t))) (done (length t) (length (clean a opts t))))
        (record { answer = (judged a opts t).answer; position = (judged a opts t).position; count = 0 })) choice).answer ≡ 0
        → Tidies a opts t room
    go true e true f false g q = record { choice = e; zero = eqb-true _ _ f; text = (accepted_tidied a opts t room e (eqb-true _ _ f) (ltb-false _ _ g)).1 }
    go true e true f true g q = absurd (omega (arith, q))
    go true e false f z g q = absurd (eqb-false _ _ f q)
    go false e y f z g q = absurd (omega (arith, q))

module _ (a opts : ℕ) (t : List ℕ) (room : ℕ) (first : (tidy_of a opts t room).answer ≡ 0) (other : ℕ) where
  -- the tidied text
  abbrev tidied : List ℕ
  tidied = tidy_text a opts t room

  once : Tidies a opts t room
  once = zero_tidies a opts t room first

  facts : Tidied a opts t (judged a opts t).good
  facts = tidied_again a opts once.choice t once.zero

  -- under the same choice
  pub tidied_is_kept : length tidied ≤ other → (tidy_of a opts tidied other ≡ done (length tidied) (length tidied)) × (tidy_text a opts tidied other ≡ tidied)
  tidied_is_kept l =
      let ok : allowed a opts ≡ true = once.choice in
      let zero : (judged a opts (clean a opts t)).answer ≡ 0 = (promised_of a opts (clean a opts t) ok).zero_exactly.1 (facts.accepted, facts.fits) in
      rw once.text (rw facts.again at (accepted_tidied a opts (clean a opts t) other ok zero (rw (facts.again, ← once.text) l)))

  -- and strictly
  pub tidied_is_kept_strictly : length tidied ≤ other
      → (tidy_of a 0 tidied other ≡ done (length tidied) (length tidied)) × (tidy_text a 0 tidied other ≡ tidied)
  tidied_is_kept_strictly l =
      let h : a < 6 = allowed_alphabet a opts once.choice in
      let zero : (judged a 0 (clean a opts t)).answer ≡ 0 = (strict_exactly a h (clean a opts t)).1 (facts.canonical, facts.fits) in
      rw once.text (rw facts.strictly at (accepted_tidied a 0 (clean a opts t) other (strict_allowed a h) zero (rw (facts.strictly, ← once.text) l)))
