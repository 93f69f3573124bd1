-- What the whole writer answers, by the size of the form, and what it writes with each answer. Assumes nothing.
use Prim.Native.Nat.{ℕ, ◌<◌, ◌≤◌}
use mathlib.Core.Path.{◌≡◌, refl, sym, ap, ◌∙◌}
use mathlib.Core.Bool.{Bool, true, false, cond}
use mathlib.Core.List.{List, []}
use native.Mathlib.Omega.{arith}
use lib.Dec.{eqb, ltb}
use lib.ListN.{length}
use borrow.Author.Tests.{lt-ltb, le-ltb, ltb-true, ltb-false}
use Rattle.answer.specs.Told.{Told}
use Rattle.alphabet.specs.Written.{written, written_length}
use Rattle.alphabet.proofs.Lengths.{written_length_law}
use Rattle.reading.specs.Limit.{limit}
use Rattle.std.specs.Prelude.{Result, Ok, Err}
use Rattle.spelling.specs.declared.NoSize.{NoSize}
use Rattle.spelling.specs.declared.NoSize.TheVariants.{Unknown, TooLong}
use Rattle.spelling.specs.Whole.{numbers, Wrote, nothing, write_of}
use Rattle.spelling.specs.Size.{size_of, fitting_numbers, FormFits}

abbrev by_size : Result ℕ NoSize → ℕ → Told
by_size (Err Unknown) room = numbers 1 0 0
by_size (Err TooLong) room = numbers 2 0 0
by_size (Ok need) room = fitting_numbers need room

-- what the three tests pick: of the alphabet, of the limit, of the room
abbrev picked : Bool → Bool → Bool → List ℕ → Wrote
picked x y z text =
    cond x
    (cond y (nothing 2 0)
    (cond z (nothing 3 (length text))
    (record { told = numbers 0 (length text) (length text); text = text })))
    (nothing 1 0)

-- an answer other than 0 goes with no text
picked_none : (x y z : Bool) (text : List ℕ) → eqb (picked x y z text).told.answer 0 ≡ false → (picked x y z text).text ≡ []
picked_none true true z text q = refl
picked_none true false true text q = refl
picked_none true false false text q = let w : ◌≡◌ {A = ℕ} 0 1 = ap (λ (t : Bool). cond t 0 1) q in absurd (omega arith)
picked_none false y z text q = refl

-- answer 0 goes with the text, past all three
picked_all : (x y z : Bool) (text : List ℕ) → (picked x y z text).told.answer ≡ 0 → (x ≡ true) × (y ≡ false) × (z ≡ false) × ((picked x y z text).text ≡ text)
picked_all true true z text q = absurd (omega arith)
picked_all true false true text q = absurd (omega arith)
picked_all true false false text q = (refl, refl, refl, refl)
picked_all false y z text q = absurd (omega arith)

pub size_within : (a n : ℕ) → a < 6 → written_length a n ≤ limit → size_of a n ≡ Ok (written_length a n)
unfolding size_of
size_within a n h l = rw (lt-ltb a 6 h, le-ltb limit (written_length a n) l)

module _ (a : ℕ) (src : List ℕ) (room : ℕ) where
  answer_by_size : (write_of a src room).told ≡ by_size (size_of a (length src)) room
  unfolding write_of size_of fitting_numbers
  answer_by_size = rw (← written_length_law a src) (go (ltb a 6) (ltb limit (length (written a src))) (ltb room (length (written a src))) refl)
    where
      go : (x y z : Bool) → ltb room (length (written a src)) ≡ z → (picked x y z (written a src)).told ≡ by_size (cond x (cond y (Err TooLong) (Ok (length (written a src)))) (Err Unknown)) room
      go true true z e = refl
      go true false true e = rw e
      go true false false e = rw e
      go false y z e = refl

  pub told_by_size : {s : Result ℕ NoSize} → size_of a (length src) ≡ s → by_size s room ≡ (write_of a src room).told
  told_by_size e = sym (answer_by_size ∙ ap (λ (s : Result ℕ NoSize). by_size s room) e)

  -- an answer 0 is given exactly where the form fits, and else nothing is written
  pub accepted : (write_of a src room).told.answer ≡ 0 → FormFits a src room × ((write_of a src room).text ≡ written a src)
  unfolding write_of
  accepted q =
      let t = picked_all (ltb a 6) (ltb limit (length (written a src))) (ltb room (length (written a src))) (written a src) q in (
        record {
          known = ltb-true a 6 t.0;
          within = rw (← written_length_law a src) (ltb-false limit (length (written a src)) t.1);
          roomy = rw (← written_length_law a src) (ltb-false room (length (written a src)) t.2);
        },
        t.3,
      )

  pub refused : eqb (write_of a src room).told.answer 0 ≡ false → (write_of a src room).text ≡ []
  unfolding write_of
  refused q = picked_none (ltb a 6) (ltb limit (length (written a src))) (ltb room (length (written a src))) (written a src) q
