-- The tidier's three writings, one after the other, leave the cleaned text. Assumes nothing.
use Prim.Native.Nat.{ℕ, ◌+◌, ◌-◌}
use mathlib.Core.Path.{◌≡◌, refl, sym, ap, ◌∙◌}
use mathlib.Core.Bool.{Bool, true, false, cond}
use mathlib.Core.List.{List, ◌++◌, append-nil}
use native.Mathlib.Omega.{arith}
use lib.Dec.{eqb}
use lib.ListN.{length, take, drop, get_or, set, replicate, length-append, length-replicate, length-set, length-drop}
use lib.Seq.{take-append_seam, take_at, drop_at}
use Rattle.alphabet.specs.Alphabet.{group, digit, value, pad}
use Rattle.alphabet.specs.Written.{wanting}
use Rattle.reading.specs.Buffer.{filled}
use Rattle.reading.specs.Cleaning.{clean}
use Rattle.engine.proofs.Loops.{rest_all, past_none}
use Rattle.tidier.specs.Spelling.{spelt, last_of, last_clear, spelled_out, Spelled}

clear_length : (a held : ℕ) (w : List ℕ) → length (last_clear a held w) ≡ length w
unfolding last_clear
clear_length a held w = go (eqb held 0)
  where
    go : (x : Bool) → length (cond x w (set w (last_of w) (digit a (value a (get_or w (last_of w) 0) - held)))) ≡ length w
    go true = refl
    go false = length-set w (last_of w) _

module _ {a opts : ℕ} {t : List ℕ} {held : ℕ} (s : Spelled a opts t held) where
  -- the digits, and as many pads as fill the group
  pub clean_length : length (clean a opts t) ≡ length (spelt a opts t) + wanting (group a) (length (spelt a opts t))
  unfolding spelled_out
  clean_length =
      ap length s.form
      ∙ length-append (last_clear a held (spelt a opts t)) (replicate (wanting (group a) (length (spelt a opts t))) pad)
      ∙ rw (clear_length a held (spelt a opts t), length-replicate (wanting (group a) (length (spelt a opts t))) pad)

  -- the digits are written into the room of the cleaned text, the last of them is cleared, and the rest is filled
  module _ (o₀ : List ℕ) (l : length o₀ ≡ length (clean a opts t)) {n : ℕ} {o₁ d : List ℕ}
      (size : n ≡ length (spelt a opts t)) (f : o₁ ≡ filled (spelt a opts t) o₀) (g : d ≡ last_clear a held (take n o₁)) where
    cleared : d ≡ last_clear a held (spelt a opts t)
    cleared = rw (g, size, f) (ap (last_clear a held) (take-append_seam (spelt a opts t) (drop (length (spelt a opts t)) o₀)))

    as_many : length d ≡ n
    as_many = ap length cleared ∙ clear_length a held (spelt a opts t) ∙ sym size

    left : length (take (length (d ++ drop n o₁) - n) (drop n (d ++ drop n o₁))) ≡ wanting (group a) (length (spelt a opts t))
    left =
        rw (rest_all (d ++ drop n o₁) n, drop_at d (drop n o₁) n as_many, length-drop)
        (omega (
          arith,
          size,
          ap length f,
          length-append (spelt a opts t) (drop (length (spelt a opts t)) o₀),
          length-drop (length (spelt a opts t)) o₀,
          l,
          clean_length,
        ))

    pub written_clean : {p : List ℕ} → p ≡ replicate (length (take (length (d ++ drop n o₁) - n) (drop n (d ++ drop n o₁)))) pad
        → take n (d ++ drop n o₁) ++ (p ++ drop (length (d ++ drop n o₁) - n) (drop n (d ++ drop n o₁))) ≡ clean a opts t
    unfolding spelled_out
    written_clean k = rw (past_none (d ++ drop n o₁) n, append-nil, take_at d (drop n o₁) n as_many, k, left, cleared) (sym s.form)
