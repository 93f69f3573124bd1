-- The digits that a text has, counted after dropping and case turning, are those that its reader has seen; so their number gives the number of good
-- bytes. Assumes nothing.
use Prim.Native.Nat.{ℕ, zero, suc, ◌*◌, ◌/◌, ◌^◌, ◌<◌}
use mathlib.Core.Path.{◌≡◌, refl, sym, ap, ◌∙◌}
use mathlib.Core.List.{List, [], ◌∷◌, ◌++◌, map}
use lib.ListN.{length, replicate}
use Rattle.alphabet.specs.Bits.{Below}
use Rattle.alphabet.specs.Digits.{bytes_of}
use Rattle.alphabet.specs.Alphabet.{bits, digit, is_digit, pad}
use Rattle.alphabet.proofs.Symbols.{digit_is, pad_is_no_digit}
use Rattle.alphabet.proofs.Lengths.{bytes_length}
use Rattle.reading.specs.Promises.{count_of, digits_in}
use Rattle.reading.specs.Reader.{Reading}
use Rattle.reading.proofs.Seen.{Seen}

count_pads : (a : ℕ) → a < 6 → (p : ℕ) → count_of (is_digit a) (replicate p pad) ≡ 0
unfolding count_of
count_pads a h zero = refl
count_pads a h (suc p) = rw (pad_is_no_digit a h) (count_pads a h p)

count_shape : (a : ℕ) → a < 6 → (ds : List ℕ) (p : ℕ) → Below (2 ^ bits a) ds → count_of (is_digit a) (map (digit a) ds ++ replicate p pad) ≡ length ds
unfolding count_of
count_shape a h [] p l = count_pads a h p
count_shape a h (v ∷ ds) p l = rw (digit_is a h l.0) (ap suc (count_shape a h ds p l.1))

pub digits_seen : (a : ℕ) → a < 6 → (opts : ℕ) (t : List ℕ) (r : Reading) (s : Seen a opts t r) → digits_in a opts t ≡ length s.values
unfolding digits_in
digits_seen a h opts t r s = ap (count_of (is_digit a)) s.spelt ∙ count_shape a h s.values s.pads s.below

pub bytes_counted : (a : ℕ) → a < 6 → (opts : ℕ) (t : List ℕ) (r : Reading) (s : Seen a opts t r)
    → length (bytes_of (bits a) s.values) ≡ bits a * digits_in a opts t / 8
bytes_counted a h opts t r s = bytes_length (bits a) s.values ∙ ap (λ (n : ℕ). bits a * n / 8) (sym (digits_seen a h opts t r s))
