-- The byte that the lent table has for a value is the value's digit. Assumes nothing.
use Prim.Native.Nat.{ℕ, ◌^◌, ◌<◌}
use mathlib.Core.Path.{◌≡◌, ap, ◌∙◌}
use mathlib.Core.List.{List}
use Rattle.alphabet.specs.Alphabet.{bits, digit}
use Rattle.table.specs.Table.{digit_entries, digit_in}
use Rattle.table.proofs.TableLaws.{digit_is}

pub digit_of : {t : List ℕ} {a b v x : ℕ} → t ≡ digit_entries → a < 6 → b ≡ bits a → v < 2 ^ b → x ≡ digit_in t a v → x ≡ digit a v
digit_of {a = a} {v = v} e h w l q = q ∙ ap (λ (d : List ℕ). digit_in d a v) e ∙ digit_is a v h (rw w at l)
