-- Options 0 clean nothing, so strict reading accepts exactly the canonical texts. Assumes nothing.
use Prim.Native.Nat.{ℕ, ◌<◌, ◌≤◌}
use mathlib.Core.Path.{◌≡◌}
use mathlib.Core.Logic.{◌↔◌}
use mathlib.Core.List.{List}
use lib.ListN.{length}
use Rattle.alphabet.specs.Written.{Canonical}
use Rattle.reading.specs.Options.{chosen}
use Rattle.reading.specs.Limit.{limit}
use Rattle.reading.specs.Cleaning.{clean, refilled, cleared}
use Rattle.reading.specs.Reader.{judged}
use Rattle.reading.proofs.PlainText.{strict_plain}
use Rattle.reading.proofs.Meaning.{promised}

pub strict_cleans_nothing : (a : ℕ) (t : List ℕ) → clean a 0 t ≡ t
unfolding clean refilled cleared chosen
strict_cleans_nothing a t = strict_plain a t

pub strict_exactly : (a : ℕ) → a < 6 → (t : List ℕ) → ((judged a 0 t).answer ≡ 0) ↔ (Canonical a t × (length t ≤ limit))
strict_exactly a h t = rw (strict_cleans_nothing a t) at (promised a h 0 t).zero_exactly
