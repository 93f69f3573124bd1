-- A run over a piece that the code cut at the limit. Assumes nothing.
use Prim.Native.Nat.{ℕ, ◌-◌, ◌<◌, ◌≤◌}
use mathlib.Core.Path.{◌≡◌, ◌∙◌}
use mathlib.Core.List.{List}
use native.Mathlib.Nat.{mod-eq_of_lt}
use lib.ListN.{length, take}
use borrow.Author.Tests.{lt-ltb}
use Rattle.spelling.specs.declared.Why.{Why}
use Rattle.spelling.specs.Machine.{run, spell, why_at}
use Rattle.spelling.specs.Sound.{Sound}
use Rattle.spelling.specs.Size.{longest_of}
use Rattle.spelling.proofs.CutRuns.{cut_run}
use Rattle.spell.specs.declared.Went.{Went}
use Rattle.spell.specs.Promised.{spelled_of, WentAs}
use Rattle.writing.specs.Promised.{RanAs}

spelled_sound : {a n held : ℕ} (s : Sound a n held) (piece : List ℕ) (room : ℕ) → spelled_of a n held piece room ≡ spell a n held piece room
unfolding spelled_of
spelled_sound {a = a} s piece room = rw (lt-ltb a 6 s.known, mod-eq_of_lt s.small)

pub cut_ran : (a n held : ℕ) (s : Sound a n held) (piece : List ℕ) {end : ℕ}
    → (end ≤ length piece) × (end ≤ longest_of a - n) × (end < length piece → end ≡ longest_of a - n)
    → {o o' : List ℕ} {r : Went} {y : Why} → WentAs (spelled_of a n held (take end piece) (length o)) r o o' → y ≡ why_at r.taken end (length piece)
    → RanAs (run a n held piece (length o)) (record { held = r.held; why = y; taken = r.taken; written = r.written }) o o'
cut_ran a n held s piece {end} cut {o = o} {r = r} g e =
    let q : spelled_of a n held (take end piece) (length o) ≡ spell a n held (take end piece) (length o) = spelled_sound s (take end piece) (length o) in
    let h = rw q at g in
    rw (cut_run a n held s piece cut (length o))
    (record { held = h.held; why = e ∙ rw h.taken; taken = h.taken; written = h.written; buffer = h.buffer })
