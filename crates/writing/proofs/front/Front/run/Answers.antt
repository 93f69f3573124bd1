-- The piece, cut at the limit, meets the definition of a run. Assumes nothing.
use Prim.Native.Nat.{ℕ, ◌<◌, ◌≤◌, min}
use mathlib.Core.Path.{◌≡◌}
use native.Mathlib.Omega.{arith}
use Rattle.writing.proofs.CutRan.{cut_ran}
use Rattle.writing.proofs.front.Front.run.Goals as goal

-- what the smaller of two numbers is
least : {e : ℕ} (x y : ℕ) → e ≡ min x y → (e ≤ x) × (e ≤ y) × (e < x → e ≡ y)
least x y q = (omega arith, omega arith, λ l. omega arith)

pub returns : goal.returns
returns c =
    let s = c.args.self in
    cut_ran _ _ _ s.sound _ (least _ _ (rw c.longest.ensures at c.min-end.ensures)) c.spelled-went.ensures c.why_at.ensures
