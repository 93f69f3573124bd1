-- The reader's answer by the judge's: 3 where the judge counts more good bytes than the room holds, else the judge's own. Assumes nothing.
use Prim.Native.Nat.{ℕ, ◌<◌, ◌≤◌}
use mathlib.Core.Path.{◌≡◌, refl}
use mathlib.Core.Bool.{Bool, true, false, cond}
use mathlib.Core.List.{List}
use native.Mathlib.Omega.{arith}
use lib.Dec.{ltb}
use lib.ListN.{length}
use borrow.Author.Tests.{lt-ltb, le-ltb}
use Rattle.answer.specs.Told.{Told}
use Rattle.reading.specs.Options.{allowed}
use Rattle.reading.specs.Reader.{judged}
use Rattle.block.specs.Whole.{choice, no_room, verdict, judge_of, read_of}

module _ (a opts : ℕ) (t : List ℕ) (room : ℕ) where
  abbrev good : ℕ
  good = length (judged a opts t).good

  abbrev chosen : Bool → Told
  chosen x = cond x (verdict (judged a opts t)) choice

  abbrev roomed : Bool → Told
  roomed x = cond x (cond (ltb room good) (no_room good) (verdict (judged a opts t))) choice

  pub read_past_room : room < (judge_of a opts t).count → read_of a opts t room ≡ no_room (judge_of a opts t).count
  unfolding judge_of read_of
  read_past_room = go (allowed a opts)
    where
      go : (x : Bool) → room < (chosen x).count → roomed x ≡ no_room (chosen x).count
      go true l = rw (lt-ltb room good l)
      go false l = absurd (omega arith)

  pub read_in_room : (judge_of a opts t).count ≤ room → read_of a opts t room ≡ judge_of a opts t
  unfolding judge_of read_of
  read_in_room = go (allowed a opts)
    where
      go : (x : Bool) → (chosen x).count ≤ room → roomed x ≡ chosen x
      go true l = rw (le-ltb room good l)
      go false l = refl
