-- The reader's question of the room: it is answered 3 exactly where the good bytes exceed the room, and else the run gives them. Assumes nothing.
use Prim.Native.Nat.{ℕ, ◌*◌, ◌/◌, ◌<◌, ◌≤◌}
use mathlib.Core.Path.{◌≡◌, refl, ap, ◌∙◌}
use mathlib.Core.Bool.{Bool, true, false, cond}
use mathlib.Core.List.{List, []}
use native.Mathlib.Omega.{arith}
use lib.Dec.{leb, ltb}
use lib.ListN.{length}
use borrow.Author.Tests.{leb-true, lt-ltb, le-ltb}
use Rattle.alphabet.specs.Alphabet.{bits}
use Rattle.reading.specs.Options.{allowed}
use Rattle.reading.specs.Limit.{limit}
use Rattle.reading.specs.Reader.{fresh, judged}
use Rattle.reading.proofs.OptionLaws.{allowed_alphabet}
use Rattle.reading.proofs.GoodCount.{good_most}
use Rattle.engine.specs.declared.piece.Ran.{Ran}
use Rattle.rule.specs.Meaning.{core_of}
use Rattle.engine.specs.Ran.{fresh_as, run_as, run_bytes}
use Rattle.engine.proofs.FromFresh.{run_fresh, run_fresh_bytes, fresh_runs}
use Rattle.block.specs.Whole.{choice, no_room, read_of, read_bytes}
use Rattle.block.specs.Answered.{answered}
use Rattle.block.specs.Room.{most_of, needed_of}
use Rattle.block.proofs.Answers.{promised_of, within, run_answers, run_gives}

module _ (a opts : ℕ) (t : List ℕ) (room : ℕ) where
  pub read_declined : allowed a opts ≡ false → (read_of a opts t room ≡ choice) × (read_bytes a opts t room ≡ [])
  unfolding read_of read_bytes
  read_declined e = (rw e, rw e)

  module _ (ok : allowed a opts ≡ true) where
    abbrev good : List ℕ
    good = (judged a opts t).good

    -- no text of that length has more
    good_in_most : length good ≤ most_of a (length t)
    unfolding most_of
    good_in_most = go (ltb (length t) limit)
      where
        go : (x : Bool) → length good ≤ cond x (bits a * length t / 8) (bits a * limit / 8)
        go true = good_most a (allowed_alphabet a opts ok) opts t (length t) (promised_of a opts t ok).in_text
        go false = good_most a (allowed_alphabet a opts ok) opts t limit (promised_of a opts t ok).in_limit

    -- a count is that of the good bytes
    pub counted : (fresh_as a opts t).wrote ≡ length good
    counted = ap (λ (r : Ran). r.wrote) (fresh_runs a opts t ok) ∙ ap length (run_gives a opts t (length t) ok (within a opts t ok))

    lacks : room < needed_of a opts t room → needed_of a opts t room ≡ length good
    unfolding needed_of
    lacks = go (leb (most_of a (length t)) room)
      where
        go : (x : Bool) → room < cond x 0 (length good) → cond x 0 (length good) ≡ length good
        go true l = absurd (omega arith)
        go false l = refl

    suffices : needed_of a opts t room ≤ room → length good ≤ room
    unfolding needed_of
    suffices = go (leb (most_of a (length t)) room) refl
      where
        go : (x : Bool) → leb (most_of a (length t)) room ≡ x → cond x 0 (length good) ≤ room → length good ≤ room
        go true f l = omega (arith, leb-true (most_of a (length t)) room f, good_in_most)
        go false f l = l

    -- what is needed exceeds the room
    pub read_lacks : room < needed_of a opts t room → (read_of a opts t room ≡ no_room (needed_of a opts t room)) × (read_bytes a opts t room ≡ [])
    unfolding read_of read_bytes
    read_lacks l =
        let e : needed_of a opts t room ≡ length good = lacks l in
        let b : ltb room (length good) ≡ true = lt-ltb room (length good) (omega arith) in
        (rw (ok, b, e), rw (ok, b))

    -- and does not: the run answers and gives
    module _ (l : needed_of a opts t room ≤ room) where
      fits : ltb room (length good) ≡ false
      fits = le-ltb room (length good) (suffices l)

      pub read_answers : answered a opts (run_as a opts (core_of fresh) t room) ≡ read_of a opts t room
      unfolding read_of
      read_answers = rw (ok, fits, run_fresh a opts t room ok) (run_answers a opts t room ok (suffices l))

      pub read_gives : run_bytes a opts (core_of fresh) t room ≡ read_bytes a opts t room
      unfolding read_bytes
      read_gives = rw (ok, fits) (run_fresh_bytes a opts t room ok ∙ run_gives a opts t room ok (suffices l))
