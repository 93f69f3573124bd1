-- The test whether reading can go on from a state, with a choice that is allowed. Assumes nothing.
use Rattle.std.specs.Prelude.{ℕ, ◌*◌, ◌%◌, ◌^◌, Bool, ◌&&◌, leb, ltb}
use Rattle.alphabet.specs.Alphabet.{bits}
use Rattle.reading.specs.Options.{allowed}
use Rattle.reading.specs.Limit.{limit}
use Rattle.rule.specs.declared.Core.{Core}

-- the held bits are as many as the digits leave
unfoldable pub small : ℕ → ℕ → ℕ → Bool
small a digits held = ltb held (2 ^ (bits a * digits % 8))

-- the test of a choice and a state
unfoldable pub ready : ℕ → ℕ → Core → Bool
ready a opts k =
    allowed a opts && leb k.taken limit && leb k.digits k.taken && leb k.pads k.taken && small a k.digits k.held
