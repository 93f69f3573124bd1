-- 01, "Streams": answer 9 is given exactly when no sequence of calls from a start gives that state. The test that a call computes.
-- Assumes nothing.
use Rattle.std.specs.Prelude.{ℕ, ◌+◌, ◌^◌, Bool, true, cond, not, ◌&&◌, ◌||◌, eqb, ltb, leb}
use Rattle.alphabet.specs.Alphabet.{padded}
use Rattle.reading.specs.Limit.{limit}
use Rattle.reading.specs.Options.{lines, blank, nopad, any_spare, allowed}
use Rattle.reading.specs.Reader.{State, wants, held_bits, ending}
use Rattle.streaming.specs.Stream.{Status, live, shut, done, Stream}

-- a text within the limit has so many digits and pads, and for the rest bytes that are dropped, where some are
unfoldable pub counts_fit : ℕ → State → Bool
counts_fit opts s =
    leb s.taken limit && leb (s.digits + s.pads) s.taken && (lines opts || blank opts || eqb s.taken (s.digits + s.pads))

-- pads follow a tail, and held bits that are zero unless SPARE is set
unfoldable pub pads_fit : ℕ → ℕ → State → Bool
pads_fit a opts s = leb s.pads (wants a s) && (eqb s.pads 0 || eqb s.held 0 || any_spare opts)

-- what some text leads to
unfoldable pub readable : ℕ → ℕ → State → Bool
readable a opts s = allowed a opts && counts_fit opts s && ltb s.held (2 ^ held_bits a s) && pads_fit a opts s

-- a first pad is refused with 6, and so is the end under NOPAD
unfoldable pub spare_left : ℕ → ℕ → State → Bool
spare_left a opts s = eqb s.pads 0 && not (eqb (wants a s) 0) && not (eqb s.held 0) && not (any_spare opts)

-- some byte, or the end, is refused with k after what was taken
unfoldable pub refusable : ℕ → ℕ → State → ℕ → Bool
refusable a opts s k =
    cond (eqb k 2) (eqb s.taken limit)
    (cond (eqb k 4) (ltb s.taken limit)
    (cond (eqb k 5) (ltb s.taken limit && padded a && eqb s.pads 0 && eqb (wants a s) 0)
    (cond (eqb k 6) (spare_left a opts s && (ltb s.taken limit || nopad opts))
    (cond (eqb k 7) (ltb s.taken limit && ltb 0 s.pads)
    (eqb k 8 && eqb (ending a opts s) 8)))))

unfoldable pub status_fits : ℕ → ℕ → State → Status → Bool
status_fits a opts s live = true
status_fits a opts s (shut k) = refusable a opts s k
status_fits a opts s done = eqb (ending a opts s) 0

unfoldable pub given : Stream → Bool
given s = readable s.alphabet s.options s.state && status_fits s.alphabet s.options s.state s.status
