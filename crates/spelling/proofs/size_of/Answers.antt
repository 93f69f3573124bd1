-- The tests of the alphabet and of the limit. Assumes nothing.
use Prim.Native.Nat.{◌<◌}
use native.Mathlib.Omega.{arith}
use borrow.Author.Tests.{lt-ltb, le-ltb}
use Rattle.alphabet.specs.Written.{written_length}
use Rattle.reading.specs.Limit.{limit}
use Rattle.spelling.specs.Size.{size_of}
use Rattle.spelling.proofs.LengthLaws.{longest_known, beyond_most}
use Rattle.spelling.proofs.SoundNumbers.{source_within}
use Rattle.spelling.proofs.size_of.Goals as goal

pub returns-then-alphabet-gt5 : goal.returns-then-alphabet-gt5
unfolding size_of
returns-then-alphabet-gt5 c = rw (le-ltb c.args.alphabet 6 (omega arith))

pub returns-then-longest-n : goal.returns-then-longest-n
unfolding size_of
returns-then-longest-n c =
    let s = c.args in
    let h : s.alphabet < 6 = omega arith in
    rw
    (lt-ltb s.alphabet 6 h, lt-ltb limit (written_length s.alphabet s.n) (beyond_most s.alphabet h s.n (rw (c.longest.ensures, longest_known s.alphabet h) at c.if-longest-n.true)))

pub written_len-requires : goal.written_len-requires
written_len-requires c = (omega arith, source_within _ _ 0 (omega arith) (rw c.longest.ensures at c.if-longest-n.false))

pub returns-else-longest-n : goal.returns-else-longest-n
unfolding size_of
returns-else-longest-n c =
    let s = c.args in
    rw (c.written_len.ensures, lt-ltb s.alphabet 6 (omega arith), le-ltb limit (written_length s.alphabet s.n) (source_within _ _ 0 (omega arith) (rw c.longest.ensures at c.if-longest-n.false)))
