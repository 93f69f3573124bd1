-- The length of a written form as it is counted: the digits, up to the end of a group. Assumes nothing.
use native.Mathlib.Omega.{arith}
use Rattle.alphabet.proofs.AlphabetLaws.{bits_low, group_pos}
use Rattle.reading.proofs.LimitLaws.{limit_small}
use Rattle.spelling.proofs.LengthLaws.{source_small, length_filled}
use Rattle.spelling.proofs.written_len.Goals as goal

pub overflow_mul-n : goal.overflow_mul-n
overflow_mul-n c = record { fits = omega (arith, source_small c.args.alphabet c.requires.0 c.args.n c.requires.1) }

pub div_ceil-digits-requires : goal.div_ceil-digits-requires
div_ceil-digits-requires c = rw c.bits.ensures (omega (arith, bits_low c.args.alphabet c.requires.0))

pub next_multiple_of-requires-clause-nonzero : goal.next_multiple_of-requires-clause-nonzero
next_multiple_of-requires-clause-nonzero c = rw c.group.ensures (group_pos c.args.alphabet c.requires.0)

pub next_multiple_of-requires-clause-fits : goal.next_multiple_of-requires-clause-fits
next_multiple_of-requires-clause-fits c =
    let filled = length_filled c.args.alphabet c.requires.0 c.args.n c.bits.ensures c.group.ensures in
    rw (c.div_ceil-digits.ensures, filled) (omega (arith, c.requires.1, limit_small))

pub returns : goal.returns
returns c =
    rw (c.next_multiple_of.ensures.value, c.div_ceil-digits.ensures)
    (length_filled c.args.alphabet c.requires.0 c.args.n c.bits.ensures c.group.ensures)
