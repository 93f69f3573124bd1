-- The lemmas that the check takes where a function has no answer by hand. Assumes nothing.
use Rattle.alphabet.proofs.AlphabetLaws.{bits_low, bits_high}
use Rattle.spelling.proofs.LengthLaws.{source_small, longest_known, within_most, none_within}
use Rattle.spelling.proofs.RunLaws.{run_short}
use Rattle.spelling.proofs.MeasureLaws.{size_within}
use Rattle.spelling.proofs.EndingLaws.{ending_length, some_ending}
use Rattle.writing.proofs.SoundLaws.{passes, unless_long, where_long, no_numbers}
use Rattle.writing.proofs.Promises.{bad_order, long_order, done_order, open_order}

-- the numbers of a source
pub ruleset numbers = (bits_low, bits_high, source_small, longest_known, within_most, none_within, run_short, size_within, ending_length, some_ending)

-- the cases of a call
pub ruleset cases = (passes, unless_long, where_long, no_numbers, bad_order, long_order, done_order, open_order)
