-- The stream of 01 with a known outcome goes as it says, by one computed check. Assumes nothing.
use lib.Dec.{T}
use Rattle.alphabet.specs.Ascii.{ascii}
use Rattle.alphabet.specs.Alphabet.{bits, group, digits, digit, place_from, value, is_digit, padded, is_pad, tail}
use Rattle.reading.specs.Options.{chosen, allowed}
use Rattle.reading.specs.Cleaning.{dropped, upper, lower, turned}
use Rattle.reading.specs.Limit.{limit}
use Rattle.reading.specs.Reader.{ending, step, on_pad, on_digit, passes, held_bits, wants}
use Rattle.reading.specs.Piece.{on_step, run, why_at_limit, at_limit_ran, run_piece}
use Rattle.reading.specs.Known.{same}
use Rattle.streaming.specs.Given.{counts_fit, pads_fit, readable, status_fits, given}
use Rattle.streaming.specs.Calls.{by_status, in_order, why_status, why_answer, ran, step_of}
use Rattle.streaming.specs.Known.{gave_out, first, second, streamed}

pub known : T streamed
unfolding ascii bits group digits digit place_from value is_digit padded is_pad tail chosen allowed dropped upper lower turned limit ending step on_pad on_digit passes held_bits wants on_step run why_at_limit at_limit_ran run_piece same counts_fit pads_fit readable status_fits given by_status in_order why_status why_answer ran step_of gave_out first second streamed
known = tt
