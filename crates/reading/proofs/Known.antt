-- The fourteen starred texts of 01 have the outcomes that it gives, by one computed check over their list. Assumes nothing.
use lib.Dec.{T}
use Rattle.alphabet.specs.Ascii.{ascii}
use Rattle.alphabet.specs.Alphabet.{bits, group, digits, digit, place_from, value, is_digit, padded, is_pad, tail, spare}
use Rattle.alphabet.specs.Written.{wanting}
use Rattle.reading.specs.Options.{chosen}
use Rattle.reading.specs.Cleaning.{dropped, kept, upper, lower, turned, has, refilled, pad_run, cleared_digit, cleared, clean}
use Rattle.reading.specs.Limit.{limit}
use Rattle.reading.specs.Reader.{judged, read_all, at_limit, finish, feed_all, feed, follow, ending, step, on_pad, on_digit, passes, held_bits, wants}
use Rattle.reading.specs.Known.{same, tidies, holds, all_hold, starred}

pub known : T (all_hold starred)
unfolding ascii bits group digits digit place_from value is_digit padded is_pad tail spare wanting chosen dropped kept upper lower turned has refilled pad_run cleared_digit cleared clean limit judged read_all at_limit finish feed_all feed follow ending step on_pad on_digit passes held_bits wants same tidies holds all_hold
known = tt
