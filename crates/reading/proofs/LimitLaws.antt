-- What is known of the limit: it is a multiple of eight, and at most 2^32, so that sums have room to 2^40. The only file, beside the computed
-- check of the known texts, that looks at its value. Assumes nothing.
use Prim.Native.Nat.{◌*◌, ◌/◌, ◌%◌, ◌^◌, ◌≤◌}
use mathlib.Core.Path.{◌≡◌, refl}
use lib.Dec.{lit≤}
use Rattle.reading.specs.Limit.{limit}

pub limit_whole : limit % 8 ≡ 0
unfolding limit
limit_whole = refl

pub limit_small : limit ≤ 2 ^ 32
unfolding limit
limit_small = lit≤ tt

-- the bytes of L digits of hex
pub limit_hex : 4 * limit / 8 ≡ 8388608
unfolding limit
limit_hex = refl
