-- 01, "Answers": "The longest source is 12,582,912 bytes in base64, 10,485,760 in base32, 8,388,608 in hex." Computed. Assumes nothing.
use mathlib.Core.Path.{◌≡◌, refl}
use Rattle.alphabet.specs.Alphabet.{bits}
use Rattle.reading.specs.Limit.{limit}
use Rattle.spelling.specs.Size.{longest_of}

pub longest_base64 : (longest_of 0 ≡ 12582912) × (longest_of 1 ≡ 12582912)
unfolding longest_of bits limit
longest_base64 = (refl, refl)

pub longest_base32 : (longest_of 2 ≡ 10485760) × (longest_of 3 ≡ 10485760)
unfolding longest_of bits limit
longest_base32 = (refl, refl)

pub longest_hex : (longest_of 4 ≡ 8388608) × (longest_of 5 ≡ 8388608)
unfolding longest_of bits limit
longest_hex = (refl, refl)
