-- The longest source is what the limit's digits have of bytes; above 5 there are no digits. Assumes nothing.
use Prim.Native.Nat.{◌*◌, ◌≤◌}
use native.Mathlib.Nat.{mul-le-mul_right}
use native.Mathlib.Omega.{arith}
use Rattle.alphabet.specs.Alphabet.{bits}
use Rattle.reading.specs.Limit.{limit}
use Rattle.reading.proofs.LimitLaws.{limit_small}
use Rattle.spelling.proofs.LengthLaws.{bits_most, longest_law}
use Rattle.spelling.proofs.longest.Goals as goal

pub overflow_mul-result : goal.overflow_mul-result
overflow_mul-result c =
    let m : bits c.args.alphabet * limit ≤ 6 * limit = mul-le-mul_right limit (bits_most c.args.alphabet) in
    record { fits = rw (c.limit.ensures, c.bits.ensures) (omega (arith, limit_small)) }

pub returns : goal.returns
returns c = rw (c.limit.ensures, c.bits.ensures) (longest_law c.args.alphabet)
