-- The loop at each width; digits of four bits leave nothing held. Assumes nothing.
use Prim.Native.Nat.{◌*◌, ◌%◌, ◌^◌}
use mathlib.Core.Path.{◌≡◌}
use native.Mathlib.Nat.{mod-one}
use native.Mathlib.Omega.{arith}
use Rattle.alphabet.specs.Alphabet.{bits}
use Rattle.alphabet.proofs.AlphabetLaws.{bits_low, bits_high}
use Rattle.spell.proofs.by_width.Goals as goal

pub returns-in_default : goal.returns-in_default
returns-in_default c =
    let a = c.args.alphabet in
    let four : bits a ≡ 4 = omega (arith, bits_low a c.requires.known, bits_high a c.requires.known, c.bits.ensures) in
    let z : 8 * c.args.taken % 4 ≡ 0 = omega arith in
    let none_held : c.args.held % 2 ^ (8 * c.args.taken % bits a) ≡ 0 % 2 ^ (8 * c.args.taken % bits a) = rw (four, z) (mod-one c.args.held) in
    rw none_held c.spell-in_default.ensures
