-- How much longer the whole written form is than the front's digits. Assumes nothing.
use mathlib.Core.Path.{◌≡◌}
use native.Mathlib.Omega.{arith}
use Rattle.alphabet.specs.Written.{written_length}
use Rattle.spelling.proofs.MeasureLaws.{size_within}
use Rattle.spelling.proofs.EndingLaws.{ending_length, needed}
use Rattle.writing.proofs.front.Front.ending_len.Goals.{After-bits}
use Rattle.writing.proofs.front.Front.ending_len.Goals as goal

whole : (c : After-bits) → c.unwrap-whole.result ≡ written_length c.args.self.alphabet c.args.self.taken
whole c =
    let s = c.args.self in
    cc (c.unwrap-whole.ensures, c.size_of.ensures, size_within s.alphabet s.taken s.sound.known s.sound.within)

pub overflow_sub-result : goal.overflow_sub-result
overflow_sub-result c =
    let s = c.args.self in
    rw (c.bits.ensures, whole c) (omega (arith, ending_length s.alphabet s.taken s.held s.sound.known))

pub returns : goal.returns
returns c =
    let s = c.args.self in
    needed s.alphabet s.taken s.held s.sound.known c.bits.ensures (whole c)
