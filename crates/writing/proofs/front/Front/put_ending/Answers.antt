-- The last digit and the pads, laid into a buffer. Assumes nothing.
use Prim.Native.Nat.{◌-◌, ◌*◌, ◌%◌, ◌^◌, ◌<◌, ◌≤◌}
use mathlib.Core.Path.{◌≡◌, ◌∙◌}
use native.Mathlib.Nat.{mod-eq_of_lt, lt_of_lt_of_le}
use native.Mathlib.Omega.{arith}
use mathlib.Core.List.{[]}
use lib.ListN.{length, length-set}
use lib.Pow.{pow_mono}
use Rattle.alphabet.specs.Alphabet.{digit}
use Rattle.alphabet.proofs.AlphabetLaws.{bits_high}
use Rattle.spelling.specs.Front.{ending}
use Rattle.spelling.proofs.Lent.{digit_of}
use Rattle.std.proofs.lemmas.List.Edits.{paste_none}
use Rattle.spelling.proofs.EndingLaws.{ending_none, ending_is, some_ending, value_lt, laid}
use Rattle.writing.proofs.front.Front.put_ending.Goals as goal

pub returns-then-few-eq0 : goal.returns-then-few-eq0
returns-then-few-eq0 c =
    let s = c.args.self in
    rw (ending_none s.alphabet s.taken s.held (rw c.bits-b.ensures at c.if-few-eq0.true)) (paste_none c.args.out.now c.args.at [])

pub put_pads-requires : goal.put_pads-requires
put_pads-requires c =
    let s = c.args.self in
    let some = some_ending s.alphabet s.taken s.held s.sound c.bits-b.ensures c.if-few-eq0.false in
    rw (length-set c.args.out.now c.args.at c.digit.result) (omega (arith, c.requires, c.ending_len.ensures, some))

-- the byte that is stored is the last digit
pub returns : goal.returns
returns c =
    let s = c.args.self in
    let b = c.bits-b.result in
    let high : b ≤ 6 = rw c.bits-b.ensures (bits_high s.alphabet s.sound.known) in
    let value = value_lt s.alphabet s.taken s.held s.sound c.bits-b.ensures c.if-few-eq0.false in
    let byte : s.held * 2 ^ (b - 8 * s.taken % b) < 256 = lt_of_lt_of_le value (pow_mono {j = 8} (omega arith)) in
    let digit_at : c.digit.result ≡ digit s.alphabet (s.held * 2 ^ (b - 8 * s.taken % b)) =
    digit_of c.args.t.now.is s.sound.known c.bits-b.ensures value (rw (mod-eq_of_lt byte) at c.digit.ensures) in
    let spelled = ending_is s.alphabet s.taken s.held s.sound c.bits-b.ensures c.if-few-eq0.false in
    let some = some_ending s.alphabet s.taken s.held s.sound c.bits-b.ensures c.if-few-eq0.false in
    let inside : c.args.at < length c.args.out.now = omega (arith, c.requires, some) in
    c.put_pads.ensures
    ∙ rw c.ending_len.ensures
    (laid c.args.out.now c.args.at c.digit.result (length (ending s.alphabet s.taken s.held) - 1) (rw (← digit_at) at spelled) inside)
