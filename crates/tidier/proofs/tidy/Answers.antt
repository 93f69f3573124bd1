-- `tidy`: the judge's refusal, then the room, then the cleaned text. Assumes nothing.
use mathlib.Core.Path.{◌∙◌}
use native.Mathlib.Omega.{arith}
use lib.Seq.{length-take-le}
use Rattle.alphabet.proofs.AlphabetLaws.{group_pos}
use Rattle.tidier.proofs.TidierReturns.{accepts, known, spells, need_is, need_small, refused, lacking, tidied}
use Rattle.tidier.proofs.tidy.Goals as goal

pub next_multiple_of-need-requires-clause-nonzero : goal.next_multiple_of-need-requires-clause-nonzero
next_multiple_of-need-requires-clause-nonzero c =
    let x = accepts _ _ _ c.count-ran.ensures c.outcome.ensures c.in-Accepted.is in
    rw c.group.ensures (group_pos _ (known _ _ _ c.count-ran.ensures x))

pub next_multiple_of-need-requires-clause-fits : goal.next_multiple_of-need-requires-clause-fits
next_multiple_of-need-requires-clause-fits c =
    let x = accepts _ _ _ c.count-ran.ensures c.outcome.ensures c.in-Accepted.is in
    omega (arith, need_small _ _ _ c.count-ran.ensures x c.group.ensures)

pub returns-then-out-need : goal.returns-then-out-need
returns-then-out-need c =
    let x = accepts _ _ _ c.count-ran.ensures c.outcome.ensures c.in-Accepted.is in
    lacking _ _ _ c.count-ran.ensures x c.args.out.now
    (need_is _ _ _ c.count-ran.ensures x c.group.ensures c.next_multiple_of-need.ensures.value) c.if-out-need.true

pub write_clean-requires : goal.write_clean-requires
write_clean-requires c =
    let x = accepts _ _ _ c.count-ran.ensures c.outcome.ensures c.in-Accepted.is in
    record {
      spelled = spells _ _ _ c.count-ran.ensures x;
      out_len =
          length-take-le _ _ c.if-out-need.false
          ∙ need_is _ _ _ c.count-ran.ensures x c.group.ensures c.next_multiple_of-need.ensures.value;
    }

pub returns-in-Refused : goal.returns-in-Refused
returns-in-Refused c =
    refused _ _ _ c.count-ran.ensures c.args.out.now c.outcome.ensures c.in-Refused.is

pub returns-else-out-need : goal.returns-else-out-need
returns-else-out-need c =
    let x = accepts _ _ _ c.count-ran.ensures c.outcome.ensures c.in-Accepted.is in
    tidied _ _ _ c.count-ran.ensures x c.args.out.now
    (need_is _ _ _ c.count-ran.ensures x c.group.ensures c.next_multiple_of-need.ensures.value) c.if-out-need.false c.write_clean.ensures
