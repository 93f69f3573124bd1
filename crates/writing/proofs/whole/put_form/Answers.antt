-- The digits that the source fills whole, and the ending after them. Assumes nothing.
use mathlib.Core.Path.{◌∙◌}
use lib.Pow.{pow_pos}
use Rattle.spelling.proofs.LengthLaws.{none_within}
use Rattle.writing.proofs.WholeLaws.{source_sound, room_for_ending, whole_laid}
use Rattle.writing.proofs.whole.put_form.Goals as goal

pub invariant_of-begun : goal.invariant_of-begun
invariant_of-begun c =
    record { sound = record { known = c.requires.known; within = none_within c.args.alphabet c.requires.known; small = pow_pos _ } }

pub invariant_of-all : goal.invariant_of-all
invariant_of-all c = record { sound = source_sound _ c.requires.known _ _ _ _ c.requires.within c.requires.roomy c.run-ran.ensures }

pub put_ending-requires : goal.put_ending-requires
put_ending-requires c =
    rw c.run-ran.auto.out (room_for_ending _ c.requires.known _ _ _ _ c.requires.within c.requires.roomy c.run-ran.ensures)

pub returns : goal.returns
returns c =
    c.put_ending.ensures ∙ whole_laid _ c.requires.known _ _ _ _ c.requires.within c.requires.roomy c.run-ran.ensures
