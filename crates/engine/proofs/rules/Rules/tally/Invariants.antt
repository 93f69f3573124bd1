use mathlib.Core.Path.{◌≡◌}
use Rattle.std.specs.Slice.Iter.{chunks_rest, chunks_size}
use Rattle.engine.proofs.InParts.{Tallied}
use Rattle.engine.proofs.rules.Rules.tally.Given as goal

abbrev pub invariant-loop-part : goal.invariant-loop-part
invariant-loop-part l = record {
  can : (goal.iterator-loop-part).can_next l.part-iterator;
  ends : (goal.iterator-loop-part).is_finite l.part-iterator;
  size : chunks_size l.part-iterator ≡ 256;
  tallied : Tallied l.self.choice.alphabet l.self.choice.options l.text l.fn.start (chunks_rest l.part-iterator) l.s;
}
