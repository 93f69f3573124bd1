-- The table's rule: one computed test compares its numbers with those that the rule makes. Assumes nothing.
use mathlib.Core.Path.{refl}
use Rattle.alphabet.specs.Ascii.{ascii}
use Rattle.alphabet.specs.Alphabet.{value, place_from, digits}
use Rattle.table.specs.Table.{made, entries}
use Rattle.table.proofs.table.Goals as goal

pub invariant_of-result : goal.invariant_of-result
unfolding ascii value place_from digits made entries
invariant_of-result c = record { is = refl }
