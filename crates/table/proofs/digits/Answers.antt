-- The table's rule: one computed test compares its numbers with those that the rule makes. Assumes nothing.
use mathlib.Core.Path.{refl}
use Rattle.alphabet.specs.Ascii.{ascii}
use Rattle.alphabet.specs.Alphabet.{digit, digits}
use Rattle.table.specs.Table.{made, digit_entries}
use Rattle.table.proofs.digits.Goals as goal

pub invariant_of-result : goal.invariant_of-result
unfolding ascii digit digits made digit_entries
invariant_of-result c = record { is = refl }
