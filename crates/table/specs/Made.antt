-- The two tables as values of their types: each holds what the rule makes, and nothing else.
use mathlib.Core.Path.{refl}
use Rattle.table.specs.Table.{entries, digit_entries}
use Rattle.table.specs.declared.tables.Table.{Table}
use Rattle.table.specs.declared.tables.Digits.{Digits}

-- the reverse table
abbrev pub the_table : Table
the_table = record { values = entries; is = refl }

-- the table of digits
abbrev pub the_digits : Digits
the_digits = record { bytes = digit_entries; is = refl }
