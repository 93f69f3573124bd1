-- A value of either type is the table that the rule makes: so any two are one.
use mathlib.Core.Path.{◌≡◌, sym, ap}
use Rattle.std.proofs.Math.Path.{contract'}
use Rattle.table.specs.declared.tables.Table.{Table}
use Rattle.table.specs.declared.tables.Digits.{Digits}
use Rattle.table.specs.Made.{the_table, the_digits}

pub table_is : (t : Table) → t ≡ the_table
table_is t = sym (ap (λ c. record { values = c.0; is = c.1 }) (contract' t.is))

pub digits_is : (d : Digits) → d ≡ the_digits
digits_is d = sym (ap (λ c. record { bytes = c.0; is = c.1 }) (contract' d.is))
