-- The table has a value's digit. Assumes nothing.
use mathlib.Core.Path.{◌∙◌, ap}
use Rattle.table.specs.Table.{digit_in}
use Rattle.regroup.proofs.RegroupLaws.{rest_lt}
use Rattle.spelling.proofs.Lent.{digit_of}
use Rattle.spell.proofs.digit_above.Goals as goal

pub returns : goal.returns
returns g c =
    digit_of c.args.t.now.is c.requires.0 c.requires.1 (rest_lt g.row.B _) (c.digit.ensures ∙ ap (digit_in c.args.t.now.bytes c.args.alphabet) c.value.ensures)
