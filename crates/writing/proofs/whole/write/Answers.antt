-- The whole writer: what is measured, and the written form where that is accepted. Assumes nothing.
use Rattle.writing.proofs.WholeLaws.{accepted_fits, wrote_all, wrote_none}
use Rattle.writing.proofs.whole.write.Goals as goal

pub put_form-requires : goal.put_form-requires
put_form-requires c =
    accepted_fits _ _ c.args.out.now c.measure-told.ensures _ _ c.in-Accepted.is

pub returns-in-Accepted : goal.returns-in-Accepted
returns-in-Accepted c =
    wrote_all _ _ _ c.measure-told.ensures _ _ c.in-Accepted.is c.put_form.ensures

pub returns-in_default : goal.returns-in_default
returns-in_default c = wrote_none _ _ _ c.measure-told.ensures _ _ c.in_default.is
