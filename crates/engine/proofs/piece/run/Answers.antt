-- `piece::run`: a ready state and what lies below the limit, or nothing. Assumes nothing.
use mathlib.Core.Path.{sym, ◌∙◌}
use Rattle.rule.proofs.Readiness.{is_ready}
use Rattle.engine.proofs.AtLimit.{ready_for, below_fits, run_told, run_none}
use Rattle.engine.proofs.piece.run.Goals as goal

pub fill-r-requires : goal.fill-r-requires
fill-r-requires c =
    rw c.of.ensures
    (ready_for (is_ready _ _ _ (sym c.ready.ensures ∙ c.if-not-ready.false)) (below_fits c.args.start.taken c.args.piece.now c.below_limit-m.ensures))

pub returns : goal.returns
returns c =
    let told = run_told c.args.choice.alphabet c.args.choice.options c.args.start c.args.piece.now c.args.out.now
    (sym c.ready.ensures ∙ c.if-not-ready.false) c.below_limit-m.ensures
    (rw c.of.ensures at c.fill-r.ensures.value, rw c.of.ensures at c.fill-r.ensures.out_after) c.at_limit.ensures in
    record { value = told.0; out_after = told.1 }

pub returns-then-not-ready : goal.returns-then-not-ready
returns-then-not-ready c =
    let none = run_none _ _ _ _ _ (sym c.ready.ensures ∙ c.if-not-ready.true) c.nothing.ensures in
    record { value = none.0; out_after = none.1 }
