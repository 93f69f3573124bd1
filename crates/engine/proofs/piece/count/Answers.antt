-- `piece::count`: what lies below the limit, counted. Assumes nothing.
use mathlib.Core.Path.{sym, ◌∙◌}
use native.Mathlib.Omega.{arith}
use lib.ListN.{length, take}
use Rattle.engine.proofs.AtLimit.{below_fits, start_ready, fresh_is, fresh_none, from_start, unfit_start}
use Rattle.engine.proofs.piece.count.Goals as goal

pub tally-r-requires : goal.tally-r-requires
tally-r-requires c = start_ready c.fresh-start.ensures (omega (arith, below_fits 0 c.args.text.now c.below_limit-m.ensures))

pub returns : goal.returns
returns c =
    let l = take c.below_limit-m.result c.args.text.now in
    fresh_is c.args.choice.alphabet c.args.choice.options c.args.text.now (sym c.allowed.ensures ∙ c.if-not-allowed.false) c.below_limit-m.ensures
    (from_start c.args.choice.alphabet c.args.choice.options (length l) l c.fresh-start.ensures (rw c.of.ensures at c.tally-r.ensures)) c.at_limit.ensures

pub returns-then-not-allowed : goal.returns-then-not-allowed
returns-then-not-allowed c =
    (fresh_none c.args.choice.alphabet c.args.choice.options c.args.text.now (sym c.allowed.ensures ∙ c.if-not-allowed.true)
    (c.nothing.ensures ∙ unfit_start c.fresh-start.ensures)).0
