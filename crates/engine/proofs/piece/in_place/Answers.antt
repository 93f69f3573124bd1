-- `piece::in_place`: what lies below the limit, in place; every byte past the good ones is as before. Assumes nothing.
use mathlib.Core.Path.{sym, ◌∙◌}
use native.Mathlib.Omega.{arith}
use lib.ListN.{length, take}
use Rattle.engine.proofs.AtLimit.{below_fits, start_ready, fresh_is, fresh_filled, fresh_none}
use Rattle.engine.proofs.AtLimit.{from_start, filled_start, unfit_start}
use Rattle.engine.proofs.piece.in_place.Goals as goal

pub settle-r-requires : goal.settle-r-requires
settle-r-requires c = start_ready c.fresh-start.ensures (omega (arith, below_fits 0 c.args.buf.now c.below_limit-m.ensures))

pub returns : goal.returns
returns c =
    let a = c.args.choice.alphabet in
    let opts = c.args.choice.options in
    let l = take c.below_limit-m.result c.args.buf.now in
    let allowed = sym c.allowed.ensures ∙ c.if-not-allowed.false in
    record {
      value = fresh_is a opts c.args.buf.now allowed c.below_limit-m.ensures
          (from_start a opts (length l) l c.fresh-start.ensures (rw c.of.ensures at c.settle-r.ensures.value)) c.at_limit.ensures;
      buf_after = fresh_filled a opts c.args.buf.now allowed c.below_limit-m.ensures
          (filled_start a opts (length l) l l c.fresh-start.ensures (rw c.of.ensures at c.settle-r.ensures.buf_after));
    }

pub returns-then-not-allowed : goal.returns-then-not-allowed
returns-then-not-allowed c =
    let n = fresh_none c.args.choice.alphabet c.args.choice.options c.args.buf.now (sym c.allowed.ensures ∙ c.if-not-allowed.true)
    (c.nothing.ensures ∙ unfit_start c.fresh-start.ensures) in
    record { value = n.0; buf_after = n.1 }
