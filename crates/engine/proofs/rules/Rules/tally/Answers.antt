-- `Rules::tally`: a run that counts, made in parts. Assumes nothing.
use mathlib.Core.Path.{sym, ◌∙◌, subst}
use native.Mathlib.Omega.{arith}
use Rattle.reading.proofs.LimitLaws.{limit_small}
use Rattle.reading.proofs.OptionLaws.{allowed_alphabet}
use Rattle.engine.proofs.InParts.{Counted, counted_sums, counted_done, tallied_then, tallied_more, tallied_done}
use Rattle.engine.proofs.rules.Rules.tally.Goals as goal

pub returns : goal.returns
returns c = tallied_done (allowed_alphabet _ _ c.args.self.now.allowed) c.loop-part.invariant.tallied c.in-None.ensures.steps.1.0

pub then-s-requires : goal.then-s-requires
then-s-requires c =
    let known = allowed_alphabet _ _ c.args.self.now.allowed in
    let so_far = c.loop-part.invariant in
    let n = counted_sums known (tallied_then _ _ so_far.tallied so_far.size c.in-Some.ensures.steps.1 known c.counted.ensures) in
    record { took_bound = omega (arith, n.0, c.requires.within, limit_small); wrote_bound = omega (arith, n.1, c.requires.within, limit_small) }

pub loop-part-preserved : goal.loop-part-preserved
loop-part-preserved c =
    let known = allowed_alphabet _ _ c.args.self.now.allowed in
    let so_far = c.loop-part.invariant in
    record {
      can = omega (arith, c.in-Some.ensures.steps.0);
      ends = tt;
      size = c.in-Some.ensures.steps.0 ∙ so_far.size;
      tallied = tallied_more _ _ so_far.tallied so_far.size c.in-Some.ensures.steps.1 known c.counted.ensures c.then-s.ensures
          (sym c.goes_on.ensures ∙ c.if-not-goes_on.false);
    }

pub returns-then-not-goes_on : goal.returns-then-not-goes_on
returns-then-not-goes_on c =
    let known = allowed_alphabet _ _ c.args.self.now.allowed in
    let so_far = c.loop-part.invariant in
    let next = subst (Counted c.args.self.now.choice.alphabet c.args.self.now.choice.options c.args.text.now c.args.start) (sym c.then-s.ensures)
    (tallied_then _ _ so_far.tallied so_far.size c.in-Some.ensures.steps.1 known c.counted.ensures) in
    (counted_done known next (sym c.goes_on.ensures ∙ c.if-not-goes_on.true)).0
