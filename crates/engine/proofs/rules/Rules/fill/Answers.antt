-- `Rules::fill`: a run into a buffer, made in stretches. Assumes nothing.
use Prim.Native.Nat.{ℕ, ◌-◌}
use mathlib.Core.Path.{sym, ◌∙◌, subst}
use mathlib.Core.List.{◌++◌, List}
use lib.ListN.{length, take, drop}
use Rattle.reading.proofs.OptionLaws.{allowed_alphabet}
use Rattle.engine.specs.Loop.{Reached}
use Rattle.engine.proofs.Loops.{rest_some}
use Rattle.engine.proofs.Reaching.{goes_on_law, left_less, reached_then, reached_done}
use Rattle.engine.proofs.rules.Rules.fill.Goals as goal

pub loop-i-smaller : goal.loop-i-smaller
loop-i-smaller c =
    let going = goes_on_law _ _ _ (sym c.goes_on.ensures ∙ c.loop-i-test.true) in
    left_less c.loop-i.s c.stretch-r.result (length c.args.piece.now) going.0 going.1 c.then-s.ensures
    (λ w. c.stretch-r.ensures.some w (rest_some c.args.piece.now c.loop-i.s.took going.1))

pub loop-i-preserved : goal.loop-i-preserved
loop-i-preserved c =
    let out : List ℕ =
    take c.loop-i.s.wrote c.loop-i.out ++ (c.stretch-r.new.out ++ drop (length c.loop-i.out - c.loop-i.s.wrote) (drop c.loop-i.s.wrote c.loop-i.out)) in
    let known = allowed_alphabet _ _ c.args.self.now.allowed in
    let going = goes_on_law _ _ _ (sym c.goes_on.ensures ∙ c.loop-i-test.true) in
    let next = reached_then known c.loop-i.invariant going.0 c.stretch-r.ensures.reached in
    subst (Reached c.args.self.now.choice.alphabet c.args.self.now.choice.options c.args.start c.args.piece.now c.args.out.now out)
    (sym c.then-s.ensures) next

pub returns : goal.returns
returns c =
    let known = allowed_alphabet _ _ c.args.self.now.allowed in
    record {
      value = (reached_done known c.loop-i.invariant (sym c.goes_on.ensures ∙ c.loop-i-test.false)).0;
      out_after = (reached_done known c.loop-i.invariant (sym c.goes_on.ensures ∙ c.loop-i-test.false)).1;
    }
