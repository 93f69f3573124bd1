-- `Rules::stretch`: digits are passed, and the byte after them does what the definition says. Assumes nothing.
use mathlib.Core.Path.{refl}
use Rattle.reading.proofs.OptionLaws.{allowed_alphabet}
use Rattle.engine.proofs.Reaching.{stretch_put}
use Rattle.engine.proofs.rules.Rules.stretch.Goals as goal

pub returns : goal.returns
returns c =
    stretch_put c.rare-byte.result (allowed_alphabet _ _ c.args.self.now.allowed)
    (c.pass-p.ensures.fills c.args.self.now.choice.options c.args.self.now.allowed) c.if-piece-p.false c.rare-byte.ensures refl c.put.ensures.value
    c.put.ensures.out_after
