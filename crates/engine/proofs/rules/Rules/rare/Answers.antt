-- `Rules::rare`: a dropped byte passes, and any other does what its symbol says. Assumes nothing.
use mathlib.Core.Path.{sym, ◌∙◌}
use Rattle.reading.proofs.OptionLaws.{allowed_alphabet}
use Rattle.rule.specs.Meaning.{state_of, number}
use Rattle.engine.proofs.Bytes.{turned_digit, turned_pad, turned_neither}
use borrow.Author.Rules.{rules}
use Rattle.engine.proofs.rules.Rules.rare.Goals as goal

pub on_digit-requires-clause-v_bound : goal.on_digit-requires-clause-v_bound
on_digit-requires-clause-v_bound c =
    let known = allowed_alphabet _ _ c.args.self.now.allowed in
    (turned_digit _ _ _ (state_of c.args.k) c.args.self.now.table.is known (sym c.dropped.ensures ∙ c.if-dropped.false)
    c.turned.ensures (search rules) (sym c.lookup.ensures ∙ c.in-Digit.is)).small

pub returns-in-Digit : goal.returns-in-Digit
returns-in-Digit c =
    let known = allowed_alphabet _ _ c.args.self.now.allowed in
    let d = turned_digit _ _ _ _ c.args.self.now.table.is known (sym c.dropped.ensures ∙ c.if-dropped.false) c.turned.ensures
    (search rules) (sym c.lookup.ensures ∙ c.in-Digit.is) in
    c.on_digit.ensures ∙ sym d.is

pub returns-in-Pad : goal.returns-in-Pad
returns-in-Pad c =
    let known = allowed_alphabet _ _ c.args.self.now.allowed in
    c.on_pad.ensures
    ∙ sym (turned_pad _ _ _ _ c.args.self.now.table.is known (sym c.dropped.ensures ∙ c.if-dropped.false) c.turned.ensures
    (search rules) (sym c.lookup.ensures ∙ c.in-Pad.is))

pub returns-in-Neither : goal.returns-in-Neither
unfolding number
returns-in-Neither c =
    let known = allowed_alphabet _ _ c.args.self.now.allowed in
    sym (turned_neither _ _ _ _ c.args.self.now.table.is known (sym c.dropped.ensures ∙ c.if-dropped.false) c.turned.ensures
    (search rules) (sym c.lookup.ensures ∙ c.in-Neither.is))
