use Rattle.tidier.proofs.SpellingSteps.{Spelling}
use Rattle.tidier.proofs.spell.Given as goal

abbrev pub invariant-loop-byte : goal.invariant-loop-byte
invariant-loop-byte l = Spelling l.rules.choice.alphabet l.rules.choice.options l.text l.initial.out l.out l.byte-index l.n
