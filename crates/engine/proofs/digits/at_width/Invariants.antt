use Prim.Native.Nat.{◌%◌}
use mathlib.Core.Path.{◌≡◌}
use Rattle.engine.proofs.Plain.{Plain}
use Rattle.engine.proofs.digits.at_width.Given as goal

abbrev pub invariant-loop-byte : goal.invariant-loop-byte
invariant-loop-byte g l = Plain l.alphabet l.k l.piece l.initial.out l.out (l.h % 256) l.r l.byte-index l.n × (l.i ≡ l.byte-index)
