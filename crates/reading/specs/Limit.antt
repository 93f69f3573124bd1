-- 01, "Answers": the limit L is 16,777,216 bytes of text. Its value stands here and nowhere else among the definitions. Assumes nothing.
use Rattle.std.specs.Prelude.{ℕ}

unfoldable pub limit : ℕ
limit = 16777216
