-- 01, "The named laxities": options are a sum, 0 to 31, and zero is strict; "Answers": answer 1 is an alphabet above 5, options above 31, or
-- CASE with alphabet 0 or 1. Assumes nothing.
use Rattle.std.specs.Prelude.{ℕ, ◌/◌, ◌%◌, Bool, not, ◌&&◌, eqb, ltb}

-- the option of weight k is set in the sum
unfoldable pub chosen : ℕ → ℕ → Bool
chosen k opts = eqb (opts / k % 2) 1

abbrev pub lines : ℕ → Bool
lines = chosen 1

abbrev pub blank : ℕ → Bool
blank = chosen 2

abbrev pub nopad : ℕ → Bool
nopad = chosen 4

abbrev pub any_spare : ℕ → Bool
any_spare = chosen 8

abbrev pub any_case : ℕ → Bool
any_case = chosen 16

-- the choice of an alphabet and options is not answered 1
unfoldable pub allowed : ℕ → ℕ → Bool
allowed a opts = ltb a 6 && ltb opts 32 && not (any_case opts && ltb a 2)
