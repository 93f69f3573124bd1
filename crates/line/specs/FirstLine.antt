-- 01, "The program": "Its first line is a verb J, D or E, space, one alphabet digit, space, two digits of options, byte 10. .. E .. (options must be 00)
-- .. Any other first line, also one never ended by byte 10 .., prints `1 0 0`." What the first line of an input asks for. Assumes nothing.
use Rattle.std.specs.Prelude.{ℕ, ◌+◌, ◌-◌, ◌*◌, Bool, cond, ◌&&◌, List, eqb, ltb, leb, length, get_or, Option, Some, None}
use Rattle.line.specs.declared.First.{First}
use Rattle.line.specs.declared.First.TheVariants as F

abbrev pub is_digit : ℕ → Bool
is_digit c = leb 48 c && ltb c 58

-- the number that a digit stands for
abbrev pub value : ℕ → ℕ
value c = c - 48

-- that number of a digit, and none of another byte
abbrev pub digit : ℕ → Option ℕ
digit c = cond (is_digit c) (Some (value c)) None

-- a byte, space, a digit, space, two digits, byte 10
abbrev pub shaped : List ℕ → Bool
shaped t =
    eqb (get_or t 1 0) 32
    && (eqb (get_or t 3 0) 32 && (eqb (get_or t 6 0) 10 && (is_digit (get_or t 2 0) && (is_digit (get_or t 4 0) && is_digit (get_or t 5 0)))))

-- J is 74, D is 68, E is 69, and E asks for nothing with options other than 00
abbrev pub asked : ℕ → ℕ → ℕ → Option First
asked verb alphabet options =
    cond (eqb verb 74) (Some (F.Judge alphabet options))
    (cond (eqb verb 68) (Some (F.Decode alphabet options))
    (cond (eqb verb 69) (cond (eqb options 0) (Some (F.Encode alphabet)) None) None))

-- the input's first seven bytes, where it has so many
abbrev pub first_of : List ℕ → Option First
first_of t =
    cond (ltb (length t) 7) None
    (cond (shaped t) (asked (get_or t 0 0) (value (get_or t 2 0)) (10 * value (get_or t 4 0) + value (get_or t 5 0))) None)
