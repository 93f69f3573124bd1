-- 01, "Answers": a reader looks at each byte in this order: (b) a dropped byte passes; (c) neither digit nor pad: 4; (d) padding begun and a digit, or
-- padding complete and a pad: 7; (e) a first pad where the table has none: 5; (f) spare bits not zero: 6; and the answers at the end. Assumes nothing.
use Rattle.std.specs.Prelude.{ℕ, ◌+◌, ◌-◌, ◌*◌, ◌/◌, ◌%◌, ◌^◌, cond, not, ◌&&◌, ◌||◌, List, [], ◌∷◌, ◌++◌, eqb, ltb, leb, length, take}
use Rattle.alphabet.specs.Alphabet.{bits, group, tail, value, is_digit, is_pad}
use Rattle.reading.specs.Options.{nopad, any_spare}
use Rattle.reading.specs.Cleaning.{dropped, turned}
use Rattle.reading.specs.Limit.{limit}

-- digits and pads so far, the bits that no byte has yet, and the bytes of text taken
pub record State : Type 0 where
  pub digits : ℕ
  pub held : ℕ
  pub pads : ℕ
  pub taken : ℕ

abbrev pub fresh : State
fresh = record { digits = 0; held = 0; pads = 0; taken = 0 }

-- what a byte does: it is taken, it completes a byte, or it is refused with an answer
pub data Step : Type 0 where
  takes : State → Step
  gives : ℕ → State → Step
  refuses : ℕ → Step

-- the pads that the last group wants
unfoldable pub wants : ℕ → State → ℕ
wants a s = tail a (s.digits % group a)

unfoldable pub held_bits : ℕ → State → ℕ
held_bits a s = bits a * s.digits % 8

unfoldable pub passes : State → State
passes s = record { digits = s.digits; held = s.held; pads = s.pads; taken = s.taken + 1 }

-- a digit of value v
unfoldable pub on_digit : ℕ → State → ℕ → Step
on_digit a s v =
    let b : ℕ = bits a in
    let z : ℕ = s.held * 2 ^ b + v in
    let n : ℕ = held_bits a s + b - 8 in
    cond (ltb 0 s.pads) (refuses 7)
    (cond (ltb (held_bits a s + b) 8)
    (takes (record { digits = s.digits + 1; held = z; pads = 0; taken = s.taken + 1 }))
    (gives (z / 2 ^ n) (record { digits = s.digits + 1; held = z % 2 ^ n; pads = 0; taken = s.taken + 1 })))

unfoldable pub on_pad : ℕ → ℕ → State → Step
on_pad a opts s =
    let next : Step = takes (record { digits = s.digits; held = s.held; pads = s.pads + 1; taken = s.taken + 1 }) in
    cond (ltb 0 s.pads) (cond (eqb s.pads (wants a s)) (refuses 7) next)
    (cond (eqb (wants a s) 0) (refuses 5)
    (cond (not (eqb s.held 0) && not (any_spare opts)) (refuses 6) next))

-- (b) to (f) of the order in which a byte is looked at
unfoldable pub step : ℕ → ℕ → State → ℕ → Step
step a opts s c =
    cond (dropped opts c) (takes (passes s))
    (cond (is_digit a (turned a opts c)) (on_digit a s (value a (turned a opts c)))
    (cond (is_pad a c) (on_pad a opts s)
    (refuses 4)))

-- the answer at the text's end
unfoldable pub ending : ℕ → ℕ → State → ℕ
ending a opts s =
    cond (ltb 0 s.pads) (cond (eqb s.pads (wants a s)) 0 8)
    (cond (eqb (s.digits % group a) 0) 0
    (cond (not (nopad opts) || eqb (wants a s) 0) 8
    (cond (not (eqb s.held 0) && not (any_spare opts)) 6 0)))

-- answer, position, good bytes
pub record Verdict : Type 0 where
  pub answer : ℕ
  pub position : ℕ
  pub good : List ℕ

-- a reader that goes on, with its bytes so far, or has refused
pub data Reading : Type 0 where
  going : State → List ℕ → Reading
  stopped : ℕ → ℕ → List ℕ → Reading

unfoldable pub follow : State → List ℕ → Step → Reading
follow s out (takes n) = going n out
follow s out (gives x n) = going n (out ++ x ∷ [])
follow s out (refuses k) = stopped k s.taken out

unfoldable pub feed : ℕ → ℕ → Reading → ℕ → Reading
feed a opts (going s out) c = follow s out (step a opts s c)
feed a opts (stopped k i out) c = stopped k i out

unfoldable pub feed_all : ℕ → ℕ → Reading → List ℕ → Reading
feed_all a opts r [] = r
feed_all a opts r (c ∷ cs) = feed_all a opts (feed a opts r c) cs

unfoldable pub finish : ℕ → ℕ → Reading → Verdict
finish a opts (going s out) = record { answer = ending a opts s; position = s.taken; good = out }
finish a opts (stopped k i out) = record { answer = k; position = i; good = out }

-- the text read with no limit
unfoldable pub read_all : ℕ → ℕ → List ℕ → Verdict
read_all a opts t = finish a opts (feed_all a opts (going fresh []) t)

-- the judge: a text past the limit is refused there, unless it is before
unfoldable pub at_limit : Reading → Verdict
at_limit (going s out) = record { answer = 2; position = limit; good = out }
at_limit (stopped k i out) = record { answer = k; position = i; good = out }

unfoldable pub judged : ℕ → ℕ → List ℕ → Verdict
judged a opts t = cond (leb (length t) limit) (read_all a opts t) (at_limit (feed_all a opts (going fresh []) (take limit t)))
