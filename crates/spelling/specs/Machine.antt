-- 01, "Streams": "A writer takes a source byte only if all digits it completes fit, else 3; it refuses with 2 the byte after which the finished text
-- would exceed L, tested before room." What one byte does after n bytes, and what a piece does. Assumes nothing.
use Rattle.std.specs.Prelude.{ℕ, ◌+◌, ◌-◌, ◌*◌, ◌/◌, ◌%◌, Bool, cond, List, [], ◌∷◌, ◌++◌, map, ltb, drop}
use Rattle.alphabet.specs.Written.{written_length}
use Rattle.alphabet.specs.Bits.{bits_of, value_of, pack}
use Rattle.alphabet.specs.Alphabet.{bits, digit}
use Rattle.reading.specs.Limit.{limit}
use Rattle.spelling.specs.declared.Why.{Why}
use Rattle.spelling.specs.declared.Why.TheVariants as W

-- the bits held after n bytes, and after them those of the byte c
unfoldable pub waiting : ℕ → ℕ → ℕ → ℕ → List Bool
waiting b n held c = bits_of (8 * n % b) held ++ bits_of 8 c

-- how many digits a byte completes after n bytes: the runs of b bits that are full
unfoldable pub full_runs : ℕ → ℕ → ℕ
full_runs b n = (8 * n % b + 8) / b

-- the values of these digits
unfoldable pub completes : ℕ → ℕ → ℕ → ℕ → List ℕ
completes b n held c = pack b (full_runs b n) (waiting b n held c)

-- the bits held after the byte
unfoldable pub keeps : ℕ → ℕ → ℕ → ℕ → ℕ
keeps b n held c = value_of (drop (b * full_runs b n) (waiting b n held c))

-- what a piece does: the bits held then, why it stopped, how many bytes it took, and the text that it gave
pub record Run : Type 0 where
  pub held : ℕ
  pub why : Why
  pub took : ℕ
  pub wrote : List ℕ

abbrev pub stop : ℕ → Why → Run
stop held w = record { held = held; why = w; took = 0; wrote = [] }

abbrev pub after : ℕ → List ℕ → Run → Run
after n text r = record { held = r.held; why = r.why; took = n + r.took; wrote = text ++ r.wrote }

-- a byte after n bytes: it is taken if all digits that it completes fit, and what comes next goes on
unfoldable pub where_room : ℕ → ℕ → ℕ → ℕ → ℕ → Run → Run
where_room a n held c room next =
    cond (ltb room (full_runs (bits a) n)) (stop held W.Room) (after 1 (map (digit a) (completes (bits a) n held c)) next)

-- the limit is tested before the room
unfoldable pub on_byte : ℕ → ℕ → ℕ → ℕ → ℕ → Run → Run
on_byte a n held c room next = cond (ltb limit (written_length a (n + 1))) (stop held W.Limit) (where_room a n held c room next)

-- the bytes of a piece, one after the other, into room for so many bytes of text
unfoldable pub run : ℕ → ℕ → ℕ → List ℕ → ℕ → Run
run a n held [] room = stop held W.All
run a n held (c ∷ cs) room =
    on_byte a n held c room (run a (n + 1) (keeps (bits a) n held c) cs (room - full_runs (bits a) n))

-- the same with no limit
unfoldable pub spell : ℕ → ℕ → ℕ → List ℕ → ℕ → Run
spell a n held [] room = stop held W.All
spell a n held (c ∷ cs) room =
    where_room a n held c room (spell a (n + 1) (keeps (bits a) n held c) cs (room - full_runs (bits a) n))

-- why a run stopped that took n bytes of a piece of so many, cut at the limit
unfoldable pub why_at : ℕ → ℕ → ℕ → Why
why_at n end len = cond (ltb n end) W.Room (cond (ltb end len) W.Limit W.All)
