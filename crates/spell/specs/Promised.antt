-- What the writer's loop promises: the equation that determines the result and the buffer at exit. Assumes nothing.
use Rattle.std.specs.Prelude.{ℕ, ◌*◌, ◌%◌, ◌^◌, ◌<◌, ◌≡◌, cond, List, ltb, length}
use Rattle.alphabet.specs.Alphabet.{bits}
use Rattle.reading.specs.Buffer.{filled}
use Rattle.spelling.specs.Machine.{Run, stop, spell}
use Rattle.spelling.specs.declared.Why.TheVariants as W
use Rattle.spell.specs.declared.Went.{Went}

-- after n bytes, where of `held` only the bits that n bytes leave count
abbrev pub spell_of : ℕ → ℕ → ℕ → List ℕ → ℕ → Run
spell_of a n held piece room = spell a n (held % 2 ^ (8 * n % bits a)) piece room

-- nothing for an alphabet above 5
unfoldable pub spelled_of : ℕ → ℕ → ℕ → List ℕ → ℕ → Run
spelled_of a n held piece room = cond (ltb a 6) (spell_of a n held piece room) (stop 0 W.All)

-- what the loop asks: the width of an alphabet
pub record Spells (a b : ℕ) : Type 0 where
  pub width : b ≡ bits a
  pub known : a < 6

-- of loose bits h the few low ones are held
abbrev pub leaving : ℕ → ℕ → ℕ → ℕ → Went
leaving h few n m = record { held = h % 2 ^ few; taken = n; written = m }

-- where a run came to, and the buffer o, o' at entry and exit, are what the definition gives
pub record WentAs (R : Run) (r : Went) (o o' : List ℕ) : Type 0 where
  pub held : r.held ≡ R.held
  pub taken : r.taken ≡ R.took
  pub written : r.written ≡ length R.wrote
  pub buffer : o' ≡ filled R.wrote o
