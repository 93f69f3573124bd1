-- 01, "Streams": "For the serial driver there is a thin form that changes a lent state in place". A text offered in pieces, and again what was not
-- taken, by the by-value method and by the lent form: each call leaves what its contract allows. Assumes nothing.
use Rattle.std.specs.Prelude.{ℕ, ◌≡◌, List, [], ◌∷◌, ◌++◌, take, drop}
use Rattle.answer.specs.declared.Told.{Told}
use Rattle.answer.specs.declared.Stepped.{Stepped}
use Rattle.answer.specs.Told.{told}
use Rattle.stream.specs.declared.reader.Reader.{Reader}
use Rattle.stream.specs.Made.{Lent, Held, drive_by}
use Rattle.stream.specs.Stepped.{stepped, written}
use Rattle.writing.specs.declared.Writer.{Writer}
use Rattle.writing.specs.Moment.{After}
use Rattle.writing.specs.Promised.{SteppedAs}

-- a state, what is told, and the struct of the two; and what a step with a piece and a buffer may return, with the buffer at exit
pub record Form : Type 1 where
  pub State : Type 0
  pub Told : Type 0
  pub Both : Type 0
  pub state : Both → State
  pub told : Both → Told
  pub both : State → Told → Both
  pub took : Told → ℕ
  pub count : Told → ℕ
  pub May : State → List ℕ → List ℕ → Both → List ℕ → Type 0

-- the state, the bytes that it has not taken, and those handed out, joined
pub record Driven (S : Type 0) : Type 0 where
  pub state : S
  pub left : List ℕ
  pub out : List ℕ

abbrev pub after : (F : Form) → Driven F.State → F.State → F.Told → List ℕ → Driven F.State
after F d s t o = record { state = s; left = drop (F.took t) d.left; out = d.out ++ take (F.count t) o }

pub data ByValue (F : Form) : List Lent → Driven F.State → Driven F.State → Type 0 where
  none : {d : Driven F.State} → ByValue F [] d d
  call : {l : Lent} {ls : List Lent} {d e : Driven F.State} (x : F.Both) (o : List ℕ)
      → F.May d.state (take l.size d.left) l.buffer x o → ByValue F ls (after F d (F.state x) (F.told x) o) e → ByValue F (l ∷ ls) d e

-- the state at exit and what is told
pub data ByLent (F : Form) : List Lent → Driven F.State → Driven F.State → Type 0 where
  none : {d : Driven F.State} → ByLent F [] d d
  call : {l : Lent} {ls : List Lent} {d e : Driven F.State} (s : F.State) (t : F.Told) (o : List ℕ)
      → F.May d.state (take l.size d.left) l.buffer (F.both s t) o → ByLent F ls (after F d s t o) e → ByLent F (l ∷ ls) d e

-- ---- the two streams

-- a stream of the code, whose steps may do this
abbrev pub by : (S : Type 0) → (S → List ℕ → List ℕ → Stepped S → List ℕ → Type 0) → Form
by S may =
    record {
      State = S;
      Told = Told;
      Both = Stepped S;
      state = λ x. x.state;
      told = λ x. x.told;
      both = λ s t. record { state = s; told = t };
      took = λ t. t.taken.0;
      count = λ t. (told t.outcome).count;
      May = may;
    }

abbrev pub readers : Form
readers = by Reader (λ s piece out x out'. (x ≡ stepped s piece out) × (out' ≡ written s piece out))

abbrev pub held_of : Driven Reader → Held
held_of d = record { reader = d.state; left = d.left; out = d.out }

-- driving as the definition of the by-value calls has it
abbrev pub driven_by : List Lent → Driven Reader → Driven Reader
driven_by ls d = let h : Held = drive_by ls (held_of d) in record { state = h.reader; left = h.left; out = h.out }

abbrev pub writers : Form
writers = by Writer (λ s piece out x out'. SteppedAs s piece out out' x)

-- after the source src the bytes u more were taken, and the state and the text handed out are those of both
pub record Moment (src left : List ℕ) (e : Driven Writer) : Type 0 where
  pub more : List ℕ
  pub taken : left ≡ more ++ e.left
  pub stands : After e.state (src ++ more) e.out
