-- 01, "The C face": "Answer, position and count are asked by a call each; the call that writes returns the answer." What the two calls that write
-- promise: the answer, and every byte of the buffer. Assumes nothing.
use Rattle.std.specs.Prelude.{ℕ, ◌≡◌, List, length}
use Rattle.reading.specs.Buffer.{filled}
use Rattle.block.specs.Whole.{read_of, read_bytes}
use Rattle.spelling.specs.Whole.{write_of}

-- the reader's answer r to the text t, and its buffer: o at entry, o' at exit
pub record ReadCall (a opts : ℕ) (t o : List ℕ) (r : ℕ) (o' : List ℕ) : Type 0 where
  pub answer : r ≡ (read_of a opts t (length o)).answer
  pub buffer : o' ≡ filled (read_bytes a opts t (length o)) o

-- the writer's answer r to the source, and its buffer
pub record WriteCall (a : ℕ) (src o : List ℕ) (r : ℕ) (o' : List ℕ) : Type 0 where
  pub answer : r ≡ (write_of a src (length o)).told.answer
  pub buffer : o' ≡ filled (write_of a src (length o)).text o
