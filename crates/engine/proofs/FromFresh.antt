-- What the engine's runs over a whole text are in the definitions of `reading`: why they stopped, and that they begin in the fresh state where the
-- choice is allowed. Assumes nothing.
use Prim.Native.Nat.{ℕ, ◌+◌, ◌-◌, ◌≤◌}
use mathlib.Core.Path.{◌≡◌, refl, subst}
use mathlib.Core.Logic.{◌⊎◌, inl, inr}
use mathlib.Core.Bool.{true, false}
use mathlib.Core.List.{List, []}
use native.Mathlib.Nat.{mul-zero}
use native.Mathlib.Omega.{arith}
use lib.Dec.{eqb, eqb→eq}
use lib.ListN.{length}
use borrow.Author.Tests.{le-leb}
use Rattle.alphabet.specs.Alphabet.{bits}
use Rattle.alphabet.proofs.Tables.{all_below, every}
use Rattle.reading.specs.Options.{allowed}
use Rattle.reading.specs.Limit.{limit}
use Rattle.reading.specs.Reader.{fresh}
use Rattle.reading.specs.Piece as P
use Rattle.reading.specs.Piece.{run_piece}
use Rattle.engine.specs.declared.piece.Why.TheVariants as W
use Rattle.rule.specs.Meaning.{number, core_of, cause_of}
use Rattle.rule.specs.State.{small, ready}
use Rattle.engine.specs.Ran.{why_as, ran_as, unfit, run_as, run_bytes, fresh_as, fresh_bytes}

-- ---- why a run stopped

pub all_as : why_as P.all ≡ W.All
unfolding why_as
all_as = refl

pub refused_as : (k : ℕ) → why_as (P.refused k) ≡ W.Refused (cause_of k)
unfolding why_as
refused_as k = refl

pub full_as : why_as P.full ≡ W.Full
unfolding why_as
full_as = refl

-- a refusal's cause has the refusal's number
pub number_cause : (k : ℕ) → (k ≡ 2) ⊎ ((4 ≤ k) × (k ≤ 8)) → number (cause_of k) ≡ k
unfolding number cause_of all_below
number_cause k (inl e) = rw e
number_cause k (inr (l, m)) =
    subst (λ (j : ℕ). number (cause_of j) ≡ j) (omega arith)
    (eqb→eq (number (cause_of (4 + (k - 4)))) (4 + (k - 4)) (every 5 (λ j. eqb (number (cause_of (4 + j))) (4 + j)) tt (k - 4) (omega arith)))

-- ---- a run from the fresh state

module _ (a opts : ℕ) where
  fresh_ready : allowed a opts ≡ true → ready a opts (core_of fresh) ≡ true
  unfolding ready small
  fresh_ready e = rw (e, le-leb 0 limit (omega arith), mul-zero (bits a))

  not_ready : allowed a opts ≡ false → ready a opts (core_of fresh) ≡ false
  unfolding ready
  not_ready e = rw e

  module _ (t : List ℕ) (room : ℕ) where
    pub run_fresh : allowed a opts ≡ true → run_as a opts (core_of fresh) t room ≡ ran_as (run_piece a opts t fresh room)
    unfolding run_as
    run_fresh e = rw (fresh_ready e)

    pub run_fresh_bytes : allowed a opts ≡ true → run_bytes a opts (core_of fresh) t room ≡ (run_piece a opts t fresh room).wrote
    unfolding run_bytes
    run_fresh_bytes e = rw (fresh_ready e)

  -- the same with room for as many bytes as the text has
  module _ (t : List ℕ) where
    pub fresh_runs : allowed a opts ≡ true → fresh_as a opts t ≡ ran_as (run_piece a opts t fresh (length t))
    unfolding fresh_as
    fresh_runs e = rw e

    pub fresh_runs_bytes : allowed a opts ≡ true → fresh_bytes a opts t ≡ (run_piece a opts t fresh (length t)).wrote
    unfolding fresh_bytes
    fresh_runs_bytes e = rw e

    pub fresh_unfit : allowed a opts ≡ false → fresh_as a opts t ≡ unfit (core_of fresh)
    unfolding fresh_as
    fresh_unfit e = rw e

    pub fresh_unfit_bytes : allowed a opts ≡ false → fresh_bytes a opts t ≡ []
    unfolding fresh_bytes
    fresh_unfit_bytes e = rw e
