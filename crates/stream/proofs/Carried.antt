-- What is shown of a reader's stream holds of what `Reader::step` and `Reader::finish` return, on every state. Assumes nothing.
use Prim.Native.Nat.{ℕ}
use mathlib.Core.Path.{◌≡◌, sym, ◌∙◌}
use mathlib.Core.Logic.{◌↔◌}
use mathlib.Core.List.{List}
use lib.ListN.{length}
use Rattle.states.specs.declared.Status.TheVariants as U
use Rattle.stream.specs.declared.reader.Reader.{Reader}
use Rattle.streaming.specs.Stream.{live}
use Rattle.streaming.specs.Reached.{Reachable}
use Rattle.states.specs.Status.{status_of}
use Rattle.stream.specs.Stepped.{stream_of}
use Rattle.stream.specs.Made.{steps, finishes, Reached}
use Rattle.stream.specs.Carried.{StepCarried, FinishCarried}
use Rattle.streaming.proofs.AfterCalls.{after_any_calls}
use Rattle.streaming.proofs.GoesOn.{step_goes_on}
use Rattle.streaming.proofs.NineExactly.{nine_exactly}
use Rattle.streaming.proofs.Again.{step_again, finish_again}
use Rattle.streaming.proofs.RefusesExactly.{refuses_exactly}
use Rattle.stream.proofs.Telling.{step_tells, finish_tells}
use Rattle.stream.proofs.Making.{made_calls, reached_given, reached_exactly}

pub open_live : (r : Reader) → r.status ≡ U.Open → status_of r.status ≡ live
unfolding status_of
open_live r e = rw e

-- an answer that is the call's is 9 exactly when the call's is, on a state that no calls of the methods leave
nine_carried : (r : Reader) {k j : ℕ} → k ≡ j → (j ≡ 9) ↔ (Reachable (stream_of r) → ⊥) → (k ≡ 9) ↔ (Reached r → ⊥)
nine_carried r e n = (λ q x. n.0 (sym e ∙ q) ((reached_exactly r).1 x), λ f. e ∙ n.1 (λ x. f ((reached_exactly r).0 x)))

pub step_carried : (r : Reader) (piece out : List ℕ) → StepCarried r piece out
step_carried r piece out =
    record {
      tells = step_tells r piece out;
      nine = nine_carried r (step_tells r piece out).answer ((nine_exactly (stream_of r)).step piece (length out));
      moment = λ m b. after_any_calls (made_calls (steps m piece b out));
      exactly = λ m e b. refuses_exactly (made_calls m) (open_live r e) piece b (length out);
      goes_on_law = λ x e. step_goes_on (stream_of r) (reached_given r x) (open_live r e) piece (length out);
      again = λ x b. step_again (stream_of r) (reached_given r x) piece b (length out);
    }

pub finish_carried : (r : Reader) → FinishCarried r
finish_carried r =
    record {
      tells = finish_tells r;
      nine = nine_carried r (finish_tells r).answer (nine_exactly (stream_of r)).finish;
      moment = λ m. after_any_calls (made_calls (finishes m));
      again = λ x. finish_again (stream_of r) (reached_given r x);
    }
