-- A run over a piece, after a text that was read: the text goes on by the bytes taken, and a refusal is the verdict of every text that begins so; a run
-- over a whole text with room for its good bytes is its verdict. Assumes nothing.
use Prim.Native.Nat.{ℕ, suc, ◌+◌, ◌<◌, ◌≤◌}
use mathlib.Core.Path.{◌≡◌, refl, sym, ap, ◌∙◌}
use mathlib.Core.Logic.{◌↔◌}
use mathlib.Core.Bool.{Bool, true, false, cond}
use mathlib.Core.List.{List, [], ◌∷◌, ◌++◌, append_assoc, append-nil}
use native.Mathlib.Omega.{arith}
use lib.Dec.{eqb, leb}
use lib.ListN.{length, take, drop, get_or, length-append, take-append-drop}
use lib.Seq.{take-length, take_all, take-suc, take-take, split_at}
use borrow.Author.Tests.{eqb-true, eqb-false, leb-true}
use Rattle.reading.specs.Limit.{limit}
use Rattle.reading.specs.Continuation.{Begins}
use Rattle.reading.specs.Reader.{State, Reading, going, stopped, fresh, follow, feed, feed_all, read_all, at_limit, judged, Verdict}
use Rattle.reading.specs.Piece.{Why, all, refused, full, Ran, run_piece, answer_of, verdict_of}
use Rattle.reading.proofs.Seen.{feed_append}
use Rattle.reading.proofs.Positions.{given}
use Rattle.reading.proofs.Shared.{reading_adds, good_given}
use Rattle.reading.proofs.Fronts.{read}
use Rattle.reading.proofs.PieceLaws.{NeedsRoom, all_full, full_refused}
use Rattle.reading.proofs.PieceLimit.{PieceFeeds, piece_feeds}
use Rattle.reading.proofs.Joined.{taken_all, reads_on, judged_end, judged_refused, judged_past}

-- what a run r over the piece means, after the text t that gave the bytes out
pub record RunMeans (a opts : ℕ) (t piece out : List ℕ) (r : Ran) : Type 0 where
  pub reads : read a opts (t ++ take r.took piece) ≡ going r.state (out ++ r.wrote)
  pub all_reads : r.why ≡ all → read a opts (t ++ piece) ≡ going r.state (out ++ r.wrote)
  pub refused_judged : (k : ℕ) → r.why ≡ refused k → (rest : List ℕ)
      → judged a opts (t ++ (piece ++ rest)) ≡ record { answer = k; position = r.state.taken; good = out ++ r.wrote }

parted : (t piece rest : List ℕ) (n : ℕ) → n < length piece → t ++ (piece ++ rest) ≡ t ++ take n piece ++ get_or piece n 0 ∷ (drop (suc n) piece ++ rest)
parted t piece rest n l = ap (λ (p : List ℕ). t ++ (p ++ rest)) (split_at piece n 0 l) ∙ simp append_assoc

module _ (a opts : ℕ) where
  pub piece_means : (t : List ℕ) (s : State) (out : List ℕ) → read a opts t ≡ going s out → length t ≤ limit → (piece : List ℕ) (room : ℕ)
      → RunMeans a opts t piece out (run_piece a opts piece s room)
  piece_means t s out e l piece room =
      record {
        reads = reads;
        all_reads = λ w. ap (λ (u : List ℕ). read a opts (t ++ u)) (sym (take-length piece) ∙ ap (λ (n : ℕ). take n piece) (sym (x.all_took w))) ∙ reads;
        refused_judged = λ k w rest. ap (judged a opts) (parted t piece rest r.took (x.refused_inside k w)) ∙ refusal k w rest (eqb k 2) refl;
      }
    where
      r : Ran
      r = run_piece a opts piece s room

      x : PieceFeeds a opts piece s room out r
      x = piece_feeds a opts piece s room out (omega (arith, taken_all a opts t s out e))

      reads : read a opts (t ++ take r.took piece) ≡ going r.state (out ++ r.wrote)
      reads = reads_on a opts t (take r.took piece) s r.state out (out ++ r.wrote) e x.so_far

      refusal : (k : ℕ) → r.why ≡ refused k → (rest : List ℕ) → (y : Bool) → eqb k 2 ≡ y
          → judged a opts (t ++ take r.took piece ++ get_or piece r.took 0 ∷ (drop (suc r.took) piece ++ rest))
          ≡ record { answer = k; position = r.state.taken; good = out ++ r.wrote }
      refusal k w rest true f =
          let two : k ≡ 2 = eqb-true k 2 f in
          let at : r.state.taken ≡ limit = x.two_at (w ∙ ap refused two) in
          judged_past a opts (t ++ take r.took piece) _ _ r.state (out ++ r.wrote) reads (sym (taken_all a opts _ _ _ reads) ∙ at)
          ∙ verdict (sym two) (sym at)
        where
          verdict : {j k p q : ℕ} {good : List ℕ} → j ≡ k → p ≡ q → ◌≡◌ {A = Verdict} (record { answer = j; position = p; good = good }) (record { answer = k; position = q; good = good })
          verdict {good = good} e f i = record { answer = e i; position = f i; good = good }
      refusal k w rest false f =
          judged_refused a opts (t ++ take r.took piece) _ _ r.state (out ++ r.wrote) k reads (x.refused_step k w (eqb-false k 2 f))
          (omega (arith, taken_all a opts _ _ _ reads, x.refused_before k w (eqb-false k 2 f)))

-- ---- a whole text

at_limit_given : (r : Reading) → (at_limit r).good ≡ given r
unfolding at_limit
at_limit_given (going s out) = refl
at_limit_given (stopped k i out) = refl

-- the good bytes are those given up to the limit
good_is : (a opts : ℕ) (t : List ℕ) → (judged a opts t).good ≡ given (read a opts (take limit t))
unfolding judged read_all
good_is a opts t = go (leb (length t) limit) refl
  where
    go : (x : Bool) → leb (length t) limit ≡ x → (cond x (read_all a opts t) (at_limit (read a opts (take limit t)))).good ≡ given (read a opts (take limit t))
    go true e = good_given a opts (read a opts t) ∙ ap (λ (u : List ℕ). given (read a opts u)) (sym (take_all limit t (leb-true (length t) limit e)))
    go false e = at_limit_given (read a opts (take limit t))

-- a front gives a front of the bytes
front_begins : (a opts : ℕ) (t : List ℕ) (n : ℕ) → Begins (given (read a opts (take n t))) (given (read a opts t))
front_begins a opts t n =
    let b : Begins (given (read a opts (take n t))) (given (feed_all a opts (read a opts (take n t)) (drop n t))) = reading_adds a opts (read a opts (take n t)) (drop n t) in
    record {
      rest = b.rest;
      whole_is = ap given (ap (read a opts) (sym (take-append-drop n t)) ∙ feed_append a opts (going fresh []) (take n t) (drop n t)) ∙ b.whole_is;
    }

module _ (a opts : ℕ) (t : List ℕ) (room : ℕ) where
  abbrev ran : Ran
  ran = run_piece a opts t fresh room

  x : PieceFeeds a opts t fresh room [] ran
  x = piece_feeds a opts t fresh room [] (omega arith)

  m : RunMeans a opts [] t [] ran
  unfolding feed_all
  m = piece_means a opts [] fresh [] refl (omega arith) t room

  -- room never lacks: the run is the verdict
  pub run_judges : (ran.why ≡ full → ⊥) → judged a opts t ≡ verdict_of a opts ran
  unfolding verdict_of answer_of
  run_judges n = go ran.why refl
    where
      go : (w : Why) → ran.why ≡ w → judged a opts t ≡ record { answer = answer_of a opts ran.state ran.why; position = ran.state.taken; good = ran.wrote }
      go all e = rw e (judged_end a opts t ran.state ran.wrote (m.all_reads e) (omega (arith, x.in_limit, taken_all a opts t _ _ (m.all_reads e))))
      go (refused k) e = rw e (ap (judged a opts) (sym (append-nil t)) ∙ m.refused_judged k e [])
      go full e = absurd (n e)

  -- room lacks exactly where the good bytes exceed it
  lacks : ran.why ≡ full → room < length (judged a opts t).good
  unfolding feed_all feed follow
  lacks e =
      let y : NeedsRoom a opts ran.state (get_or t ran.took 0) = x.full_step e in
      let n : ℕ = ran.took in
      let more : take (suc n) t ≡ take n t ++ get_or t n 0 ∷ [] = take-suc t n 0 (x.full_inside e) in
      let next : read a opts (take (suc n) t) ≡ going y.next (ran.wrote ++ y.byte ∷ []) =
      ap (read a opts) more ∙ reads_on a opts (take n t) (get_or t n 0 ∷ []) ran.state y.next ran.wrote (ran.wrote ++ y.byte ∷ []) m.reads (rw y.step_gives) in
      let fits : suc n ≤ limit = omega (arith, x.taken, x.full_before e) in
      let seen : given (read a opts (take (suc n) (take limit t))) ≡ ran.wrote ++ y.byte ∷ [] = ap (λ (u : List ℕ). given (read a opts u)) (take-take (suc n) limit t fits) ∙ ap given next in
      let on : Begins (given (read a opts (take (suc n) (take limit t)))) (given (read a opts (take limit t))) = front_begins a opts (take limit t) (suc n) in
      let size : length (given (read a opts (take limit t))) ≡ length ran.wrote + 1 + length on.rest =
      ap length on.whole_is ∙ ap (λ (w : List ℕ). length (w ++ on.rest)) seen ∙ simp length-append in
      omega (arith, x.full_room e, size, ap length (good_is a opts t))

  pub room_lacks : (ran.why ≡ full) ↔ (room < length (judged a opts t).good)
  unfolding verdict_of
  room_lacks = (lacks, λ l. go l ran.why refl)
    where
      wrote : (ran.why ≡ full → ⊥) → length (judged a opts t).good ≤ room
      wrote n = rw (run_judges n) x.wrote_in

      go : room < length (judged a opts t).good → (w : Why) → ran.why ≡ w → ran.why ≡ full
      go l all e = absurd (omega (arith, wrote (λ f. all_full (sym e ∙ f))))
      go l (refused k) e = absurd (omega (arith, wrote (λ f. full_refused (sym f ∙ e))))
      go l full e = e
