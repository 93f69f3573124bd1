-- A run over a text that is made in parts, with room for as many bytes as the text has, which never lacks: what a part keeps of what was
-- reached before it, and what is reached in the end. For the loop that counts and the loop in place. Assumes nothing.
use Prim.Native.Nat.{ℕ, ◌+◌, ◌-◌, ◌<◌, ◌≤◌, min, zero-le}
use mathlib.Core.Path.{◌≡◌, refl, sym, ap, ◌∙◌, subst}
use mathlib.Core.Logic.{◌⊎◌, inl, inr}
use mathlib.Core.Bool.{true, false}
use mathlib.Core.List.{List, [], ◌++◌}
use native.Mathlib.Omega.{arith}
use lib.ListN.{length, take, drop, length-append, length-drop, take-append-drop}
use lib.Seq.{length-take-le, drop-drop, drop-append-add, take-append_seam, take_at, drop-append_seam}
use Rattle.reading.specs.Buffer.{filled}
use Rattle.reading.specs.Piece as P
use Rattle.reading.specs.Piece.{after, run}
use Rattle.reading.proofs.RunSteps.{after_after}
use Rattle.reading.proofs.RunRoom.{run_room}
use Rattle.reading.proofs.RunSound.{run_sound}
use Rattle.reading.proofs.PieceCuts.{run_cut, run_stops}
use Rattle.reading.proofs.PieceLaws.{RunFeeds, run_feeds}
use Rattle.rule.specs.declared.Core.{Core}
use Rattle.engine.specs.declared.piece.Why.TheVariants as W
use Rattle.engine.specs.declared.piece.Ran.{Ran}
use Rattle.rule.specs.Meaning.{state_of, core_of}
use Rattle.engine.specs.Ran.{why_as, goes_on, then_as, ran_as, Ready}
use Rattle.engine.specs.Loop.{Loop, Part}
use Rattle.engine.proofs.Loops.{loop_begins, loop_all, rest_all, stored_lent}
use Rattle.engine.proofs.Reaching.{all_or_not, goes_on_law, goes_no_more, full_not_all, refused_not_all, then_after, all_is}

-- i bytes are taken, the n bytes `wrote` are given, and n is never past i
pub record Counting (a opts : ℕ) (text : List ℕ) (start k : Core) (i n : ℕ) (wrote : List ℕ) : Type 0 where
  pub loop : Loop a opts text start (length text) k i n wrote
  pub behind : n ≤ i

-- the run came so far and goes on, with the bytes `wrote`, or it stopped as the run over the whole text does
pub record Counted (a opts : ℕ) (text : List ℕ) (start : Core) (s : Ran) : Type 0 where
  pub wrote : List ℕ
  pub goes : s.why ≡ W.All → Counting a opts text start s.core s.took s.wrote wrote
  pub is : (s.why ≡ W.All → ⊥) → s ≡ ran_as (run a opts text (state_of start) (length text))
  pub bytes : (s.why ≡ W.All → ⊥) → (run a opts text (state_of start) (length text)).wrote ≡ wrote

abbrev fresh_count : {a opts : ℕ} {text : List ℕ} {start : Core} → Ready a start (length text)
    → Counted a opts text start (record { core = start; why = W.All; took = 0; wrote = 0 })
fresh_count {a} {opts} {text} {start} r = record {
  wrote = [];
  goes = λ x. record { loop = loop_begins a opts text start (length text) r; behind = zero-le };
  is = λ x. absurd (x refl);
  bytes = λ x. absurd (x refl);
}

module _ {a opts : ℕ} {text : List ℕ} {start : Core} {s : Ran} where
  pub counted_begins : s ≡ record { core = start; why = W.All; took = 0; wrote = 0 } → Ready a start (length text)
      → Counted a opts text start s
  counted_begins e r =
      subst (Counted a opts text start) (sym e) (fresh_count r)

  module _ (h : a < 6) (f : Counted a opts text start s) where
    pub counted_sums : (s.took ≤ length text) × (s.wrote ≤ length text)
    counted_sums = go (all_or_not s.why)
      where
        go : (s.why ≡ W.All) ⊎ (s.why ≡ W.All → ⊥) → (s.took ≤ length text) × (s.wrote ≤ length text)
        go (inl e) = ((f.goes e).loop.within, (f.goes e).loop.fits)
        go (inr n) =
            let r = run_feeds a opts text (state_of start) (length text) [] in
            subst (λ (z : Ran). (z.took ≤ length text) × (z.wrote ≤ length text)) (sym (f.is n)) (r.took_in, r.wrote_in)

    pub counted_done : goes_on s.why s.took (length text) ≡ false
        → (s ≡ ran_as (run a opts text (state_of start) (length text))) × ((run a opts text (state_of start) (length text)).wrote ≡ f.wrote)
    counted_done e = go (all_or_not s.why)
      where
        go : (s.why ≡ W.All) ⊎ (s.why ≡ W.All → ⊥)
            → (s ≡ ran_as (run a opts text (state_of start) (length text))) ×
            ((run a opts text (state_of start) (length text)).wrote ≡ f.wrote)
        go (inl w) =
            let d = loop_all h (f.goes w).loop (goes_no_more s.why s.took (length text) e w) in
            (all_is s w ∙ d.is, d.bytes)
        go (inr n) = (f.is n, f.bytes n)

-- all of the text up to `rest` was taken, and the run goes on
pub record Tallied (a opts : ℕ) (text : List ℕ) (start : Core) (rest : List ℕ) (s : Ran) : Type 0 where
  pub count : Counted a opts text start s
  pub all : s.why ≡ W.All
  pub ahead : drop s.took text ≡ rest

-- the run in place: the text is the buffer as it came
pub record Settled (a opts : ℕ) (buf₀ : List ℕ) (start : Core) (buf : List ℕ) (s : Ran) : Type 0 where
  pub count : Counted a opts buf₀ start s
  pub front : buf ≡ count.wrote ++ drop s.wrote buf₀

pub settled_begins : {a opts : ℕ} {buf : List ℕ} {start : Core} {s : Ran} → s ≡ record { core = start; why = W.All; took = 0; wrote = 0 }
    → Ready a start (length buf) → Settled a opts buf start buf s
settled_begins {a} {opts} {buf} {start} e r = subst (Settled a opts buf start buf) (sym e) (record { count = fresh_count r; front = refl })

-- ---- a part

module _ {a opts : ℕ} {text : List ℕ} {start k : Core} {i n e : ℕ} {wrote : List ℕ} (f : Counting a opts text start k i n wrote)
    (p : Part i e (length text)) where
  pub part_size : length (take (e - i) (drop i text)) ≡ e - i
  part_size = length-take-le (e - i) (drop i text) (omega (arith, length-drop i text, p.begins, p.within))

  -- it can be read
  pub part_ready : Ready a start (length text) → Ready a k (length (take (e - i) (drop i text)))
  part_ready r = record { sound = f.loop.sound; within = rw part_size (omega (arith, f.loop.place, r.within, p.begins, p.within)) }

goes_is : (w : P.Why) → why_as w ≡ W.All → w ≡ P.all
unfolding why_as
goes_is P.all e = refl
goes_is (P.refused k) e = absurd (refused_not_all e)
goes_is P.full e = absurd (full_not_all e)

stops_not : (w : P.Why) → (why_as w ≡ W.All → ⊥) → w ≡ P.all → ⊥
unfolding why_as
stops_not w n q = n (ap why_as q)

module _ {a opts : ℕ} {text : List ℕ} {start : Core} {e room : ℕ} {wrote part : List ℕ} (s : Ran) (h : a < 6)
    (f : Counting a opts text start s.core s.took s.wrote wrote) (p : Part s.took e (length text))
    (same : part ≡ take (e - s.took) (drop s.took text)) (fits : length part ≤ room) where
  size : length part ≡ e - s.took
  size = ap length same ∙ part_size f p

  -- the text from the part on
  cut : drop s.took text ≡ part ++ drop e text
  cut =
      let j : s.took + (e - s.took) ≡ e = omega (arith, p.begins) in
      sym (take-append-drop (e - s.took) (drop s.took text)) ∙ rw (← same, drop-drop (e - s.took) s.took text, j)

  -- the part's run, into the room that is left
  abbrev q : P.Ran
  q = run a opts part (state_of s.core) (length text - s.wrote)

  enough : length part ≤ length text - s.wrote
  enough = omega (arith, size, f.behind, p.begins, p.within)

  part_run : run a opts part (state_of s.core) room ≡ q
  part_run = run_room a opts part (state_of s.core) room (length text - s.wrote) fits enough

  did : RunFeeds a opts part (state_of s.core) (length text - s.wrote) [] q
  did = run_feeds a opts part (state_of s.core) (length text - s.wrote) []

  -- a byte given needs a byte of text
  fewer : length q.wrote ≤ length part
  fewer =
      rw (run_room a opts part (state_of s.core) (length text - s.wrote) (length part) enough (omega arith))
      (run_feeds a opts part (state_of s.core) (length part) []).wrote_in

  part_goes : q.why ≡ P.all → Counting a opts text start (core_of q.state) (s.took + q.took) (s.wrote + length q.wrote)
      (wrote ++ q.wrote)
  part_goes w =
      let took : s.took + q.took ≡ e = omega (arith, did.all_took w, size, p.begins) in
      let left : length text - s.wrote - length q.wrote ≡ length text - (s.wrote + length q.wrote) = omega arith in
      record {
        loop = record {
          within = omega (arith, took, p.within);
          size = rw (length-append, f.loop.size);
          fits = omega (arith, fewer, size, f.behind, p.begins, p.within);
          same =
              f.loop.same
              ∙ ap (λ (x : List ℕ). after s.took wrote (run a opts x (state_of s.core) (length text - s.wrote))) cut
              ∙ ap (after s.took wrote) (run_cut a opts part (drop e text) (state_of s.core) (length text - s.wrote) w)
              ∙ after_after s.took q.took wrote q.wrote _
              ∙ rw (left, took);
          sound = run_sound a opts h part (state_of s.core) (length text - s.wrote) f.loop.sound;
          place = omega (arith, did.taken, f.loop.place);
        };
        behind = omega (arith, fewer, f.behind, did.all_took w);
      }

  part_stops : (q.why ≡ P.all → ⊥) → run a opts text (state_of start) (length text) ≡ after s.took wrote q
  part_stops w =
      f.loop.same
      ∙ ap (λ (x : List ℕ). after s.took wrote (run a opts x (state_of s.core) (length text - s.wrote))) cut
      ∙ ap (after s.took wrote) (run_stops a opts part (drop e text) (state_of s.core) (length text - s.wrote) w)

  -- what was reached with the part
  abbrev reached : Counted a opts text start (then_as s (ran_as q))
  reached =
      record {
        wrote = wrote ++ q.wrote;
        goes = λ x. part_goes (goes_is q.why x);
        is = λ x. then_after s wrote q f.loop.size ∙ ap ran_as (sym (part_stops (stops_not q.why x)));
        bytes = λ x. ap (λ (z : P.Ran). z.wrote) (part_stops (stops_not q.why x));
      }

  module _ {r : Ran} (is : r ≡ ran_as (run a opts part (state_of s.core) room)) where
    so : r ≡ ran_as q
    so = is ∙ ap ran_as part_run

    pub counted_then : Counted a opts text start (then_as s r)
    counted_then = subst (λ (z : Ran). Counted a opts text start (then_as s z)) (sym so) reached

    -- some byte was taken, where it goes on
    pub counted_some : r.why ≡ W.All → 0 < r.took
    counted_some =
        subst (λ (z : Ran). z.why ≡ W.All → 0 < z.took) (sym so) (λ x. omega (arith, did.all_took (goes_is q.why x), size, p.begins))

    -- all of the part was taken, where it goes on
    pub counted_all : r.why ≡ W.All → r.took ≡ length part
    counted_all = subst (λ (z : Ran). z.why ≡ W.All → z.took ≡ length part) (sym so) (λ x. did.all_took (goes_is q.why x))

    -- in place: what the part gives follows what was given before, and every later byte is as it came
    pub settled_then : {buf out : List ℕ} → buf ≡ wrote ++ drop s.wrote text
        → out ≡ filled (run a opts part (state_of s.core) room).wrote (take (length buf - s.wrote) (drop s.wrote buf))
        → Settled a opts text start (take s.wrote buf ++ (out ++ drop (length buf - s.wrote) (drop s.wrote buf))) (then_as s r)
    settled_then {buf} {out} front fill =
        let lent : out ≡ filled q.wrote (take (length buf - s.wrote) (drop s.wrote buf)) =
        fill ∙ ap (λ (z : P.Ran). filled z.wrote (take (length buf - s.wrote) (drop s.wrote buf))) part_run in
        subst (λ (z : Ran). Settled a opts text start (take s.wrote buf ++ (out ++ drop (length buf - s.wrote) (drop s.wrote buf)))
        (then_as s z)) (sym so)
        (record { count = reached; front = stored_lent wrote q.wrote text f.loop.size front lent })

-- ---- a text that is cut into parts: a part stands first in what lies ahead, and `more` is left after it

module _ {a opts : ℕ} {text : List ℕ} {start : Core} {ahead : List ℕ} {s : Ran} (part more : List ℕ) (f : Tallied a opts text start ahead s)
    {size : ℕ} (fixed : size ≡ 256) (cut : (ahead ≡ part ++ more) × (length part ≡ min size (length ahead)) × (0 < length ahead)) where
  g : Counting a opts text start s.core s.took s.wrote f.count.wrote
  g = f.count.goes f.all

  from : drop s.took text ≡ part ++ more
  from = f.ahead ∙ cut.0

  chunk : Part s.took (s.took + length part) (length text)
  chunk = record {
    begins = omega arith;
    within = omega (arith, g.loop.within, ap length from, length-drop s.took text, length-append part more);
    small = omega arith;
  }

  is : part ≡ take (s.took + length part - s.took) (drop s.took text)
  is = sym (take-append_seam part more) ∙ ap (take (length part)) (sym from) ∙ ap (λ (n : ℕ). take n (drop s.took text)) (omega arith)

  few : length part ≤ 256
  few = omega arith

  pub tallied_ready : Ready a start (length text) → Ready a s.core (length part)
  tallied_ready r = subst (λ (l : List ℕ). Ready a s.core (length l)) (sym is) (part_ready g chunk r)

  module _ {r : Ran} (h : a < 6) (told : r ≡ ran_as (run a opts part (state_of s.core) 256)) where
    pub tallied_then : Counted a opts text start (then_as s r)
    tallied_then = counted_then s h g chunk is few told

    -- where it goes on, all of the part was taken
    pub tallied_more : {q : Ran} → q ≡ then_as s r → goes_on q.why q.took (length text) ≡ true → Tallied a opts text start more q
    tallied_more {q} e on =
        let w : r.why ≡ W.All = ap (λ (z : Ran). z.why) (sym e) ∙ (goes_on_law q.why q.took (length text) on).0 in
        subst (Tallied a opts text start more) (sym e) (record {
          count = tallied_then;
          all = w;
          ahead = ap (λ (n : ℕ). drop (s.took + n) text) (counted_all s h g chunk is few told w)
              ∙ sym (drop-drop (length part) s.took text)
              ∙ ap (drop (length part)) from
              ∙ drop-append_seam part more;
        })

pub tallied_begins : {a opts : ℕ} {text : List ℕ} {start : Core} {s : Ran} → s ≡ record { core = start; why = W.All; took = 0; wrote = 0 }
    → Ready a start (length text) → Tallied a opts text start text s
tallied_begins {a} {opts} {text} {start} e r =
    subst (Tallied a opts text start text) (sym e) (record { count = fresh_count r; all = refl; ahead = refl })

-- nothing is left
pub tallied_done : {a opts : ℕ} {text : List ℕ} {start : Core} {ahead : List ℕ} {s : Ran} → a < 6 → Tallied a opts text start ahead s
    → length ahead ≡ 0 → s ≡ ran_as (run a opts text (state_of start) (length text))
tallied_done {text = text} {s = s} h f e =
    all_is s f.all ∙ (loop_all h (f.count.goes f.all).loop (omega (arith, length-drop s.took text, ap length f.ahead))).is

-- ---- what the loop in place reads

module _ {a opts : ℕ} {buf₀ : List ℕ} {start : Core} {buf : List ℕ} {s : Ran} (h : a < 6) (f : Settled a opts buf₀ start buf s) where
  pub settled_done : goes_on s.why s.took (length buf₀) ≡ false
      → (s ≡ ran_as (run a opts buf₀ (state_of start) (length buf₀))) ×
      (buf ≡ filled (run a opts buf₀ (state_of start) (length buf₀)).wrote buf₀)
  settled_done e =
      let d = counted_done h f.count e in
      let told : s.wrote ≡ length (run a opts buf₀ (state_of start) (length buf₀)).wrote = ap (λ (z : Ran). z.wrote) d.0 in
      (d.0, rw (← told, d.1) f.front)

  pub settled_size : length buf ≡ length buf₀
  settled_size = go (all_or_not s.why)
    where
      sum : length f.count.wrote ≡ s.wrote → length buf ≡ length buf₀
      sum e = ap length f.front ∙ simp (length-append, length-drop) (omega (arith, e, (counted_sums h f.count).1))

      go : (s.why ≡ W.All) ⊎ (s.why ≡ W.All → ⊥) → length buf ≡ length buf₀
      go (inl e) = sum (f.count.goes e).loop.size
      go (inr n) = sum (sym (ap length (f.count.bytes n)) ∙ sym (ap (λ (z : Ran). z.wrote) (f.count.is n)))

  module _ {e : ℕ} (w : s.why ≡ W.All) (p : Part s.took e (length buf)) where
    c : Counting a opts buf₀ start s.core s.took s.wrote f.count.wrote
    c = f.count.goes w

    pub settled_ends : Part s.took e (length buf₀)
    settled_ends = rw (← settled_size) p

    -- what lies ahead is as it came
    ahead : drop s.took buf ≡ drop s.took buf₀
    ahead =
        let j : s.wrote + (s.took - s.wrote) ≡ s.took = omega (arith, c.behind) in
        ap (drop s.took) f.front
        ∙ ap (λ (m : ℕ). drop m (f.count.wrote ++ drop s.wrote buf₀))
        (sym j ∙ ap (λ (m : ℕ). m + (s.took - s.wrote)) (sym c.loop.size))
        ∙ drop-append-add f.count.wrote (drop s.wrote buf₀) (s.took - s.wrote)
        ∙ drop-drop (s.took - s.wrote) s.wrote buf₀
        ∙ ap (λ (m : ℕ). drop m buf₀) j

    pub settled_reads : length (take (e - s.took) (drop s.took buf)) ≡ e - s.took
    settled_reads = rw ahead (part_size c settled_ends)

    -- and it is put aside, at the front
    module _ (aside behind : List ℕ) (copied : aside ≡ take (e - s.took) (drop s.took buf)) where
      pub settled_part : take (e - s.took) (aside ++ behind) ≡ take (e - s.took) (drop s.took buf₀)
      settled_part = take_at aside behind (e - s.took) (ap length copied ∙ settled_reads) ∙ copied ∙ ap (take (e - s.took)) ahead

      pub settled_fits : length (take (e - s.took) (aside ++ behind)) ≤ length (take (length buf - s.wrote) (drop s.wrote buf))
      settled_fits = rw (settled_part, part_size c settled_ends, rest_all buf s.wrote, length-drop s.wrote buf)
          (omega (arith, c.behind, p.begins, p.within))

      -- a run over it is one turn of the loop: the state and the buffer then, and some byte was taken where it goes on
      module _ {r : Ran} (told : r ≡ ran_as (run a opts (take (e - s.took) (aside ++ behind)) (state_of s.core)
          (length (take (length buf - s.wrote) (drop s.wrote buf))))) where
        pub settled_turn : {out : List ℕ}
            → out ≡ filled (run a opts (take (e - s.took) (aside ++ behind)) (state_of s.core)
            (length (take (length buf - s.wrote) (drop s.wrote buf)))).wrote (take (length buf - s.wrote) (drop s.wrote buf))
            → Settled a opts buf₀ start (take s.wrote buf ++ (out ++ drop (length buf - s.wrote) (drop s.wrote buf))) (then_as s r)
        settled_turn fill = settled_then s h c settled_ends settled_part settled_fits told f.front fill

        pub settled_some : r.why ≡ W.All → 0 < r.took
        settled_some = counted_some s h c settled_ends settled_part settled_fits told
