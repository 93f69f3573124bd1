-- What is read of a text is read of each of its fronts; a text one of whose fronts is refused has no accepted continuation. Assumes nothing.
use Prim.Native.Nat.{ℕ, ◌<◌}
use mathlib.Core.Path.{◌≡◌, sym, ap, ◌∙◌}
use mathlib.Core.Logic.{◌⊎◌, inl, inr}
use mathlib.Core.List.{List, [], ◌++◌, append_assoc}
use native.Mathlib.Omega.{arith}
use lib.ListN.{take, drop, take-append-drop}
use Rattle.reading.specs.Cleaning.{Accepted}
use Rattle.reading.specs.Reader.{State, Reading, going, stopped, fresh, feed_all}
use Rattle.reading.proofs.ReaderLaws.{Stop}
use Rattle.reading.proofs.Seen.{Seen, progress, start, feed_append, feed_stopped}
use Rattle.reading.proofs.Continuations.{refused_none}

going_no_stop : {s : State} {out : List ℕ} {k i : ℕ} {end : List ℕ} → going s out ≡ stopped k i end → ⊥
going_no_stop e = let z : ◌≡◌ {A = ℕ} 0 1 = cc in omega arith

-- the reader after the text
abbrev pub read : ℕ → ℕ → List ℕ → Reading
read a opts t = feed_all a opts (going fresh []) t

module _ (a : ℕ) (h : a < 6) (opts : ℕ) where
  -- a reader that goes on has seen the text
  pub seen_going : (t : List ℕ) {s : State} {out : List ℕ} → read a opts t ≡ going s out → Seen a opts t (read a opts t)
  seen_going t {s} {out} e = go (progress a h opts [] t (going fresh []) (start a opts))
    where
      go : Seen a opts t (read a opts t) ⊎ Stop (read a opts t) → Seen a opts t (read a opts t)
      go (inl s) = s
      go (inr x) = absurd (going_no_stop (sym e ∙ x.3))

  -- and every front of it
  seen_front : (t u : List ℕ) → Seen a opts (t ++ u) (read a opts (t ++ u)) → Seen a opts t (read a opts t)
  seen_front t u s = go (progress a h opts [] t (going fresh []) (start a opts))
    where
      go : Seen a opts t (read a opts t) ⊎ Stop (read a opts t) → Seen a opts t (read a opts t)
      go (inl s) = s
      go (inr x) =
          absurd (going_no_stop (sym s.here ∙ feed_append a opts (going fresh []) t u ∙ ap (λ (r : Reading). feed_all a opts r u) x.3 ∙ feed_stopped a opts x.0 x.1 x.2 u))

  pub seen_take : (t : List ℕ) (n : ℕ) → Seen a opts t (read a opts t) → Seen a opts (take n t) (read a opts (take n t))
  seen_take t n s = seen_front (take n t) (drop n t) (rw (take-append-drop n t) s)

  -- a text whose front is refused is not accepted, and has no accepted continuation
  pub front_accepted : (t : List ℕ) (n : ℕ) (u : List ℕ) → Stop (read a opts (take n t)) → Accepted a opts (t ++ u) → ⊥
  front_accepted t n u x c =
      refused_none a h opts (take n t) (drop n t ++ u) x (rw (← append_assoc, take-append-drop) c)
