-- A piece that is cut at the limit: its run is that of the part before the cut, asked for its room alone, and why it stopped is read off how far that came. Assumes nothing.
use Prim.Native.Nat.{ℕ, suc, ◌+◌, ◌-◌, ◌<◌, ◌≤◌}
use mathlib.Core.Path.{◌≡◌, refl, sym, ap, ◌∙◌}
use mathlib.Core.Bool.{Bool, true, false, cond}
use mathlib.Core.List.{List, [], ◌∷◌, ◌++◌, map}
use native.Mathlib.Nat.{add-zero}
use native.Mathlib.Omega.{arith}
use lib.Dec.{ltb}
use lib.ListN.{length, take, drop, take-append-drop, drop_of_length-le}
use lib.Seq.{length-take-le, drop-cons}
use borrow.Author.Tests.{lt-ltb, le-ltb, ltb-true, ltb-false}
use Rattle.alphabet.specs.Written.{written_length}
use Rattle.alphabet.specs.Alphabet.{bits, digit}
use Rattle.reading.specs.Limit.{limit}
use Rattle.spelling.specs.declared.Why.{Why}
use Rattle.spelling.specs.declared.Why.TheVariants as W
use Rattle.spelling.specs.Machine.{Run, stop, after, full_runs, completes, keeps, on_byte, run, where_room, spell, why_at}
use Rattle.spelling.specs.Sound.{Sound}
use Rattle.spelling.specs.Size.{longest_of}
use Rattle.spelling.proofs.LengthLaws.{longest_known, within_most, beyond_most, shorter_within}

abbrev pub because : Why → Run → Run
because w R = record { held = R.held; why = w; took = R.took; wrote = R.wrote }

-- one more of each
next_test : (k m : ℕ) → ltb (1 + k) (suc m) ≡ ltb k m
next_test k m = go (ltb k m) refl
  where
    go : (t : Bool) → ltb k m ≡ t → ltb (1 + k) (suc m) ≡ ltb k m
    go true e = lt-ltb (1 + k) (suc m) (omega (arith, ltb-true k m e)) ∙ sym e
    go false e = le-ltb (1 + k) (suc m) (omega (arith, ltb-false k m e)) ∙ sym e

module _ (a : ℕ) (known : a < 6) (w : Why) where
  byte_before : (n held c room m : ℕ) {X : Run} (Y : Run) → written_length a (n + 1) ≤ limit → X ≡ because (cond (ltb Y.took m) W.Room w) Y
      → on_byte a n held c room X ≡ because (cond (ltb (where_room a n held c room Y).took (suc m)) W.Room w) (where_room a n held c room Y)
  unfolding on_byte where_room
  byte_before n held c room m {X} Y l e = rw (le-ltb limit (written_length a (n + 1)) l) (go (ltb room (full_runs (bits a) n)))
    where
      text : List ℕ
      text = map (digit a) (completes (bits a) n held c)

      go : (t : Bool) → cond t (stop held W.Room) (after 1 text X)
          ≡ because (cond (ltb (cond t (stop held W.Room) (after 1 text Y)).took (suc m)) W.Room w) (cond t (stop held W.Room) (after 1 text Y))
      go true = rw (lt-ltb 0 (suc m) (omega arith))
      go false = rw (e, next_test Y.took m)

  -- a part within the limit, before a part of which no byte is taken
  run_before : (p q : List ℕ) (n held room : ℕ) → written_length a (n + length p) ≤ limit
      → ((left space : ℕ) → run a (n + length p) left q space ≡ stop left w)
      → run a n held (p ++ q) room ≡ because (cond (ltb (spell a n held p room).took (length p)) W.Room w) (spell a n held p room)
  unfolding run spell
  run_before [] q n held room l none = rw add-zero at (none held room)
  run_before (c ∷ cs) q n held room l none =
      let e : n + suc (length cs) ≡ n + 1 + length cs = omega arith in
      byte_before n held c room (length cs) (spell a (n + 1) (keeps (bits a) n held c) cs (room - full_runs (bits a) n)) (shorter_within a known (n + 1) (n + suc (length cs)) (omega arith) l)
      (run_before cs q (n + 1) (keeps (bits a) n held c) (room - full_runs (bits a) n) (rw e at l) (rw e at none))

-- cut at the limit, or not at all
module _ (a n held : ℕ) (s : Sound a n held) (piece : List ℕ) {end : ℕ}
    (cut : (end ≤ length piece) × (end ≤ longest_of a - n) × (end < length piece → end ≡ longest_of a - n)) where
  n_within : n ≤ longest_of a
  n_within = rw (longest_known a s.known) ((within_most a s.known n).0 s.within)

  part_length : length (take end piece) ≡ end
  part_length = length-take-le end piece cut.0

  part_within : written_length a (n + length (take end piece)) ≤ limit
  part_within = (within_most a s.known (n + length (take end piece))).1 (rw (← longest_known a s.known, part_length) (omega (arith, cut.1, n_within)))

  none_after : (left room : ℕ) → run a (n + end) left (drop end piece) room ≡ stop left (cond (ltb end (length piece)) W.Limit W.All)
  unfolding run on_byte where_room
  none_after left room = go (ltb end (length piece)) refl
    where
      go : (t : Bool) → ltb end (length piece) ≡ t → run a (n + end) left (drop end piece) room ≡ stop left (cond t W.Limit W.All)
      go true e =
          let l : end < length piece = ltb-true end (length piece) e in
          rw (drop-cons piece end 0, lt-ltb limit (written_length a (n + end + 1)) (beyond_most a s.known (n + end + 1) (rw (← longest_known a s.known) (omega (arith, cut.2 l, n_within)))))
      go false e = rw (drop_of_length-le piece (ltb-false end (length piece) e))

  pub cut_run : (room : ℕ)
      → run a n held piece room
      ≡ because (why_at (spell a n held (take end piece) room).took end (length piece)) (spell a n held (take end piece) room)
  unfolding why_at
  cut_run room =
      ap (λ (l : List ℕ). run a n held l room) (sym (take-append-drop end piece))
      ∙ run_before a s.known (cond (ltb end (length piece)) W.Limit W.All) (take end piece) (drop end piece) n held room part_within (rw part_length none_after)
      ∙ rw part_length
