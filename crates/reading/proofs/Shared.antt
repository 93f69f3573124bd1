-- The good bytes are the longest start that all accepted continuations share: reading on only adds bytes, an accepted text has one byte string, and
-- two continuations part in the next bit. Assumes nothing.
use Prim.Native.Nat.{ℕ, suc, ◌+◌, ◌-◌, ◌*◌, ◌/◌, ◌%◌, ◌<◌, ◌≤◌}
use mathlib.Core.Path.{◌≡◌, refl, sym, ap, ◌∙◌}
use mathlib.Core.Bool.{Bool, true, false}
use mathlib.Core.List.{List, [], ◌∷◌, ◌++◌, append_assoc, append-nil}
use native.Mathlib.Nat.{mod-lt, suc-mul, mul-mod_left, div-add-mod'}
use native.Mathlib.Omega.{arith}
use lib.Dec.{ltb}
use lib.ListN.{length, length-append, length-replicate, take, drop, replicate, take-append-drop}
use lib.Seq.{take_at, take-append-le}
use borrow.Author.Tests.{ltb-true, ltb-false}
use Rattle.alphabet.specs.Digits.{bytes_of}
use Rattle.alphabet.specs.Alphabet.{bits, group}
use Rattle.alphabet.proofs.AlphabetLaws.{bits_low, group_pos}
use Rattle.alphabet.proofs.Edges.{edge, edge_first}
use Rattle.alphabet.proofs.Parting.{shared_short}
use Rattle.alphabet.proofs.WrittenLaws.{last_group}
use Rattle.alphabet.proofs.Shapes.{written_once}
use Rattle.reading.specs.Continuation.{Continuation, Begins, Shared, LongestShared}
use Rattle.reading.specs.Reader.{Step, takes, gives, refuses, Reading, going, stopped, fresh, step, follow, feed, feed_all, finish, read_all}
use Rattle.reading.proofs.Seen.{Seen, feed_append}
use Rattle.reading.proofs.ZeroIsAccepted.{accepts→written, good_below}
use Rattle.reading.proofs.AcceptedIsZero.{accepted→accepts}
use Rattle.reading.proofs.Positions.{given}
use Rattle.reading.proofs.Continuations.{pads_on, digits_on}

-- ---- reading on only adds bytes

begins_all : (xs : List ℕ) → Begins xs xs
begins_all xs = record { rest = []; whole_is = sym (append-nil xs) }

begins_more : (xs ys : List ℕ) → Begins xs (xs ++ ys)
begins_more xs ys = record { rest = ys; whole_is = refl }

begins_trans : {xs ys zs : List ℕ} → Begins xs ys → Begins ys zs → Begins xs zs
begins_trans {xs} p q = record { rest = p.rest ++ q.rest; whole_is = q.whole_is ∙ rw (p.whole_is, append_assoc) }

feed_adds : (a opts : ℕ) (r : Reading) (c : ℕ) → Begins (given r) (given (feed a opts r c))
unfolding feed follow
feed_adds a opts (stopped k i out) c = begins_all out
feed_adds a opts (going s out) c = go (step a opts s c)
  where
    go : (x : Step) → Begins out (given (follow s out x))
    go (takes n) = begins_all out
    go (gives x n) = begins_more out (x ∷ [])
    go (refuses k) = begins_all out

pub reading_adds : (a opts : ℕ) (r : Reading) (t : List ℕ) → Begins (given r) (given (feed_all a opts r t))
unfolding feed_all
reading_adds a opts r [] = begins_all (given r)
reading_adds a opts r (c ∷ t) = begins_trans (feed_adds a opts r c) (reading_adds a opts (feed a opts r c) t)

pub good_given : (a opts : ℕ) (r : Reading) → (finish a opts r).good ≡ given r
unfolding finish
good_given a opts (going s out) = refl
good_given a opts (stopped k i out) = refl

-- the shorter of two starts of one list begins the longer
front_of : (x y p q : List ℕ) → x ++ p ≡ y ++ q → length x ≤ length y → Begins x y
front_of x y p q e l =
    record {
      rest = drop (length x) y;
      whole_is =
          sym (take-append-drop (length x) y)
          ∙ ap (λ (z : List ℕ). z ++ drop (length x) y)
          (sym (take-append-le (length x) y q l) ∙ ap (take (length x)) (sym e) ∙ take_at x p (length x) refl);
    }

-- so many digits fill the last group, and at least one
filling : (g n : ℕ) → 0 < g → (n + (g - n % g)) % g ≡ 0
filling g n h =
    let k : n + (g - n % g) ≡ suc (n / g) * g = omega (arith, div-add-mod' n g, mod-lt n h, suc-mul (n / g) g) in
    rw k (mul-mod_left (suc (n / g)) g)

module _ (a : ℕ) (h : a < 6) (opts : ℕ) where
  -- the bytes of every accepted continuation begin with those that the reader gave
  pub given_shared : (t : List ℕ) → Shared a opts t (given (feed_all a opts (going fresh []) t))
  unfolding read_all
  given_shared t whole c =
      let w : List ℕ = t ++ c.more in
      let zero : (read_all a opts w).answer ≡ 0 = accepted→accepts a h opts w (record { source = whole; bytes = c.source; form = c.form }) in
      let once : whole ≡ (read_all a opts w).good =
      written_once a h whole (read_all a opts w).good c.source (good_below a h opts w zero) (c.form ∙ sym (accepts→written a h opts w zero)) in
      let on : Begins (given (feed_all a opts (going fresh []) t)) (given (feed_all a opts (feed_all a opts (going fresh []) t) c.more)) =
      reading_adds a opts (feed_all a opts (going fresh []) t) c.more in
      record {
        rest = on.rest;
        whole_is =
            once ∙ good_given a opts (feed_all a opts (going fresh []) w) ∙ ap given (feed_append a opts (going fresh []) t c.more) ∙ on.whole_is;
      }

  module _ (t : List ℕ) (s : Seen a opts t (feed_all a opts (going fresh []) t)) where
    good : List ℕ
    good = bytes_of (bits a) s.values

    good_shared : Shared a opts t good
    unfolding good
    good_shared = rw s.here at (given_shared t)

    -- a start that both continuations share is no longer
    good_longest : s.pads ≡ 0 → (other : List ℕ) → Shared a opts t other → Begins other good
    unfolding good
    good_longest p0 other all =
        let ds : List ℕ = s.values in
        let n : ℕ = length ds in
        let k : ℕ = group a - n % group a - 1 in
        let sk : suc k ≡ group a - n % group a = omega (arith, mod-lt n (group_pos a h)) in
        let fills : (n + suc k) % group a ≡ 0 = rw sk (filling (group a) n (group_pos a h)) in
        let on : (x : Bool) → Continuation a opts t (bytes_of (bits a) (ds ++ replicate (suc k) (edge a x))) = λ x. digits_on a h opts t _ s p0 x (suc k) fills in
        let full : (x : Bool) → bits a * length (ds ++ replicate (suc k) (edge a x)) % 8 ≡ 0 =
        λ x. rw (length-append ds (replicate (suc k) (edge a x)), length-replicate (suc k) (edge a x), last_group a h (n + suc k), fills) (omega arith) in
        let zeros : Begins other (bytes_of (bits a) (ds ++ replicate (suc k) (edge a false))) = all _ (on false) in
        let ones : Begins other (bytes_of (bits a) (ds ++ replicate (suc k) (edge a true))) = all _ (on true) in
        let short : length other ≤ length good =
        shared_short (bits a) (omega (arith, bits_low a h)) ds (edge a false) (edge a true) (replicate k (edge a false)) (replicate k (edge a true)) (full false) (full true)
        (edge_first a h false) (edge_first a h true) other zeros.rest ones.rest zeros.whole_is ones.whole_is in
        let mine : Begins good (bytes_of (bits a) (ds ++ replicate (suc k) (edge a false))) = good_shared _ (on false) in
        front_of other good zeros.rest mine.rest (sym zeros.whole_is ∙ mine.whole_is) short

    pub longest_shared : LongestShared a opts t (bytes_of (bits a) s.values)
    unfolding good
    longest_shared = record { shared = good_shared; longest = λ other all. go (ltb 0 s.pads) refl other all }
      where
        go : (x : Bool) → ltb 0 s.pads ≡ x → (other : List ℕ) → Shared a opts t other → Begins other good
        go true e other all = all good (pads_on a h opts t _ s (ltb-true 0 s.pads e))
        go false e other all = good_longest (omega (arith, ltb-false 0 s.pads e)) other all
