-- Driving a text through the lent form, in any cutting and with any buffers, gives what the by-value form gives; so what is shown of the streams
-- holds of it. Assumes nothing.
use Prim.Native.Nat.{ℕ, ◌≤◌}
use mathlib.Core.Path.{◌≡◌, refl, sym, ap, ◌∙◌, subst}
use mathlib.Core.List.{List, [], ◌∷◌, ◌++◌, append_assoc, append-nil}
use Rattle.std.specs.Prelude.{Ok}
use lib.ListN.{length, take, drop, take-append-drop}
use lib.Seq.{take-append-le}
use Rattle.answer.specs.declared.Stepped.{Stepped}
use Rattle.alphabet.specs.Bits.{Below}
use Rattle.stream.specs.declared.reader.Reader.{Reader}
use Rattle.stream.specs.Stepped.{begun, stepped, written}
use Rattle.stream.specs.Made.{Lent, begins, offer_by, drive_by, SettledBy}
use Rattle.stream.specs.Carried.{SettlesBy}
use Rattle.stream.proofs.CarriedCutting.{any_cutting_carried}
use Rattle.stream.proofs.Determined as R
use Rattle.writing.specs.declared.Writer.{Writer}
use Rattle.writing.specs.Moment.{After}
use Rattle.writing.proofs.Determined as W
use Rattle.writing.proofs.StepShort.{step_short}
use Rattle.lent.specs.Driving.{Form, Driven, after, ByValue, none, call, ByLent, by, readers, driven_by, held_of, writers, Moment}

-- what a form's struct of the two and its contract are to say
pub record Lawful (F : Form) : Type 0 where
  pub state_back : (s : F.State) (t : F.Told) → F.state (F.both s t) ≡ s
  pub told_back : (s : F.State) (t : F.Told) → F.told (F.both s t) ≡ t
  pub both_back : (x : F.Both) → F.both (F.state x) (F.told x) ≡ x
  pub one : (s : F.State) (piece out o p : List ℕ) (x y : F.Both) → F.May s piece out x o → F.May s piece out y p → (x ≡ y) × (o ≡ p)

module _ (F : Form) (w : Lawful F) where
  pub lent_value : {ls : List Lent} {d e : Driven F.State} → ByLent F ls d e → ByValue F ls d e
  lent_value none = none
  lent_value {e = e} (call {l = l} {ls = ls} {d = d} s t o m k) =
      call (F.both s t) o m
      (subst (λ (z : F.Told). ByValue F ls (after F d (F.state (F.both s t)) z o) e) (sym (w.told_back s t))
      (subst (λ (z : F.State). ByValue F ls (after F d z t o) e) (sym (w.state_back s t)) (lent_value k)))

  pub value_lent : {ls : List Lent} {d e : Driven F.State} → ByValue F ls d e → ByLent F ls d e
  value_lent none = none
  value_lent (call {l = l} {d = d} x o m k) =
      call (F.state x) (F.told x) o (subst (λ (y : F.Both). F.May d.state (take l.size d.left) l.buffer y o) (sym (w.both_back x)) m) (value_lent k)

  pub value_one : {ls : List Lent} {d e f : Driven F.State} → ByValue F ls d e → ByValue F ls d f → e ≡ f
  value_one none none = refl
  value_one {f = f} (call {l = l} {ls = ls} {d = d} x o m k) (call y p n j) =
      let q = w.one d.state (take l.size d.left) l.buffer o p x y m n in
      value_one k
      (subst (λ (z : List ℕ). ByValue F ls (after F d (F.state x) (F.told x) z) f) (sym q.1)
      (subst (λ (z : F.Both). ByValue F ls (after F d (F.state z) (F.told z) p) f) (sym q.0) j))

  -- whatever the cutting and the buffers
  pub lent_is_value : {ls : List Lent} {d e f : Driven F.State} → ByLent F ls d e → ByValue F ls d f → e ≡ f
  lent_is_value k j = value_one (lent_value k) j

-- a stream of the code says it, where its steps allow one result
by_lawful : {S : Type 0} {may : S → List ℕ → List ℕ → Stepped S → List ℕ → Type 0}
    → ((s : S) (piece out o p : List ℕ) (x y : Stepped S) → may s piece out x o → may s piece out y p → (x ≡ y) × (o ≡ p)) → Lawful (by S may)
by_lawful f = record { state_back = λ s t. refl; told_back = λ s t. refl; both_back = λ x. refl; one = f }

-- ---- the reader

pub reader_lawful : Lawful readers
reader_lawful = by_lawful R.step_determined

-- the definition of driving is what the by-value form does
pub reader_drives : (ls : List Lent) (d : Driven Reader) → ByValue readers ls d (driven_by ls d)
unfolding drive_by offer_by
reader_drives [] d = none
reader_drives (l ∷ ls) d =
    let piece : List ℕ = take l.size d.left in
    call (stepped d.state piece l.buffer) (written d.state piece l.buffer) (refl, refl)
    (reader_drives ls (after readers d (stepped d.state piece l.buffer).state (stepped d.state piece l.buffer).told (written d.state piece l.buffer)))

pub lent_reader_is : {ls : List Lent} {d e : Driven Reader} → ByLent readers ls d e → held_of e ≡ drive_by ls (held_of d)
lent_reader_is {ls} {d} {e} k = ap held_of (lent_is_value readers reader_lawful k (reader_drives ls d))

-- driven from a start, with every byte taken or one refused, a finish gives the verdict on the whole text
pub lent_reader_settles : (a opts : ℕ) (text : List ℕ) → Below 256 text → (r : Reader) → begun a opts ≡ Ok r → (ls : List Lent) (e : Driven Reader)
    → ByLent readers ls (record { state = r; left = text; out = [] }) e → SettledBy (held_of e) → SettlesBy a opts text (held_of e)
lent_reader_settles a opts text b r s ls e k y =
    let q : drive_by ls (begins r text) ≡ held_of e = sym (lent_reader_is k) in
    subst (SettlesBy a opts text) q (any_cutting_carried a opts text b r s ls (subst SettledBy (sym q) y))

-- ---- the writer

pub writer_lawful : Lawful writers
writer_lawful = by_lawful W.step_determined

pub lent_writer_is : {ls : List Lent} {d e f : Driven Writer} → ByLent writers ls d e → ByValue writers ls d f → e ≡ f
lent_writer_is k j = lent_is_value writers writer_lawful k j

-- a front of a front is a front
front_of : (n k : ℕ) (xs : List ℕ) → n ≤ length (take k xs) → take n (take k xs) ≡ take n xs
front_of n k xs l =
    sym (take-append-le n (take k xs) (drop k xs) l) ∙ ap (take n) (take-append-drop k xs)

-- at each moment the text handed out is that of the source taken
pub lent_writer_moment : {ls : List Lent} {d e : Driven Writer} → ByLent writers ls d e → (src : List ℕ) → After d.state src d.out → Moment src d.left e
lent_writer_moment (none {d = d}) src x = record { more = []; taken = refl; stands = subst (λ (u : List ℕ). After d.state u d.out) (sym (append-nil src)) x }
lent_writer_moment {e = e} (call {l = l} {d = d} s t o m k) src x =
    let n : ℕ = t.taken.0 in
    let piece : List ℕ = take l.size d.left in
    let y : Moment (src ++ take n piece) (drop n d.left) e = lent_writer_moment k (src ++ take n piece) (m.moment src d.out x) in
    let z : n ≤ length piece = subst (λ (r : Stepped Writer). r.told.taken.0 ≤ length piece) (sym m.result) (step_short d.state piece (length l.buffer)) in
    record {
      more = take n piece ++ y.more;
      taken =
          sym (take-append-drop n d.left)
          ∙ ap (λ (u : List ℕ). u ++ drop n d.left) (sym (front_of n l.size d.left z))
          ∙ ap (λ (u : List ℕ). take n piece ++ u) y.taken
          ∙ sym (append_assoc (take n piece) y.more e.left);
      stands = subst (λ (u : List ℕ). After e.state u e.out) (append_assoc src (take n piece) y.more) y.stands;
    }
