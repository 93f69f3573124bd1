-- A text offered to the methods in pieces, in any cutting and with any buffers, comes to the verdict on the whole text. Assumes nothing.
use Prim.Native.Nat.{ℕ, suc, ◌≤◌}
use mathlib.Core.Path.{◌≡◌, refl, sym, ap, ◌∙◌, subst}
use mathlib.Core.Logic.{inl, inr}
use mathlib.Core.List.{List, [], ◌∷◌, ◌++◌, map, append-nil}
use native.Mathlib.Omega.{arith}
use lib.ListN.{length, take, drop}
use Rattle.std.specs.Prelude.{Ok}
use Rattle.alphabet.specs.Bits.{Below}
use Rattle.reading.specs.Reader.{Verdict}
use Rattle.reading.specs.Promises.{Promised}
use Rattle.states.specs.declared.Status.{Status}
use Rattle.states.specs.declared.Status.TheVariants as U
use Rattle.stream.specs.declared.reader.Reader.{Reader}
use Rattle.streaming.specs.Stream.{done, Stream}
use Rattle.streaming.specs.Calls.{finish_of}
use Rattle.streaming.specs.Driving as D
use Rattle.streaming.specs.Driving.{Driven, offer, drive, Offering, Refused, Settled}
use Rattle.streaming.specs.Promises.{finish_verdict, Settles}
use Rattle.rule.specs.Meaning.{number}
use Rattle.states.specs.Status.{status_of}
use Rattle.stream.specs.Stepped.{stream_of, begun, finished}
use Rattle.stream.specs.Made.{Lent, Held, begins, offer_by, drive_by, offer_of, driven_of, ShutBy, SettledBy, verdict_by}
use Rattle.stream.specs.Carried.{SettlesBy}
use Rattle.streaming.proofs.Again.{live_shut, done_shut}
use Rattle.streaming.proofs.AnyCutting.{any_cutting, offering_ends}
use Rattle.stream.proofs.Telling.{step_tells, finish_tells, nothing_written}
use Rattle.stream.proofs.Making.{start_tells}

pub offer_carried : (l : Lent) (h : Held) → driven_of (offer_by l h) ≡ offer (offer_of l) (driven_of h)
unfolding offer_by offer D.told
offer_carried l h =
    let x = step_tells h.reader (take l.size h.left) l.buffer in
    λ i. record { stream = x.stream i; left = drop (x.took i) h.left; out = h.out ++ x.wrote i }

pub drive_carried : (ls : List Lent) (h : Held) → driven_of (drive_by ls h) ≡ drive (map offer_of ls) (driven_of h)
unfolding drive_by drive
drive_carried [] h = refl
drive_carried (l ∷ ls) h = drive_carried ls (offer_by l h) ∙ ap (drive (map offer_of ls)) (offer_carried l h)

settled_carried : (h : Held) → SettledBy h → Settled (driven_of h)
unfolding status_of
settled_carried h (inl e) = inl e
settled_carried h (inr x) = inr (record { answer = number x.cause; is = rw x.is })

verdict_carried : (h : Held) → verdict_by h ≡ finish_verdict (driven_of h)
verdict_carried h =
    let x = finish_tells h.reader in
    let e : h.out ≡ h.out ++ (finish_of (stream_of h.reader)).wrote =
    sym (append-nil h.out) ∙ ap (λ w. h.out ++ w) (sym (nothing_written (stream_of h.reader))) in
    λ i. record { answer = x.answer i; position = x.position i; good = e i }

done_only : (u : Status) → status_of u ≡ done → u ≡ U.Done
unfolding status_of
done_only U.Open e = let z : ◌≡◌ {A = ℕ} 0 1 = cc in absurd (omega arith)
done_only (U.Shut c) e = let z : ◌≡◌ {A = ℕ} 0 1 = cc in absurd (omega arith)
done_only U.Done e = refl

refused_shut : (q : Reader) → Refused (stream_of q) → ShutBy q
unfolding status_of
refused_shut q x = go q.status refl
  where
    go : (u : Status) → q.status ≡ u → ShutBy q
    go U.Open f = absurd (live_shut (ap status_of (sym f) ∙ x.is))
    go (U.Shut c) f = record { cause = c; is = f }
    go U.Done f = absurd (done_shut (ap status_of (sym f) ∙ x.is))

map_length : (ls : List Lent) → length (map offer_of ls) ≡ length ls
map_length [] = refl
map_length (l ∷ ls) = ap suc (map_length ls)

module _ (a opts : ℕ) (text : List ℕ) (b : Below 256 text) (r : Reader) (e : begun a opts ≡ Ok r) (ls : List Lent) where
  abbrev driven : Driven
  driven = drive (map offer_of ls) (D.begin (stream_of r) text)

  abbrev held : Held
  held = drive_by ls (begins r text)

  same : driven_of held ≡ driven
  same = drive_carried ls (begins r text)

  pub any_cutting_carried : SettledBy held → SettlesBy a opts text held
  any_cutting_carried y =
      let z : Settled driven = subst Settled same (settled_carried held y) in
      let x : Settles a opts text driven = any_cutting a opts text b (stream_of r) (start_tells a opts r e) (map offer_of ls) z in
      let v : verdict_by held ≡ finish_verdict driven = verdict_carried held ∙ ap finish_verdict same in
      record {
        whole = v ∙ x.whole;
        promised = subst (Promised a opts text) (sym v) x.promised;
        finishes = λ z.
            done_only (finished held.reader).state.status
            (ap (λ (s : Stream). s.status) ((finish_tells held.reader).stream ∙ ap (λ (d : Driven). (finish_of d.stream).stream) same)
            ∙ x.finished (ap (λ (w : Verdict). w.answer) (sym v) ∙ z));
      }

  -- where each call offers a byte and has room for one, as many calls as the text has bytes are enough
  pub offering_ends_carried : Offering (map offer_of ls) → length text ≤ length ls → SettledBy held
  offering_ends_carried f l =
      go (subst Settled (sym same) (offering_ends a opts text b (stream_of r) (start_tells a opts r e) (map offer_of ls) f (rw (map_length ls) l)))
    where
      go : Settled (driven_of held) → SettledBy held
      go (inl n) = inl n
      go (inr x) = inr (refused_shut held.reader x)
