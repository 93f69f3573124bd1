-- T1: whatever calls were made from a start, the state is the state of the text taken, and the bytes handed out so far are exactly what all
-- accepted continuations of it share. Assumes nothing.
use Prim.Native.Nat.{ℕ, ◌<◌}
use mathlib.Core.Path.{◌≡◌, sym, ◌∙◌}
use mathlib.Core.List.{List, []}
use Rattle.alphabet.specs.Alphabet.{bits}
use Rattle.alphabet.specs.Digits.{bytes_of}
use Rattle.reading.specs.Reader.{going, fresh, feed_all}
use Rattle.reading.proofs.Seen.{Seen}
use Rattle.reading.proofs.ReaderLaws.{seen}
use Rattle.reading.proofs.Continuations.{read_continued}
use Rattle.reading.proofs.OptionLaws.{allowed_alphabet}
use Rattle.reading.proofs.Fronts.{seen_going}
use Rattle.reading.proofs.Shared.{longest_shared}
use Rattle.streaming.specs.Stream.{Stream}
use Rattle.streaming.specs.Reached.{Calls}
use Rattle.streaming.specs.Promises.{AfterCalls}
use Rattle.streaming.proofs.Standing.{Standing, standing}

pub standing_after : {a opts : ℕ} {t out : List ℕ} {s : Stream} → Standing a opts t out s → AfterCalls a opts t out s
standing_after {a} {opts} {t} {out} {s} x =
    let h : a < 6 = allowed_alphabet a opts x.choice in
    let r : Seen a opts t (feed_all a opts (going fresh []) t) = seen_going a h opts t x.reads in
    let e : going s.state out ≡ seen a r.values r.pads _ = sym x.reads ∙ r.here in
    let o : out ≡ bytes_of (bits a) r.values = cc in
    record {
      alphabet = x.alphabet;
      options = x.options;
      reads = x.reads;
      taken = x.taken;
      within = x.within;
      continued = read_continued a h opts t _ r;
      shared = rw o (longest_shared a h opts t r);
    }

pub after_any_calls : {a opts : ℕ} {t out : List ℕ} {s : Stream} → Calls a opts t out s → AfterCalls a opts t out s
after_any_calls c = standing_after (standing c)
