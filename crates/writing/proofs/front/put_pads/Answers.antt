-- The part that is filled has the pads, and the rest of the buffer stays. Assumes nothing.
use Prim.Native.Nat.{◌+◌, ◌-◌}
use mathlib.Core.Path.{◌≡◌, sym, ◌∙◌}
use native.Mathlib.Omega.{arith}
use lib.ListN.{length, take, drop, replicate, length-drop, length-replicate}
use lib.Seq.{length-take-le}
use Rattle.std.proofs.lemmas.Slice.{put_mid-paste}
use Rattle.alphabet.specs.Alphabet.{pad}
use Rattle.writing.proofs.front.put_pads.Goals as goal

pub returns : goal.returns
returns c =
    let at = c.args.at in
    let k : at + c.args.pads - at ≡ c.args.pads = omega arith in
    let n : length (take (at + c.args.pads - at) (drop at c.args.out.now)) ≡ c.args.pads =
    length-take-le _ _ (omega (arith, length-drop at c.args.out.now)) ∙ k in
    put_mid-paste at (at + c.args.pads - at) c.args.out.now _ (replicate c.args.pads pad) c.args.pads
    (c.fill.ensures.after (λ y e. e) ∙ rw n)
    (sym k)
    (sym (length-replicate c.args.pads pad))
