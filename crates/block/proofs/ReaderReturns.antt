-- What the reader into a second buffer returns where it does not run: the contract holds there. Assumes nothing.
use Prim.Native.Nat.{ℕ, ◌<◌}
use mathlib.Core.Path.{◌≡◌, sym, ap}
use mathlib.Core.Bool.{true, false}
use mathlib.Core.List.{List}
use lib.ListN.{length}
use Rattle.answer.specs.declared.Kind.TheVariants as K
use Rattle.answer.specs.declared.Outcome.TheVariants as O
use Rattle.answer.specs.Told.{number, position, told}
use Rattle.reading.specs.Options.{allowed}
use Rattle.reading.specs.Buffer.{filled}
use Rattle.block.specs.Calls.{ReadAs}
use Rattle.block.specs.Room.{needed_of}
use Rattle.block.proofs.Answers.{promised_of}
use Rattle.block.proofs.RoomLaws.{read_declined, read_lacks}

module _ (a opts : ℕ) (t o : List ℕ) where
  pub declined : allowed a opts ≡ false → ReadAs a opts t o (O.Refused K.Choice (record { 0 = 0 })) o
  unfolding told number position
  declined e =
      let d = read_declined a opts t (length o) e in
      record { is = sym d.0; buffer = ap (λ (w : List ℕ). filled w o) (sym d.1); promised = promised_of a opts t }

  pub lacking : allowed a opts ≡ true → {need : ℕ} → need ≡ needed_of a opts t (length o) → length o < need
      → ReadAs a opts t o (O.Refused (K.NoRoom (record { 0 = 0 })) (record { 0 = need })) o
  unfolding told number position
  lacking ok n l =
      let d = read_lacks a opts t (length o) ok (rw n at l) in
      record { is = rw n (sym d.0); buffer = ap (λ (w : List ℕ). filled w o) (sym d.1); promised = promised_of a opts t }
