-- `at_width`: each turn takes a digit as the definition does, of the byte that the held bits stand loose in.
use Prim.Native.Nat.{ℕ, ◌*◌, ◌%◌, ◌<◌}
use mathlib.Core.Path.{◌≡◌, refl, ap}
use native.Mathlib.Omega.{arith}
use lib.ListN.{length, get_or}
use Rattle.alphabet.proofs.AlphabetLaws.{bits_high}
use Rattle.rule.proofs.Readiness.{small_product}
use Rattle.engine.proofs.Plain.{digits_below, plain_begins, plain_few, plain_size, plain_fits, plain_sums}
use Rattle.engine.proofs.Plain.{plain_joins, plain_holds, plain_gives}
use Rattle.engine.proofs.digits.at_width.Goals as goal
use Rattle.engine.proofs.digits.at_width.Goals.{then-s-lt8, else-s-lt8+else-n-out}

pub overflow_mul-r : goal.overflow_mul-r
overflow_mul-r g c =
    rw c.requires.b_value (omega (arith, small_product _ _ c.requires.alphabet_bound (digits_below c.requires.ready)))

pub loop-byte-init : goal.loop-byte-init
loop-byte-init g c =
    let byte : c.args.k.held % 256 ≡ c.args.k.held = omega arith in
    rw byte (plain_begins _ _ _ _ c.requires.ready c.requires.pads_value (ap (λ (b : ℕ). b * c.args.k.digits % 8) c.requires.b_value), refl)

pub overflow_add-z : goal.overflow_add-z
overflow_add-z g c =
    let inside : get_or c.args.piece.now c.loop-byte.byte-index 0 < 256 = omega arith in
    omega (
      arith,
      plain_joins c.requires.alphabet_bound c.loop-byte.invariant.0 c.args.t.now.is c.requires.ready c.loop-byte-test.true
          inside refl c.if-v.false c.requires.b_value,
    )

pub overflow_add-s : goal.overflow_add-s
overflow_add-s g c =
    omega (arith, c.requires.b_value, bits_high _ c.requires.alphabet_bound, plain_few c.requires.alphabet_bound c.loop-byte.invariant.0)

pub overflow_shr-out : goal.overflow_shr-out
overflow_shr-out g c =
    omega (arith, c.requires.b_value, bits_high _ c.requires.alphabet_bound, plain_few c.requires.alphabet_bound c.loop-byte.invariant.0)

pub bounds-out-n : goal.bounds-out-n
bounds-out-n g c = omega (
  arith,
  plain_size c.requires.alphabet_bound c.loop-byte.invariant.0,
  plain_fits c.requires.alphabet_bound c.loop-byte.invariant.0,
)

pub overflow_add-n : goal.overflow_add-n
overflow_add-n g c = omega (
  arith,
  plain_size c.requires.alphabet_bound c.loop-byte.invariant.0,
  plain_fits c.requires.alphabet_bound c.loop-byte.invariant.0,
)

pub loop-byte-preserved : goal.loop-byte-preserved
loop-byte-preserved g c =
    let inside : get_or c.args.piece.now c.loop-byte.byte-index 0 < 256 = omega arith in
    elim c.if-s-lt8.branch [
      | then-s-lt8 w ↦
          rw (w.out-is, w.r-is, w.n-is) (
            plain_holds c.requires.alphabet_bound c.loop-byte.invariant.0 c.args.t.now.is c.requires.ready c.loop-byte-test.true inside refl
                c.if-v.false c.requires.b_value w.if-s-lt8.true,
            omega (arith, c.loop-byte.invariant.1),
          )
      | else-s-lt8+else-n-out w ↦
          let room : c.loop-byte.n < length c.args.out.now =
          omega (arith, plain_size c.requires.alphabet_bound c.loop-byte.invariant.0, plain_fits c.requires.alphabet_bound c.loop-byte.invariant.0) in
          rw (w.out-is, w.r-is, w.n-is) (
            plain_gives c.requires.alphabet_bound c.loop-byte.invariant.0 c.args.t.now.is c.requires.ready c.loop-byte-test.true inside refl
                c.if-v.false c.requires.b_value w.if-s-lt8.false room,
            omega (arith, c.loop-byte.invariant.1),
          )
    ]

pub after-requires : goal.after-requires
after-requires g c =
    let fits = rw (← c.loop-byte.invariant.1) at (plain_sums c.requires.alphabet_bound c.loop-byte.invariant.0 c.requires.ready) in
    record { r_bound = plain_few c.requires.alphabet_bound c.loop-byte.invariant.0; took_bound = fits.0; took_bound_2 = fits.1 }
