-- One to four groups, by the byte that does not go on (`brief_one` to `brief_four`).
use native.Mathlib.Omega.{arith}
use Prim.Native.Nat.{◌+◌}
use Rattle.items_files.proofs.LightItems.{brief_one, brief_two, brief_three, brief_four}
use Rattle.items_files.proofs.glance.brief_at.Goals as goal

pub returns-then-c-lt-GOES_ON : goal.returns-then-c-lt-GOES_ON
returns-then-c-lt-GOES_ON c =
    brief_one c.args.file.now c.args.at (omega arith) c.if-c-lt-GOES_ON.true

pub overflow_cast-result-then-d-lt-GOES_ON : goal.overflow_cast-result-then-d-lt-GOES_ON
overflow_cast-result-then-d-lt-GOES_ON c =
    omega (arith, (c.shared_slice_known-1.given c.args.at).fits)

pub overflow_add-result-then-d-lt-GOES_ON : goal.overflow_add-result-then-d-lt-GOES_ON
overflow_add-result-then-d-lt-GOES_ON c =
    omega (arith, (c.shared_slice_known-1.given c.args.at).fits)

pub returns-then-d-lt-GOES_ON : goal.returns-then-d-lt-GOES_ON
returns-then-d-lt-GOES_ON c =
    brief_two c.args.file.now c.args.at c.requires c.if-c-lt-GOES_ON.false
    (c.shared_slice_known-1.given c.args.at).fits c.if-d-lt-GOES_ON.true c.if-d-eq0.false

pub overflow_cast-low : goal.overflow_cast-low
overflow_cast-low c =
    omega (arith, (c.shared_slice_known-1.given c.args.at).fits)

pub overflow_cast-low-2 : goal.overflow_cast-low-2
overflow_cast-low-2 c =
    omega (arith, (c.shared_slice_known-1.given (c.args.at + 1)).fits)

pub overflow_mul-low : goal.overflow_mul-low
overflow_mul-low c =
    omega (arith, (c.shared_slice_known-1.given (c.args.at + 1)).fits)

pub overflow_add-low : goal.overflow_add-low
overflow_add-low c =
    omega (arith, (c.shared_slice_known-1.given c.args.at).fits, (c.shared_slice_known-1.given (c.args.at + 1)).fits)

pub overflow_add-result-then-e-lt-GOES_ON : goal.overflow_add-result-then-e-lt-GOES_ON
overflow_add-result-then-e-lt-GOES_ON c =
    omega (arith, (c.shared_slice_known-1.given c.args.at).fits, (c.shared_slice_known-1.given (c.args.at + 1)).fits)

pub returns-then-e-lt-GOES_ON : goal.returns-then-e-lt-GOES_ON
returns-then-e-lt-GOES_ON c =
    brief_three c.args.file.now c.args.at c.requires c.if-c-lt-GOES_ON.false
    (c.shared_slice_known-1.given c.args.at).fits c.if-d-lt-GOES_ON.false
    (c.shared_slice_known-1.given (c.args.at + 1)).fits c.if-e-lt-GOES_ON.true c.if-e-eq0.false

pub overflow_cast-result-then-g-lt-GOES_ON : goal.overflow_cast-result-then-g-lt-GOES_ON
overflow_cast-result-then-g-lt-GOES_ON c =
    omega (arith, (c.shared_slice_known-1.given (c.args.at + 2)).fits)

pub overflow_mul-result-then-g-lt-GOES_ON : goal.overflow_mul-result-then-g-lt-GOES_ON
overflow_mul-result-then-g-lt-GOES_ON c =
    omega (arith, (c.shared_slice_known-1.given (c.args.at + 2)).fits)

pub overflow_add-result-then-g-lt-GOES_ON : goal.overflow_add-result-then-g-lt-GOES_ON
overflow_add-result-then-g-lt-GOES_ON c =
    omega (
      arith,
      (c.shared_slice_known-1.given c.args.at).fits,
      (c.shared_slice_known-1.given (c.args.at + 1)).fits,
      (c.shared_slice_known-1.given (c.args.at + 2)).fits,
    )

pub overflow_add-result-then-g-lt-GOES_ON-2 : goal.overflow_add-result-then-g-lt-GOES_ON-2
overflow_add-result-then-g-lt-GOES_ON-2 c =
    omega (
      arith,
      (c.shared_slice_known-1.given c.args.at).fits,
      (c.shared_slice_known-1.given (c.args.at + 1)).fits,
      (c.shared_slice_known-1.given (c.args.at + 2)).fits,
    )

pub returns-then-g-lt-GOES_ON : goal.returns-then-g-lt-GOES_ON
returns-then-g-lt-GOES_ON c =
    brief_four c.args.file.now c.args.at c.requires c.if-c-lt-GOES_ON.false (c.shared_slice_known-1.given c.args.at).fits
    c.if-d-lt-GOES_ON.false (c.shared_slice_known-1.given (c.args.at + 1)).fits c.if-e-lt-GOES_ON.false
    (c.shared_slice_known-1.given (c.args.at + 2)).fits c.if-g-lt-GOES_ON.true c.if-g-eq0.false
