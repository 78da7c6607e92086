-- `value::in_range` meets its contract.
use mathlib.Core.Path.{◌≡◌, ◌∙◌}
use native.Mathlib.Omega.{arith}
use borrow.Author.Tests.{lt-leb}
use lib.IntN.{nat_abs}
use Rattle.value.proofs.Integers.{back}
use Rattle.value.proofs.Ranges.{range-wide, range-test}
use Rattle.value.proofs.in_range.Goals as goal

pub returns-then-unsigned_abs-le-MANTISSA_LIMIT : goal.returns-then-unsigned_abs-le-MANTISSA_LIMIT
returns-then-unsigned_abs-le-MANTISSA_LIMIT c =
    let size : c.unsigned_abs.result ≡ nat_abs c.args.v.m = c.unsigned_abs.ensures.value ∙ rw (back c.struct_told-1.given.0.1) in
    range-test _ (omega (arith, size))

pub returns-else-unsigned_abs-le-MANTISSA_LIMIT : goal.returns-else-unsigned_abs-le-MANTISSA_LIMIT
returns-else-unsigned_abs-le-MANTISSA_LIMIT c =
    let size : c.unsigned_abs.result ≡ nat_abs c.args.v.m = c.unsigned_abs.ensures.value ∙ rw (back c.struct_told-1.given.0.1) in
    lt-leb _ _ (omega arith) ∙ range-wide _ (omega (arith, size))
