-- `store::digit` meets its contract.
use mathlib.Core.Path.{◌≡◌, refl}
use native.Mathlib.Omega.{arith}
use lib.IntN.{pos, ◌+ℤ◌}
use mir.Facts.{to_z-of_z}
use Rattle.store.specs.Key.{digit_of}
use Rattle.store.proofs.Keys.{digit-below}
use Rattle.store.proofs.Words.{digit-high, digit_low, digit-is, digit-read}
use Rattle.store.proofs.digit.Goals as goal

-- the sum that is left past both tests

sum : (c : goal.Else-k) → c.args.k +ℤ pos 1000000000 ≡ pos (digit_of c.args.k)
sum c = digit-is _ (rw (to_z-of_z c.ranges.k) at c.if-k-ge-SHIFT.false) (rw (to_z-of_z c.ranges.k) at c.if-k.false)

pub returns-then-k-ge-SHIFT : goal.returns-then-k-ge-SHIFT
returns-then-k-ge-SHIFT c = (digit-high _ (rw (to_z-of_z c.ranges.k) at c.if-k-ge-SHIFT.true), omega arith)

pub returns-then-k : goal.returns-then-k
returns-then-k c = (digit_low _ (rw (to_z-of_z c.ranges.k) at c.if-k.true), omega arith)

pub returns : goal.returns
returns c = rw (to_z-of_z c.ranges.k, sum c, digit-read c.args.k) (refl, digit-below c.args.k)
