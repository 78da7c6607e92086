-- What the machine reads of signed numbers, as digits and packed values need it; a packed value is unpacked again.
use mathlib.Core.Path.{◌≡◌, refl}
use mathlib.Core.Bool.{Bool, true, false, cond}
use Prim.Native.Nat.{ℕ, suc, ◌+◌, ◌-◌, ◌*◌, ◌/◌, ◌%◌, ◌^◌, ◌<◌, ◌≤◌}
use native.Mathlib.Omega.{arith}
use borrow.Author.Tests.{ltb-true, ltb-false, le-leb, lt-leb, leb-true, leb-false}
use lib.Dec.{ltb}
use lib.IntN.{ℤ, pos, negsuc, nat_abs, sub_ℕ, ◌+ℤ◌, ◌-ℤ◌}
use lib.Signed.{mag, le_z}
use mir.Syntax.{w64}
use mir.Val.{SFits, to_z, of_z}
use mir.Facts.{to_z-of_z, to_z_pos}
use Rattle.rules.specs.Limits.{mantissa_limit, scale_limit}
use Rattle.value.specs.declared.Value.{Value}
use Rattle.rational.specs.Integer.{up, down}
use Rattle.rational.proofs.Integer.{by_parts, add_parts}
use Rattle.store.specs.Key.{digit_of}
use Rattle.store.specs.Packed.{packed, unpacked}
use Rattle.store.proofs.Keys.{digit-out, digit-parts, digit-below}

-- ---- the digit of a number, by the code's tests

beyond : (k : ℤ) → le_z (pos 1000000000) k ≡ true → 999999999 < nat_abs k
beyond (pos a) e = leb-true 1000000000 a e
beyond (negsuc a) e = absurd (let w : ◌≡◌ {A = ℕ} 0 1 = cc in omega arith)

below : (k : ℤ) → le_z k (negsuc 999999999) ≡ true → 999999999 < nat_abs k
below (pos a) e = absurd (let w : ◌≡◌ {A = ℕ} 0 1 = cc in omega arith)
below (negsuc a) e = omega (arith, leb-true 999999999 a e)

within : (k : ℤ) → le_z (pos 1000000000) k ≡ false → le_z k (negsuc 999999999) ≡ false → nat_abs k ≤ 999999999
within (pos a) e f = omega (arith, leb-false 1000000000 a e)
within (negsuc a) e f = omega (arith, leb-false 999999999 a f)

module _ (k : ℤ) where
  pub digit-high : le_z (pos 1000000000) k ≡ true → 0 ≡ digit_of k
  unfolding mantissa_limit
  digit-high e = digit-out k (beyond k e)

  pub digit_low : le_z k (negsuc 999999999) ≡ true → 0 ≡ digit_of k
  unfolding mantissa_limit
  digit_low e = digit-out k (below k e)

  -- a number in bounds, moved above zero, is its digit
  pub digit-is : le_z (pos 1000000000) k ≡ false → le_z k (negsuc 999999999) ≡ false → k +ℤ pos 1000000000 ≡ pos (digit_of k)
  unfolding mantissa_limit
  digit-is e f = by_parts (k +ℤ pos 1000000000) (pos (digit_of k)) (omega (arith, add_parts k (pos 1000000000), digit-parts k (within k e f)))

-- a digit as the machine has it
pub digit-read : (k : ℤ) → to_z w64 (digit_of k) ≡ pos (digit_of k)
digit-read k = to_z_pos w64 (omega (arith, digit-below k))

-- ---- packed values

module _ (v : Value) where
  pub packed-out : 6 < v.s → 0 ≡ packed v
  unfolding packed scale_limit
  packed-out h = rw (lt-leb v.s 6 h)

  pub packed-in : (d : ℕ) → d ≡ digit_of v.m → v.s ≤ 6 → d * 8 + v.s ≡ packed v
  unfolding packed scale_limit
  packed-in d e h = rw (e, le-leb v.s 6 h)

sub-size : (a b : ℕ) → mag (sub_ℕ a b) ≤ a + b
sub-size a b = go (ltb a b) refl
  where
    go : (t : Bool) → ltb a b ≡ t → mag (cond t (negsuc (b - suc a)) (pos (a - b))) ≤ a + b
    go true e = omega (arith, ltb-true a b e)
    go false e = omega (arith, ltb-false a b e)

-- a number above zero, moved down
module _ (d : ℕ) (h : d < 2 ^ 62) where
  unsigned : to_z w64 d ≡ pos d
  unsigned = to_z_pos w64 (omega arith)

  pub moved-fits : SFits w64 (to_z w64 d -ℤ pos 1000000000)
  moved-fits = rw unsigned (record { sfits = omega (arith, sub-size d 1000000000) })

  pub moved-is : to_z w64 (of_z w64 (to_z w64 d -ℤ pos 1000000000)) ≡ pos d -ℤ pos 1000000000
  moved-is = rw (to_z-of_z moved-fits, unsigned)

module _ (w : ℕ) (h : w < 2 ^ 64) where
  pub unpacked-is : ◌≡◌ {A = Value} (record { m = to_z w64 (of_z w64 (to_z w64 (w / 8) -ℤ pos 1000000000)); s = w % 8 }) (unpacked w)
  unfolding unpacked mantissa_limit
  unpacked-is = rw (moved-is (w / 8) (omega arith))

pub moved_back : (d : ℕ) (k : ℤ) → d + down k ≡ up k + 1000000000 → pos d -ℤ pos 1000000000 ≡ k
moved_back d k e = by_parts (pos d -ℤ pos 1000000000) k (omega (arith, add_parts (pos d) (negsuc 999999999)))

pub unpacked-packed : (v : Value) → nat_abs v.m ≤ mantissa_limit → v.s ≤ scale_limit → unpacked (packed v) ≡ v
unfolding packed unpacked mantissa_limit scale_limit
unpacked-packed v a b = rw (le-leb v.s 6 b) (λ i. record { m = whole i; s = scale i })
  where
    whole : pos ((digit_of v.m * 8 + v.s) / 8) -ℤ pos 1000000000 ≡ v.m
    whole = moved_back ((digit_of v.m * 8 + v.s) / 8) v.m (omega (arith, digit-parts v.m a))

    scale : (digit_of v.m * 8 + v.s) % 8 ≡ v.s
    scale = omega arith
