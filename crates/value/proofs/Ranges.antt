-- Laws of `inRange`: what the code tests of its operands.
use Rattle.std.specs.Prelude.{None, Option}
use mathlib.Core.Path.{◌≡◌, refl, sym, ◌∙◌}
use mathlib.Core.Bool.{Bool, true, false, ◌&&◌}
use Prim.Native.Nat.{ℕ, ◌<◌, ◌≤◌}
use native.Mathlib.Omega.{arith}
use borrow.Author.Tests.{le-leb, lt-leb, leb-true}
use lib.Dec.{leb}
use lib.IntN.{nat_abs}
use Rattle.rules.specs.Limits.{mantissa_limit, scale_limit}
use Rattle.value.specs.declared.Value.{Value}
use Rattle.value.specs.Decimal.{Valid, in_range, if_in_range}

pub and-true : (t : Bool) → (t && true) ≡ t
and-true true = refl
and-true false = refl

pub and-false : (t : Bool) → (t && false) ≡ false
and-false true = refl
and-false false = refl

pub and_left : (a b : Bool) → (a && b) ≡ true → a ≡ true
and_left true b e = refl
and_left false b e = e

pub and_right : (a b : Bool) → (a && b) ≡ true → b ≡ true
and_right true b e = e
and_right false b e = absurd (let w : ◌≡◌ {A = ℕ} 0 1 = cc in omega arith)

module _ (v : Value) where
  pub range-wide : 999999999 < nat_abs v.m → false ≡ in_range v
  unfolding in_range mantissa_limit
  range-wide h = rw (lt-leb (nat_abs v.m) 999999999 h)

  pub range-test : nat_abs v.m ≤ 999999999 → leb v.s 6 ≡ in_range v
  unfolding in_range mantissa_limit scale_limit
  range-test h = rw (le-leb (nat_abs v.m) 999999999 h)

  pub range_small : in_range v ≡ true → nat_abs v.m ≤ 999999999
  unfolding in_range mantissa_limit
  range_small e = leb-true _ _ (and_left _ _ e)

  pub range-places : in_range v ≡ true → v.s ≤ 6
  unfolding in_range scale_limit
  range-places e = leb-true _ _ (and_right (leb (nat_abs v.m) mantissa_limit) _ e)

  pub valid-in-range : Valid v → in_range v ≡ true
  unfolding in_range
  valid-in-range h = rw (le-leb _ _ h.small, le-leb _ _ h.places)

-- two operands in range, as the code tests them
pub record Both (a b : Value) : Type 0 where
  pub left : in_range a ≡ true
  pub right : in_range b ≡ true

pub both_of : (a b : Value) (r : Bool) → r ≡ (in_range a && in_range b) → r ≡ true → Both a b
both_of a b r e h = record { left = and_left _ _ (sym e ∙ h); right = and_right (in_range a) _ (sym e ∙ h) }

module _ (a b : Value) (r : Option Value) where
  pub both-in-range : Both a b → r ≡ if_in_range a b r
  unfolding if_in_range
  both-in-range w = rw (w.left, w.right)

  pub not-in-range : false ≡ (in_range a && in_range b) → None ≡ if_in_range a b r
  unfolding if_in_range
  not-in-range e = rw (← e)

  -- of two values the operation is answered
  pub valid-both : Valid a → Valid b → if_in_range a b r ≡ r
  unfolding if_in_range
  valid-both ha hb = rw (valid-in-range a ha, valid-in-range b hb)
