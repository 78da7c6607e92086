-- The power of ten behind a decimal: where it ends, and the literal with it.
use Rattle.std.specs.Prelude.{Option, Some, None}
use Rattle.value.specs.declared.Value.{Value}
use mathlib.Core.Path.{◌≡◌, refl, sym, ◌∙◌, subst}
use mathlib.Core.Bool.{Bool, true, false, cond, ◌&&◌, ◌||◌}
use mathlib.Core.List.{List, [], ◌∷◌, ◌++◌}
use Prim.Native.Nat.{ℕ, zero, suc, ◌+◌, ◌-◌, ◌<◌, ◌≤◌}
use native.Mathlib.Omega.{arith}
use borrow.Author.Tests.{eq-eqb, ne_eqb, le-leb, lt-leb, leb-false}
use lib.Dec.{eqb, leb}
use lib.ListN.{length, get_or, take, drop, drop_of_length-le, length-drop}
use lib.Seq.{drop-drop, take-add, length-take-le}
use Rattle.rules.specs.Limits.{power_digits}
use Rattle.value.specs.Literal.{is_digit, literal_of}
use Rattle.value.proofs.Reading.{literal-valid}
use Rattle.lexer.specs.Text.{literal_kind, valued, sign_length, power_size, power_length, powered}
use Rattle.lexer.specs.Inner.{RunLength, SignLength, PowerLength, Gives, found_of}
use Rattle.lexer.specs.View.{part_of}
use Rattle.lexer.specs.declared.Found.{Found}
use Rattle.std.proofs.lemmas.List.{drop_more}

-- ---- a sign

sign-is : (s : List ℕ) (i : ℕ) → sign_length (drop i s) ≡ cond (eqb (get_or s i 0) 43 || eqb (get_or s i 0) 45) 1 0
unfolding sign_length
sign-is [] zero = refl
sign-is [] (suc i) = refl
sign-is (b ∷ t) zero = refl
sign-is (b ∷ t) (suc i) = sign-is t i

module _ (s : List ℕ) (at b : ℕ) (u : Bool) where
  pub sign-some : b ≡ get_or s at 0 → u ≡ (eqb b 43 || eqb b 45) → u ≡ true → SignLength s at 1
  sign-some e f h = record { count = sym (sign-is s at ∙ rw (← e, ← f, h)); small = omega arith }

  pub sign-none : b ≡ get_or s at 0 → u ≡ (eqb b 43 || eqb b 45) → u ≡ false → SignLength s at 0
  sign-none e f h = record { count = sym (sign-is s at ∙ rw (← e, ← f, h)); small = omega arith }

-- ---- `E`, the sign and the digits

pub power-out : (s : List ℕ) (at : ℕ) → length s ≤ at → PowerLength s at 0
unfolding power_length
power-out s at h = record { count = rw (drop_of_length-le s {i = at} h); bound = omega arith }

pub power-other : (s : List ℕ) (at b : ℕ) → at < length s → b ≡ get_or s at 0 → (b ≡ 69 → ⊥) → PowerLength s at 0
unfolding power_length
power-other s at b h e f = record { count = rw (drop_more s at 0 h, ne_eqb (get_or s at 0) 69 (λ z. f (e ∙ z))); bound = omega arith }

module _ (g n : ℕ) where
  pub size-long : 2 < n → 1 + g + 2 ≡ power_size g n
  unfolding power_size power_digits
  size-long h = go n h
    where
      go : (n : ℕ) → 2 < n → 1 + g + 2 ≡ power_size g n
      go zero h = absurd (omega arith)
      go (suc n) h = rw (lt-leb (suc n) 2 h)

  pub size_none : n ≡ 0 → 0 ≡ power_size g n
  unfolding power_size
  size_none e = rw e

  pub size-some : (n ≡ 0 → ⊥) → n ≤ 2 → 1 + g + n ≡ power_size g n
  unfolding power_size power_digits
  size-some f h = go n f h
    where
      go : (n : ℕ) → (n ≡ 0 → ⊥) → n ≤ 2 → 1 + g + n ≡ power_size g n
      go zero f h = absurd (f refl)
      go (suc n) f h = rw (le-leb (suc n) 2 h)

-- no more than there are
size-most : (g n m : ℕ) → n ≤ m - (1 + g) → power_size g n ≤ m
unfolding power_size power_digits
size-most g zero m h = omega arith
size-most g (suc n) m h = go (leb (suc n) 2) refl
  where
    go : (u : Bool) → leb (suc n) 2 ≡ u → 1 + g + cond u (suc n) 2 ≤ m
    go true e = omega arith
    go false e = omega (arith, leb-false (suc n) 2 e)

pub power-here : (s : List ℕ) (at b g n r : ℕ) → at < length s → b ≡ get_or s at 0 → b ≡ 69 → SignLength s (at + 1) g → RunLength s (at + 1 + g) is_digit n → r ≡ power_size g n
    → PowerLength s at r
unfolding power_length
power-here s at b g n r h e f w c q =
    record {
      count = q ∙ sym (rw (drop_more s at 0 h, eq-eqb (get_or s at 0) 69 (sym e ∙ f), ← w.count, drop-drop g (at + 1) s, ← c.count));
      bound = rw q (size-most g n (length s - at) (omega (arith, c.bound)));
    }

-- ---- the literal whose decimal ends at `end`

-- the value of the literal l
value-is : (s l : List ℕ) (w : Bool) (v : Option Value) (at n : ℕ) (r : Found) → v ≡ literal_of l → n ≡ length l → r ≡ found_of w v at n → Gives s r (valued w at l)
unfolding valued literal_kind
value-is s l w v at n r e h g = subst (λ (q : Found). Gives s q (valued w at l)) (sym g) (go v e)
  where
    go : (v : Option Value) → v ≡ literal_of l → Gives s (found_of w v at n) (valued w at l)
    go (Some x) e = record { same = rw (← e, h) refl; within = literal-valid l x (sym e) }
    go None e = record { same = rw (← e, h) refl; within = tt }

module _ (s : List ℕ) (at end n : ℕ) (h : at ≤ end) (g : end ≤ length s) (w : PowerLength s end n) where
  powered-bytes : take (end + n - at) (drop at s) ≡ part_of s at (end - at) ++ take n (drop end s)
  powered-bytes =
      let e : end + n - at ≡ (end - at) + n = omega arith in
      let f : at + (end - at) ≡ end = omega arith in
      rw (e, take-add (end - at) n (drop at s), drop-drop (end - at) at s, f) refl

  pub powered-is : (whole plain : Bool) (v : Option Value) (r : Found) → v ≡ literal_of (take (end + n - at) (drop at s)) → plain ≡ (whole && eqb n 0) → r ≡ found_of plain v at (end + n - at)
      → Gives s r (powered whole at (part_of s at (end - at)) (drop end s))
  unfolding powered
  powered-is whole plain v r e p q =
      let m : end + n - at ≡ length (take (end + n - at) (drop at s)) = sym (length-take-le (end + n - at) (drop at s) (omega (arith, w.bound, length-drop at s))) in
      rw (← w.count, ← powered-bytes, ← p) (value-is s _ plain v at _ r e m q)
