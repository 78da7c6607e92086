-- Bytes compared one by one: what `==` answers, and that it tells equal bytes.
use mathlib.Core.Path.{◌≡◌, refl, ◌∙◌}
use Rattle.std.specs.Cmp.Lexicographic.{pointwise}
use mathlib.Core.Bool.{Bool, true, false, cond, ◌&&◌}
use mathlib.Core.List.{List, [], ◌∷◌}
use Prim.Native.Nat.{ℕ}
use borrow.Author.Tests.{eq-eqb, eqb-true}
use lib.Dec.{eqb}
use Rattle.lexer.specs.Text.{same_bytes}

-- ---- for callers

pub same-bytes-equal : (a b : List ℕ) → same_bytes a b ≡ true → a ≡ b
unfolding same_bytes
same-bytes-equal [] [] e = refl
same-bytes-equal [] (y ∷ b) e = cc
same-bytes-equal (x ∷ a) [] e = cc
same-bytes-equal (x ∷ a) (y ∷ b) e = go (eqb x y) refl (same-bytes-equal a b) e
  where
    go : (u : Bool) → eqb x y ≡ u → (same_bytes a b ≡ true → a ≡ b) → elim u as (λ _. Bool) [ true ↦ same_bytes a b | false ↦ false ] ≡ true → x ∷ a ≡ y ∷ b
    go true h r e = let q = eqb-true x y h in let p = r e in cc
    go false h r e = cc

pub same-bytes-refl : (a : List ℕ) → same_bytes a a ≡ true
unfolding same_bytes
same-bytes-refl [] = refl
same-bytes-refl (x ∷ a) = rw (eq-eqb x x refl, same_bytes) (same-bytes-refl a)

-- ---- as `==` compares them

pub same-pointwise : (a b : List ℕ) → pointwise eqb a b ≡ same_bytes a b
unfolding same_bytes
same-pointwise [] [] = refl
same-pointwise [] (y ∷ b) = refl
same-pointwise (x ∷ a) [] = refl
same-pointwise (x ∷ a) (y ∷ b) = go (eqb x y) (same-pointwise a b)
  where
    go : (u : Bool) → pointwise eqb a b ≡ same_bytes a b → (u && pointwise eqb a b) ≡ elim u as (λ _. Bool) [ true ↦ same_bytes a b | false ↦ false ]
    go true r = r
    go false r = refl

pub equal-same : (a b : List ℕ) (r : Bool) → r ≡ pointwise eqb a b → r ≡ same_bytes a b
equal-same a b r e = e ∙ same-pointwise a b

pub picks-same : {A : Type 0} (a b : List ℕ) (r u : Bool) (x y : A) → r ≡ pointwise eqb a b → r ≡ u → cond u x y ≡ cond (same_bytes a b) x y
picks-same a b r u x y e f = rw (← equal-same a b r e, f) refl
