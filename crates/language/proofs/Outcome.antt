-- Laws of `specs/Outcome`.
use Rattle.std.specs.Prelude.{Option, Some, None}
use mathlib.Core.Path.{◌≡◌, refl}
use mathlib.Core.Bool.{Bool, true, false}
use Prim.Native.Nat.{ℕ}
use lib.IntN.{ℤ}
use Rattle.rules.specs.declared.Refusal.{Refusal}
use Rattle.value.specs.declared.Value.{Value}
use Rattle.language.specs.Outcome.{Outcome, ◌>>=◌, check, fitting, or_refuse, whole_number, done, refused}

-- ---- a sequence that ends in a value has one at each step, for a proof that goes on with it

pub done-injective : {A : Type 0} {a b : A} → done a ≡ done b → a ≡ b
done-injective e = cc

pub refused-done : {A : Type 0} {n : Refusal} {p : ℕ} {a : A} → ◌≡◌ {A = Outcome A} (refused n p) (done a) → ⊥
refused-done e = cc

pub some-injective : {A : Type 0} {a b : A} → ◌≡◌ {A = Option A} (Some a) (Some b) → a ≡ b
some-injective e = cc

pub none-some : {A : Type 0} {a : A} → ◌≡◌ {A = Option A} None (Some a) → ⊥
none-some e = cc

module _ {A B : Type 0} where
  pub after : {C : Type 0} (m : Outcome A) (f : A → Outcome B) (b : B) → (m >>= f) ≡ done b → ((a : A) → m ≡ done a → f a ≡ done b → C) → C
  after (done a) f b e k = k a refl e
  after (refused n p) f b e k = cc

module _ {A : Type 0} where
  pub some_of : (n : Refusal) (p : ℕ) (o : Option A) (a : A) → or_refuse n p o ≡ done a → o ≡ Some a
  some_of n p (Some b) a e = cc
  some_of n p None a e = cc

module _ {A B : Type 0} where
  pub after-some : {C : Type 0} (n : Refusal) (p : ℕ) (o : Option A) (f : A → Outcome B) (b : B) → (or_refuse n p o >>= f) ≡ done b → ((a : A) → o ≡ Some a → f a ≡ done b → C) → C
  after-some n p o f b e k = after (or_refuse n p o) f b e (λ a h. k a (some_of n p o a h))

pub fits-of : (p : ℕ) (o : Option Value) (v : Value) → fitting p o ≡ done v → o ≡ Some v
fits-of p (Some w) v e = cc
fits-of p None v e = cc

pub whole_of : (p : ℕ) (o : Option ℤ) (k : ℤ) → whole_number p o ≡ done k → o ≡ Some k
whole_of p (Some j) k e = cc
whole_of p None k e = cc

pub check-of : (n : Refusal) (p : ℕ) (t : Bool) (u : Unit {0}) → check n p t ≡ done u → t ≡ true
check-of n p true u e = refl
check-of n p false u e = cc

module _ {B : Type 0} where
  pub after-fits : {C : Type 0} (p : ℕ) (o : Option Value) (f : Value → Outcome B) (b : B) → (fitting p o >>= f) ≡ done b → ((v : Value) → o ≡ Some v → f v ≡ done b → C) → C
  after-fits p o f b e k = after (fitting p o) f b e (λ v h. k v (fits-of p o v h))

  pub after-whole : {C : Type 0} (p : ℕ) (o : Option ℤ) (f : ℤ → Outcome B) (b : B) → (whole_number p o >>= f) ≡ done b → ((k : ℤ) → o ≡ Some k → f k ≡ done b → C) → C
  after-whole p o f b e k = after (whole_number p o) f b e (λ j h. k j (whole_of p o j h))

  pub after_check : {C : Type 0} (n : Refusal) (p : ℕ) (t : Bool) (f : Unit {0} → Outcome B) (b : B) → (check n p t >>= f) ≡ done b → (t ≡ true → f tt ≡ done b → C) → C
  after_check n p t f b e k = after (check n p t) f b e (λ u h. k (check-of n p t u h))
