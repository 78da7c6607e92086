-- What a reading or an evaluation gives: a value, or a refusal with its place (document 01, "Why a model comes back").
use Rattle.std.specs.Prelude.{Bool, true, false, ℕ, ℤ, Option, Some, None}
use Rattle.rules.specs.declared.Refusal.{Refusal}
use Rattle.rules.specs.declared.Refusal.TheVariants.{Unfit, NotWhole}
use Rattle.value.specs.declared.Value.{Value}

pub data Outcome (A : Type 0) : Type 0 where
  done : A → Outcome A
  refused : Refusal → ℕ → Outcome A

module _ {A B : Type 0} where
  infixl 1 ◌>>=◌
  abbrev pub ◌>>=◌ : Outcome A → (A → Outcome B) → Outcome B
  done a >>= f = f a
  refused n p >>= f = refused n p

module _ {A : Type 0} where
  abbrev pub or_refuse : Refusal → ℕ → Option A → Outcome A
  or_refuse n p (Some a) = done a
  or_refuse n p None = refused n p

-- a value that fits, or 5 at p
abbrev pub fitting : ℕ → Option Value → Outcome Value
fitting p (Some v) = done v
fitting p None = refused Unfit p

-- a whole number, or 8 at p
abbrev pub whole_number : ℕ → Option ℤ → Outcome ℤ
whole_number p (Some k) = done k
whole_number p None = refused NotWhole p

-- a test that must hold
abbrev pub check : Refusal → ℕ → Bool → Outcome (Unit {0})
check n p true = done tt
check n p false = refused n p
