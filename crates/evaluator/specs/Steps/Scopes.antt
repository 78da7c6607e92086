-- A scope as the code holds it, and the bindings of the definition.
use Rattle.std.specs.Prelude.{cond, List, [], ◌∷◌, map, reverse, ℕ, ◌≤◌, ltb, length, ℤ, nat_abs, Option}
use Rattle.rules.specs.Limits.{mantissa_limit, index_limit}
use Rattle.value.specs.declared.Value.{Value}
use Rattle.language.specs.Scope.{Binding, Scope}
use Rattle.store.specs.Few.{items_of}
use Rattle.evaluator.specs.declared.steps.scope.Binding.{Binding as HeldBinding}
use Rattle.evaluator.specs.declared.steps.scope.Scope.{Scope as Held}

abbrev pub binding : ℕ → ℤ → Binding
binding i k = record { name = i; at = k }

abbrev pub binding_of : HeldBinding → Binding
binding_of b = binding b.name b.at

-- the bound indices, the last one first
unfoldable pub bindings_of : Held → List Binding
bindings_of s = reverse (map binding_of (items_of s.bound))

-- one index more, where there is room for it
unfoldable pub bound_more : ℕ → ℤ → List Binding → List Binding
bound_more i k l = cond (ltb (length l) index_limit) (binding i k ∷ l) l

-- the scope of the definition
unfoldable pub scope_of : (ℕ → List ℤ → Option Value) → Held → Scope
scope_of known s = record { known = known; bound = bindings_of s }

-- every number that an index is bound to is a value's
abbrev pub AllSmall : List Binding → Type 0
AllSmall [] = Unit {0}
AllSmall (b ∷ l) = (nat_abs b.at ≤ mantissa_limit) × AllSmall l

pub record Small (s : Held) : Type 0 where
  pub small : AllSmall (bindings_of s)
