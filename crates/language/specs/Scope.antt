-- What a formula is read under: the data, and the bound indices, the last bound first.
use Rattle.std.specs.Prelude.{Bool, true, false, List, [], ◌∷◌, ℕ, eqb, ℤ, pos, negsuc, Option, Some, None}
use Rattle.value.specs.declared.Value.{Value}

pub record Binding : Type 0 where
  pub name : ℕ
  pub at : ℤ

pub record Scope : Type 0 where
  pub known : ℕ → List ℤ → Option Value
  pub bound : List Binding

unfoldable pub bind : ℕ → ℤ → Scope → Scope
bind i k s = record { known = s.known; bound = record { name = i; at = k } ∷ s.bound }

-- nothing bound: what a declared domain and a constraint's domain are read from
unfoldable pub unbound : Scope → Scope
unbound s = record { known = s.known; bound = [] }

unfoldable pub bound_to : ℕ → List Binding → Option ℤ
bound_to i [] = None
bound_to i (b ∷ l) = elim (eqb i b.name) [ true ↦ Some b.at | false ↦ bound_to i l ]

unfoldable pub same_whole : ℤ → ℤ → Bool
same_whole (pos a) (pos b) = eqb a b
same_whole (pos a) (negsuc b) = false
same_whole (negsuc a) (pos b) = false
same_whole (negsuc a) (negsuc b) = eqb a b

unfoldable pub same_element : List ℤ → List ℤ → Bool
same_element [] [] = true
same_element [] (k ∷ l) = false
same_element (j ∷ l) [] = false
same_element (j ∷ l) (k ∷ m) = elim (same_whole j k) [ true ↦ same_element l m | false ↦ false ]
