-- The bounds that are stated for each variable: the largest lower one and the smallest upper one, each if one is stated.
use Rattle.std.specs.Prelude.{◌≡◌, Bool, true, false, cond, ◌&&◌, List, [], ◌∷◌, ℕ, ◌<◌, eqb, get_or, set, Option, Some, None}
use Rattle.value.specs.declared.Value.{Value}
use Rattle.value.specs.Decimal.{Valid, is_at_most, in_range}
use Rattle.language.specs.Syntax.{Relation, at_most, at_least, equal, between}
use Rattle.language.specs.All.{All}
use Rattle.language.specs.Numbering.{Entry, picked, extreme, is_at_least, lower_at, upper_at}
use Rattle.store.specs.Packed.{unpacked}
use Rattle.rows.specs.declared.Bound.{Bound}

-- what is stated for variable j, in text order
unfoldable pub lowers_of : List Entry → ℕ → List Value
lowers_of es j = picked (λ e. lower_at e.source.constraint.relation e.fact e.floor j) es

unfoldable pub uppers_of : List Entry → ℕ → List Value
uppers_of es j = picked (λ e. upper_at e.source.constraint.relation e.fact j) es

-- the one that is kept
unfoldable pub kept_of : (Value → Value → Bool) → List Value → Option Value
kept_of le [] = None
kept_of le (v ∷ l) = Some (extreme le v l)

abbrev pub BoundTable : Type 0
BoundTable = List Bound

-- what a variable has where none is stated, and where a table has no such variable
abbrev pub unstated : Bound
unstated = record { lower = None; upper = None }

unfoldable pub nth_bound : BoundTable → ℕ → Bound
nth_bound b j = get_or b j unstated

-- the bounds of n variables
pub record BoundsHeld (b : BoundTable) (n : ℕ) (es : List Entry) : Type 0 where
  pub lower : (j : ℕ) → j < n → (nth_bound b j).lower ≡ kept_of is_at_most (lowers_of es j)
  pub upper : (j : ℕ) → j < n → (nth_bound b j).upper ≡ kept_of is_at_least (uppers_of es j)
  pub valid_lower : (j : ℕ) → j < n → All Valid (lowers_of es j)
  pub valid_upper : (j : ℕ) → j < n → All Valid (uppers_of es j)

-- ---- one bound more

-- does the old bound give way to the new one? Of lower bounds the larger is kept, of upper ones the smaller
unfoldable pub gives_way : Bool → Value → Value → Bool
gives_way true u v = cond (in_range u && in_range v) (is_at_most u v) false
gives_way false u v = cond (in_range v && in_range u) (is_at_most v u) false

-- the bound after v is stated
unfoldable pub stated_value : Bool → Option Value → Value → Value
stated_value larger None v = v
stated_value larger (Some u) v = cond (gives_way larger u v) v u

-- the same if v is a bound of this kind
unfoldable pub stated_if : Bool → Bool → Option Value → Value → Option Value
stated_if larger b o v = cond b (Some (stated_value larger o v)) o

abbrev pub both_stated : Bound → Bool → Bool → Value → Bound
both_stated x lower upper v = record { lower = stated_if true lower x.lower v; upper = stated_if false upper x.upper v }

-- v stated for variable j, as a lower bound, as an upper one, or as both
unfoldable pub bound_stated : BoundTable → ℕ → Bool → Bool → Value → BoundTable
bound_stated t j lower upper v = set t j (both_stated (nth_bound t j) lower upper v)

-- the floor of a word, 0 for none, stated as a lower bound of variable j
unfoldable pub floor_stated : BoundTable → ℕ → ℕ → BoundTable
floor_stated t j w = cond (eqb w 0) t (bound_stated t j true false (unpacked w))

-- what a relation states by its right side
abbrev pub states_lower : Relation → Bool
states_lower at_most = false
states_lower at_least = true
states_lower equal = true
states_lower (between h) = false

abbrev pub states_upper : Relation → Bool
states_upper at_most = true
states_upper at_least = false
states_upper equal = true
states_upper (between h) = true
