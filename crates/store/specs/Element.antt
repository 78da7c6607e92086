-- An element: at most four whole numbers, the subscripts of a datum or of a variable. Its numbers as a list, and
-- their bounds.
use Rattle.std.specs.Prelude.{List, ℕ, ◌≤◌, length, get_or, ℤ, pos, nat_abs}
use Rattle.rules.specs.Limits.{mantissa_limit, index_limit}
use Rattle.store.specs.declared.Element.{Element}
use Rattle.store.specs.Few.{items_of, one_more}

unfoldable pub list_of : Element → List ℤ
list_of e = items_of e.numbers

-- one number more, where there is room for it
unfoldable pub extended : List ℤ → ℤ → List ℤ
extended = one_more

-- at most four numbers, each no larger than a value's
pub record Subscripts (l : List ℤ) : Type 0 where
  pub few : length l ≤ index_limit
  pub small : (i : ℕ) → nat_abs (get_or l i (pos 0)) ≤ mantissa_limit

abbrev pub Bounded : Element → Type 0
Bounded e = Subscripts (list_of e)
