-- What is written of a row or a variable without strings, names and index values; nothing for what is out of range. A line with
-- them starts as one without.
use Rattle.std.specs.Prelude.{Bool, cond, List, [], ◌∷◌, ◌++◌, ℕ, Option}
use Rattle.rules.specs.Characters.{code, bytes}
use Rattle.value.specs.declared.Value.{Value}
use Rattle.value.specs.Printed.{shown}
use Rattle.language.specs.Listing.{Kind, kind_field, fields}
use Rattle.listing.specs.Shown.{shown_natural, shown_upper, tabbed}

unfoldable pub bare_row : ℕ → Kind → Value → List ℕ
bare_row n q v = bytes "row" ++ fields (shown_natural n ∷ kind_field q ∷ shown v ∷ [])

unfoldable pub bare_variable : ℕ → Bool → Value → Option Value → List ℕ
bare_variable n d l u = bytes "var" ++ fields (shown_natural n ∷ (cond d (code "D") (code "C") ∷ []) ∷ shown l ∷ shown_upper u ∷ [])

-- the same without the line's end
unfoldable pub row_start : ℕ → Kind → Value → List ℕ
row_start n q v = bytes "row" ++ tabbed (shown_natural n ∷ kind_field q ∷ shown v ∷ [])

unfoldable pub variable_start : ℕ → Bool → Value → Option Value → List ℕ
variable_start n d l u = bytes "var" ++ tabbed (shown_natural n ∷ (cond d (code "D") (code "C") ∷ []) ∷ shown l ∷ shown_upper u ∷ [])
