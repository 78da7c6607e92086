-- What is written of the span of a row: `span`, its number, its least and its greatest value, `-` for one that is open, and `idle`
-- or `-`; nothing for what is out of range.
use Rattle.std.specs.Prelude.{Bool, cond, List, [], ◌∷◌, ◌++◌, ℕ, Option}
use Rattle.rules.specs.Characters.{bytes}
use Rattle.value.specs.declared.Value.{Value}
use Rattle.language.specs.Listing.{fields}
use Rattle.listing.specs.Shown.{shown_natural, shown_or}

unfoldable pub shown_end : Option Value → List ℕ
shown_end u = shown_or (bytes "-") u

unfoldable pub idle_field : Bool → List ℕ
idle_field b = cond b (bytes "idle") (bytes "-")

unfoldable pub shown_span : ℕ → Option Value → Option Value → Bool → List ℕ
shown_span n l g b = bytes "span" ++ fields (shown_natural n ∷ shown_end l ∷ shown_end g ∷ idle_field b ∷ [])
