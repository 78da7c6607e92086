-- A property of every entry of a list.
use Rattle.std.specs.Prelude.{List, [], ◌∷◌}

module _ {A : Type 0} (P : A → Type 0) where
  abbrev pub All : List A → Type 0
  All [] = Unit
  All (a ∷ l) = P a × All l
