-- The places of declared names: word 0 of a name's row is the place that the definition gives it.
use Rattle.std.specs.Prelude.{◌≡◌, List, ℕ, Some, slice_get}
use Rattle.language.specs.Syntax.{Name}
use Rattle.evaluator.specs.Steps.Names.{row_word}

pub record Placed (ns : List ℕ) (names : List Name) : Type 0 where
  pub at : (i : ℕ) (x : Name) → slice_get names i ≡ Some x → x.place ≡ row_word ns i 0
