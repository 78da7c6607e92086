-- Every discrete name stands before every continuous one.
use Rattle.std.specs.Prelude.{◌≡◌, List, ℕ, ◌<◌, Some, slice_get}
use Rattle.language.specs.Syntax.{Name, Spans}
use Rattle.language.specs.Model.{as_discrete, as_continuous}

pub record InOrder (names : List Name) : Type 0 where
  pub earlier : (i j : ℕ) (x y : Name) (d e : Spans) → slice_get names i ≡ Some x → as_discrete x.sort ≡ Some d
      → slice_get names j ≡ Some y → as_continuous y.sort ≡ Some e → i < j
