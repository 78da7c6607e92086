-- What every line of a listing is: its values fit, its numbers and index numbers are no larger than a value's, and the bytes of
-- its strings and names are from 32 to 126.
use Rattle.std.specs.Prelude.{List, ℕ, ◌≤◌, ℤ, Option}
use Rattle.rules.specs.Limits.{mantissa_limit}
use Rattle.value.specs.declared.Value.{Value}
use Rattle.value.specs.Decimal.{Valid}
use Rattle.language.specs.All.{All}
use Rattle.language.specs.Valid.{SmallElement, ValidIfAny}
use Rattle.language.specs.Listing.{Line, lp_line, row_line, low_line, var_line, col_line, ending_line}

pub record Visible (b : ℕ) : Type 0 where
  pub least : 32 ≤ b
  pub most : b ≤ 126

-- a string or a name
abbrev pub Text : List ℕ → Type 0
Text s = All Visible s

pub record ProperFirst (a b c d : ℕ) (s t : List ℕ) : Type 0 where
  pub discrete : a ≤ mantissa_limit
  pub variables : b ≤ mantissa_limit
  pub less : c ≤ mantissa_limit
  pub rows : d ≤ mantissa_limit
  pub title : Text s
  pub data-title : Text t

pub record ProperRow (n : ℕ) (v : Value) (s : List ℕ) (e : List ℤ) : Type 0 where
  pub number : n ≤ mantissa_limit
  pub right : Valid v
  pub title : Text s
  pub element : SmallElement e

pub record ProperFloor (n : ℕ) (v : Value) : Type 0 where
  pub row : n ≤ mantissa_limit
  pub floor : Valid v

pub record ProperVariable (n : ℕ) (l : Value) (u : Option Value) (s : List ℕ) (e : List ℤ) : Type 0 where
  pub number : n ≤ mantissa_limit
  pub lower : Valid l
  pub upper : ValidIfAny u
  pub name : Text s
  pub element : SmallElement e

pub record ProperColumn (j i : ℕ) (v : Value) : Type 0 where
  pub variable : j ≤ mantissa_limit
  pub row : i ≤ mantissa_limit
  pub coefficient : Valid v

abbrev pub Proper : Line → Type 0
Proper (lp_line a b c d s t) = ProperFirst a b c d s t
Proper (row_line n q v s e) = ProperRow n v s e
Proper (low_line n v) = ProperFloor n v
Proper (var_line n d l u s e) = ProperVariable n l u s e
Proper (col_line j i v) = ProperColumn j i v
Proper ending_line = Unit
