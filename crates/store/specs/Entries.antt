-- What a table holds, as lists that are searched from the front by name and element: data with their words, the newest first, and
-- variables by their number.
use Rattle.std.specs.Prelude.{◌≡◌, true, false, ◌&&◌, List, [], ◌∷◌, ℕ, ◌<◌, eqb, length, get_or, ℤ, Option, Some, None}
use Rattle.language.specs.Scope.{same_element}
use Rattle.language.specs.Numbering.{Variable, number_of}
use Rattle.store.specs.Element.{Subscripts}
use Rattle.store.specs.Key.{name_bound, key_of}
use Rattle.store.specs.Table.{Table, key_at, Sorted, row_of, lookup}

-- what has a key that is its own: a name below the bound, and an element
pub record Keyed (i : ℕ) (l : List ℤ) : Type 0 where
  pub named : i < name_bound
  pub subscripts : Subscripts l

-- ---- data

pub record Entry : Type 0 where
  pub name : ℕ
  pub element : List ℤ
  pub word : ℕ

unfoldable pub word_of : List Entry → ℕ → List ℤ → Option ℕ
word_of [] i l = None
word_of (x ∷ es) i l = elim (eqb x.name i && same_element x.element l) [ true ↦ Some x.word | false ↦ word_of es i l ]

-- n rows that hold the entries
pub record Holds (t : Table) (n : ℕ) (es : List Entry) : Type 0 where
  pub count : n ≡ length es
  pub sorted : Sorted t n
  pub agrees : (i : ℕ) (l : List ℤ) → Keyed i l → lookup t n (key_of i l) ≡ word_of es i l

-- ---- variables

abbrev pub variable_key : Variable → ℕ
variable_key v = key_of v.name v.element

-- n rows that hold the variables, each in the row of its number
pub record Numbered (t : Table) (n : ℕ) (vs : List Variable) : Type 0 where
  pub count : n ≡ length vs
  pub sorted : Sorted t n
  pub keys : (j : ℕ) (d : Variable) → j < n → key_at t j ≡ variable_key (get_or vs j d)
  pub agrees : (i : ℕ) (l : List ℤ) → Keyed i l → row_of t n (key_of i l) ≡ (number_of i l vs)
