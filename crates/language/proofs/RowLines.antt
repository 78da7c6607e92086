-- The lines of a row, counted from 0: its own, and its floor's. They stand in a file of their own, since a must-fail edit mends them.
use mathlib.Core.List.{List, ◌∷◌}
use Prim.Native.Nat.{ℕ, suc}
use Rattle.language.specs.Numbering.{Entry}
use Rattle.language.specs.Listing.{Line, row_line, right_of, kind_of, low_lines}

abbrev pub row_line_of : ℕ → Entry → Line
row_line_of i e = row_line (suc i) (kind_of e.source.constraint.relation) (right_of e.fact) e.source.constraint.title e.source.element

abbrev pub row_lines_of : ℕ → Entry → List Line
row_lines_of i e = row_line_of i e ∷ low_lines (suc i) e.floor
