-- What the code's steps answer, tied to the reader of exports (`mps`): the text from a position on is what is left to read.
use Rattle.std.specs.Prelude.{◌≡◌, Bool, List, ℕ, ◌+◌, ◌-◌, ◌*◌, ◌≤◌, length, take, drop, Option, Some, None}
use Rattle.value.specs.declared.Value.{Value}
use Rattle.value.specs.Decimal.{Valid}
use Rattle.value.specs.Printed.{Written}
use Rattle.lexer.specs.Text.{front, behind}
use Rattle.language.specs.Valid.{ValidIfAny}
use Rattle.mps.specs.Sheet.{Column, Bounds}
use Rattle.mps.specs.Reading.{Read, Reader, strip, in_line, less_rows, equal_rows, Kinds}
use Rattle.importer.specs.Sections.{opening, columns_bytes, read_matrix, matrix_bytes}
use Rattle.importer.specs.declared.RowsRead.{RowsRead}
use Rattle.importer.specs.declared.ColumnsRead.{ColumnsRead}
use Rattle.importer.specs.declared.MatrixRead.{MatrixRead}
use Rattle.importer.specs.declared.Limits.{Limits}
use Rattle.importer.specs.declared.Count.{Count}

-- ---- a word that was awaited

abbrev pub rest_of : List ℕ → Option ℕ → Option (List ℕ)
rest_of text (Some n) = Some (drop n text)
rest_of text None = None

abbrev pub MoveInside : List ℕ → Option ℕ → Type 0
MoveInside text (Some n) = n ≤ length text
MoveInside text None = Unit {0}

pub record Strips (w text : List ℕ) (at : ℕ) (r : Option ℕ) : Type 0 where
  pub is : strip w (drop at text) ≡ rest_of text r
  pub inside : MoveInside text r

-- ---- a value

-- the line that position `at` stands in ends at r
pub record LineEnds (text : List ℕ) (at r : ℕ) : Type 0 where
  pub low : at ≤ r
  pub high : r ≤ length text
  pub run : take (r - at) (drop at text) ≡ front in_line (drop at text)
  pub rest : drop r text ≡ behind in_line (drop at text)

abbrev pub read_of : List ℕ → Option (Value × ℕ) → Option (Read Value)
read_of text (Some (v, n)) = Some (record { what = v; rest = drop n text })
read_of text None = None

abbrev pub FoundInside : List ℕ → Option (Value × ℕ) → Type 0
FoundInside text (Some (v, n)) = Valid v × (n ≤ length text)
FoundInside text None = Unit {0}

pub record Finds (m : Reader Value) (text : List ℕ) (at : ℕ) (r : Option (Value × ℕ)) : Type 0 where
  pub is : m (drop at text) ≡ read_of text r
  pub inside : FoundInside text r

-- ---- rows

-- the rows of `<=` and `>=`: whether they have floors is what the list starts with
pub record Lists (text : List ℕ) (at : ℕ) (r : Count) (floors : List Bool) : Type 0 where
  pub is : less_rows 512 0 (drop at text) ≡ record { what = take r.rows floors; rest = drop r.at text }
  pub few : r.rows ≤ 512
  pub size : 512 ≤ length floors
  pub inside : r.at ≤ length text

pub record Counts (text : List ℕ) (at from limit : ℕ) (r : Count) : Type 0 where
  pub is : equal_rows limit from (drop at text) ≡ record { what = r.rows; rest = drop r.at text }
  pub few : r.rows ≤ limit
  pub inside : r.at ≤ length text

abbrev pub kinds_of : List ℕ → List Bool → Option RowsRead → Option (Read Kinds)
kinds_of text floors (Some x) = Some (record { what = record { less = take x.less floors; equal = x.equal }; rest = drop x.next text })
kinds_of text floors None = None

abbrev pub OpeningInside : List ℕ → List Bool → Option RowsRead → Type 0
OpeningInside text floors (Some x) = (x.next ≤ length text) × (x.less + x.equal ≤ 512) × (512 ≤ length floors)
OpeningInside text floors None = Unit {0}

pub record Opens (text : List ℕ) (r : Option RowsRead) (floors : List Bool) : Type 0 where
  pub is : opening text ≡ kinds_of text floors r
  pub inside : OpeningInside text floors r

-- ---- what is written of what is read: from position `at` on, at a place of the output

pub record Walked {A : Type 0} (m : Reader A) (f : A → List ℕ) (text : List ℕ) (at : ℕ) (out : List ℕ) (place n p : ℕ) (out' : List ℕ) : Type 0 where
  pub what : A
  pub is : m (drop at text) ≡ Some (record { what = what; rest = drop n text })
  pub written : Written out place (f what) p out'

abbrev pub WalksAs : {A : Type 0} → Reader A → (A → List ℕ) → List ℕ → ℕ → List ℕ → ℕ → Option (ℕ × ℕ) → List ℕ → Type 0
WalksAs m f text at out place (Some (n, p)) out' = Walked m f text at out place n p out'
WalksAs m f text at out place None out' = m (drop at text) ≡ None

-- at most so many bytes
abbrev pub StepInside : List ℕ → ℕ → ℕ → Option (ℕ × ℕ) → Type 0
StepInside text place most (Some (n, p)) = (n ≤ length text) × (p ≤ place + most)
StepInside text place most None = Unit {0}

pub record Walks {A : Type 0} (m : Reader A) (f : A → List ℕ) (most : ℕ) (text : List ℕ) (at : ℕ) (out : List ℕ) (place : ℕ) (r : Option (ℕ × ℕ)) (out' : List ℕ) : Type 0 where
  pub is : WalksAs m f text at out place r out'
  pub inside : StepInside text place most r

-- ---- columns, counted

pub record WalkedColumns (m : Reader (List Column)) (j : ℕ) (text : List ℕ) (at : ℕ) (out : List ℕ) (place n p k : ℕ) (out' : List ℕ) : Type 0 where
  pub walked : Walked m (columns_bytes j) text at out place n p out'
  pub count : length walked.what ≡ k

abbrev pub ColumnsAs : Reader (List Column) → ℕ → List ℕ → ℕ → List ℕ → ℕ → Option ColumnsRead → List ℕ → Type 0
ColumnsAs m j text at out place (Some x) out' = WalkedColumns m j text at out place x.next x.place x.columns out'
ColumnsAs m j text at out place None out' = m (drop at text) ≡ None

abbrev pub ColumnsInside : List ℕ → ℕ → ℕ → Option ColumnsRead → Type 0
ColumnsInside text place limit (Some x) = (x.next ≤ length text) × (x.columns ≤ limit) × (x.place ≤ place + 131328 * x.columns)
ColumnsInside text place limit None = Unit {0}

-- from variable j on, at most so many
pub record WalksColumns (m : Reader (List Column)) (j limit : ℕ) (text : List ℕ) (at : ℕ) (out : List ℕ) (place : ℕ) (r : Option ColumnsRead) (out' : List ℕ) : Type 0 where
  pub is : ColumnsAs m j text at out place r out'
  pub inside : ColumnsInside text place limit r

pub record WalkedMatrix (bs : List Bool) (rows : ℕ) (text : List ℕ) (at : ℕ) (out : List ℕ) (place n p d v : ℕ) (out' : List ℕ) : Type 0 where
  pub walked : Walked (read_matrix bs rows) matrix_bytes text at out place n p out'
  pub discrete : length walked.what.discrete ≡ d
  pub variables : length walked.what.discrete + length walked.what.continuous ≡ v

abbrev pub MatrixAs : List Bool → ℕ → List ℕ → ℕ → List ℕ → ℕ → Option MatrixRead → List ℕ → Type 0
MatrixAs bs rows text at out place (Some x) out' = WalkedMatrix bs rows text at out place x.next x.place x.discrete x.total out'
MatrixAs bs rows text at out place None out' = read_matrix bs rows (drop at text) ≡ None

abbrev pub MatrixInside : List ℕ → Option MatrixRead → Type 0
MatrixInside text (Some x) = (x.next ≤ length text) × (x.total ≤ 512)
MatrixInside text None = Unit {0}

pub record WalksMatrix (bs : List Bool) (rows : ℕ) (text : List ℕ) (at : ℕ) (out : List ℕ) (place : ℕ) (r : Option MatrixRead) (out' : List ℕ) : Type 0 where
  pub is : MatrixAs bs rows text at out place r out'
  pub inside : MatrixInside text r

-- ---- bounds

abbrev pub bounds_of : List ℕ → Option Limits → Option (Read Bounds)
bounds_of text (Some x) = Some (record { what = record { lower = x.lower; upper = x.upper }; rest = drop x.next text })
bounds_of text None = None

abbrev pub LimitsInside : List ℕ → Option Limits → Type 0
LimitsInside text (Some x) = Valid x.lower × ValidIfAny x.upper × (x.next ≤ length text)
LimitsInside text None = Unit {0}

pub record FindsBounds (m : Reader Bounds) (text : List ℕ) (at : ℕ) (r : Option Limits) : Type 0 where
  pub is : m (drop at text) ≡ bounds_of text r
  pub inside : LimitsInside text r

-- ---- an upper bound or a floor

abbrev pub end_in : List ℕ → Option (Option Value × ℕ) → Option (Read (Option Value))
end_in text (Some (u, n)) = Some (record { what = u; rest = drop n text })
end_in text None = None

abbrev pub EndInside : List ℕ → Option (Option Value × ℕ) → Type 0
EndInside text (Some (u, n)) = ValidIfAny u × (n ≤ length text)
EndInside text None = Unit {0}

pub record FindsEnd (m : Reader (Option Value)) (text : List ℕ) (at : ℕ) (r : Option (Option Value × ℕ)) : Type 0 where
  pub is : m (drop at text) ≡ end_in text r
  pub inside : EndInside text r
