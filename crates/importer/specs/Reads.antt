-- What the reader of an export answers.
use Rattle.std.specs.Prelude.{List, ℕ, drop, Option, Some, None}
use Rattle.value.specs.Printed.{Written}
use Rattle.mps.specs.Sheet.{Sheet}
use Rattle.mps.specs.Report.{bare_of}
use Rattle.mps.specs.Reading.{Kinds, alone, sheet_in}
use Rattle.importer.specs.Sections.{sheet_from}

-- the report of the sheet that is read, as far as the output reaches; or nothing is read
abbrev pub ReadsAs : Option Sheet → List ℕ → Option ℕ → List ℕ → Type 0
ReadsAs (Some s) out (Some n) out' = Written out 0 (bare_of s) n out'
ReadsAs None out None out' = Unit {0}
ReadsAs (Some s) out None out' = ⊥
ReadsAs None out (Some n) out' = ⊥

pub record Reads (text out : List ℕ) (r : Option ℕ) (out' : List ℕ) : Type 0 where
  pub is : ReadsAs (sheet_in text) out r out'

-- from the columns on
pub record ReadsFrom (n : Kinds) (text : List ℕ) (at : ℕ) (out : List ℕ) (r : Option ℕ) (out' : List ℕ) : Type 0 where
  pub is : ReadsAs (alone (sheet_from n (drop at text))) out r out'
