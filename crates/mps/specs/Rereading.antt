-- Request #101, the reader: which texts are exports, and what is answered to each text. No parser has to be believed: there is a sheet
-- whose export the text is, or there is none.
use Rattle.std.specs.Prelude.{◌≡◌, ◌⊎◌, List, ℕ}
use Rattle.rules.specs.declared.Refusal.TheVariants.{Misplaced}
use Rattle.language.specs.Outcome.{Outcome, refused}
use Rattle.language.specs.Answer.{fitted}
use Rattle.mps.specs.Sheet.{Sheet, Formed}
use Rattle.mps.specs.Export.{mps_of}
use Rattle.mps.specs.Report.{bare_of}

-- the text is the export of a sheet in document 01's form
pub record IsExport (text : List ℕ) (s : Sheet) : Type 0 where
  pub formed : Formed s
  pub bytes : mps_of s ≡ text

-- P holds of the outcome for a buffer of n bytes: the sheet's lines, with 11 against their own length; 3 at 0 for what is no export
-- (decisions 48 and 49)
pub record Rereads (text : List ℕ) (n : ℕ) (P : Outcome (List ℕ) → Type 0) : Type 0 where
  pub taken : (s : Sheet) → IsExport text s → P (fitted n (bare_of s))
  pub refuses : ((s : Sheet) → IsExport text s → ⊥) → P (refused Misplaced 0)
  pub decided : ((s : Sheet) × IsExport text s) ⊎ ((s : Sheet) → IsExport text s → ⊥)
