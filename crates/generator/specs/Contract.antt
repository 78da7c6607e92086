-- The contracts of the public entry points.
use Rattle.std.specs.Prelude.{◌≡◌, ◌↔◌, List, ◌++◌, ℕ, ◌-◌, length, take, replicate}
use Rattle.language.specs.Outcome.{Outcome, done}
use Rattle.language.specs.Listing.{lines_of, bytes_of_all}
use Rattle.language.specs.Answer.{Accepted, accepted, printing, listing, respond}
use Rattle.language.specs.Grammatical.{HasListing}
use Rattle.language.specs.Demand3.{Demand3}
use Rattle.mps.specs.Export.{mps_of}
use Rattle.mps.specs.Report.{bare_of, bare_lines}
use Rattle.mps.specs.Rereading.{IsExport, Rereads}
use Rattle.mps.specs.Problem.{sheet_of, export_of}
use Rattle.generator.specs.declared.Answer.{Answer}
use Rattle.generator.specs.declared.Entry.{Entry}
use Rattle.generator.specs.declared.Entry.TheVariants as entry

-- The answer a and the output's bytes are those of an outcome, for a buffer of n bytes
pub record Gives (n : ℕ) (o : Outcome (List ℕ)) (a : Answer) (out' : List ℕ) : Type 0 where
  pub number : a.number ≡ (respond n o).number
  pub place : a.place ≡ (respond n o).place
  pub size : a.length ≡ (respond n o).size
  pub bytes : out' ≡ (respond n o).buffer

-- ---- the listing

-- The answer is the definition's, for this text and a buffer of this length
abbrev pub Defined : List ℕ → List ℕ → Answer → List ℕ → Type 0
Defined text out a out' = Gives (length out) (listing text (length out)) a out'

-- Which texts are accepted, by the rules and not by a reader: number 0 exactly where the text's tokens write a model by the rules
-- of the grammar, its data and its problem are in order, and its listing fits
pub record Accepts (text out : List ℕ) (a : Answer) : Type 0 where
  pub accepts : (a.number ≡ 0) ↔ ((bytes : List ℕ) × HasListing text (length out) bytes)

-- Demand 3, of this text and of the lines that these bytes print: the output is the lines of the problem, and zeros behind them
pub record Meant (text out : List ℕ) (a : Answer) (out' : List ℕ) : Type 0 where
  pub demand : Demand3 text (length out)
  pub bytes : out' ≡ bytes_of_all (lines_of demand.found.model demand.found.problem) ++ replicate (length out - a.length) 0

-- where the number is 0
pub record Meaning (text out : List ℕ) (a : Answer) (out' : List ℕ) : Type 0 where
  pub meant : a.number ≡ 0 → Meant text out a out'

-- ---- the export

abbrev pub Exports : List ℕ → List ℕ → Answer → List ℕ → Type 0
Exports text out a out' = Gives (length out) (printing export_of text (length out)) a out'

-- Nothing of the problem is lost or changed on the way to the solver, but the objective's sign: the bytes are an export, zeros follow
-- them, and the sheet that a reader finds in them has the listing's `row`, `var` and `col` lines, without strings, names and index values
pub record Carried (text out : List ℕ) (a : Answer) (out' : List ℕ) : Type 0 where
  pub found : Accepted
  pub accepts : accepted text ≡ done found
  pub bytes : out' ≡ mps_of (sheet_of found.problem) ++ replicate (length out - a.length) 0
  pub reads : IsExport (take a.length out') (sheet_of found.problem)
  pub lines : bare_of (sheet_of found.problem) ≡ bare_lines (lines_of found.model found.problem)

-- where the number is 0
pub record Carries (text out : List ℕ) (a : Answer) (out' : List ℕ) : Type 0 where
  pub carried : a.number ≡ 0 → Carried text out a out'

-- ---- its reader

pub record ReadsBack (text out : List ℕ) (a : Answer) (out' : List ℕ) : Type 0 where
  pub rereads : Rereads text (length out) (λ o. Gives (length out) o a out')

-- ---- each by its name

-- P holds of the outcome of an entry point for a buffer of n bytes
abbrev pub OfEntry : Entry → List ℕ → ℕ → (Outcome (List ℕ) → Type 0) → Type 0
OfEntry entry.List text n P = P (listing text n)
OfEntry entry.Export text n P = P (printing export_of text n)
OfEntry entry.Read text n P = Rereads text n P

pub record Calls (e : Entry) (text out : List ℕ) (a : Answer) (out' : List ℕ) : Type 0 where
  pub of : OfEntry e text (length out) (λ o. Gives (length out) o a out')
