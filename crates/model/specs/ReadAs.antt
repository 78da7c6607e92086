-- What code tells of a model text that it read: tables for evaluation, and where the parts of the model stand.
use Rattle.std.specs.Prelude.{Err, Ok, Result, IfOk, ◌≡◌, List, ℕ, ◌+◌, ◌≤◌, take}
use Rattle.rules.specs.declared.Refused.{Refused}
use Rattle.language.specs.Outcome.{Outcome, done, refused}
use Rattle.language.specs.Model.{read_model}
use Rattle.language.specs.Model as language
use Rattle.tokens.specs.Stored.{spelling, rows_of}
use Rattle.tokens.specs.Scanner.Table.{Holds}
use Rattle.evaluator.specs.Steps.Names.{Resolves}
use Rattle.constraints.specs.declared.Record.{Record}
use Rattle.parser.specs.declared.Parsed.{Parsed}
use Rattle.parser.specs.Parsed.{StructureAt}
use Rattle.evaluator.specs.Ground.{Ground}
use Rattle.elements.specs.Placed.{Placed}
use Rattle.data.specs.declared.Given.{Given}
use Rattle.data.specs.Stores.{Stores}
use Rattle.data.specs.Sections.{ReadsData}
use Rattle.model.specs.declared.Model.{Model}
use Rattle.store.specs.Table.{Table}

-- the first n words of the table are the text's tokens
pub record Scans (s : List ℕ) (n : ℕ) (ts : List ℕ) : Type 0 where
  pub few : n ≤ 16385
  pub holds : Holds s (take n ts)

-- ---- what is answered

-- of n tokens, a structure and its data section
abbrev pub model_of : ℕ → Parsed → Given → Model
model_of n x w = record {
  tokens = n;
  title = x.title;
  names = x.names;
  minimize = x.minimize;
  objective = x.objective;
  constraints = x.constraints;
  section = w.place;
  bytes = w.length;
  given = w.count;
}

abbrev pub made : ℕ → Parsed → Result Given Refused → Result Model Refused
made n x (Ok w) = Ok (model_of n x w)
made n x (Err e) = Err e

-- the names of the structure x are resolved, and the data section is read from the position a on
pub record Finishes (s t ns : List ℕ) (n : ℕ) (x : Parsed) (a : ℕ) (r : Result Model Refused) (t' : List ℕ) (ds : Table) : Type 0 where
  pub section : Result Given Refused
  pub resolves : Resolves s (rows_of x.names ns) (take n t) (take n t')
  pub reads : ReadsData s (rows_of x.names ns) (take n t') a section ds
  pub model : r ≡ made n x section

-- what it tells of the structure
abbrev pub parsed_of : Model → Parsed
parsed_of r = record { title = r.title; names = r.names; minimize = r.minimize; objective = r.objective; constraints = r.constraints }

-- ---- the tables

-- ts are the text's tokens with the numbers of their names; the first rows of ns and cs tell of the names and constraints, those
-- of ds hold the data
pub record ModelAt (s ts ns : List ℕ) (cs : List Record) (ds : Table) (r : Model) (m : language.Model) : Type 0 where
  pub ground : Ground s (rows_of r.names ns) ts
  pub names : ground.names ≡ m.structure.names
  pub placed : Placed (rows_of r.names ns) m.structure.names
  pub structure : StructureAt s ts (parsed_of r) ns cs m.structure
  pub title : m.given.title ≡ spelling s (r.section + 1) r.bytes
  pub store : Stores ds r.given m.given.store

-- the same refusal, or the tables tell of the model
abbrev pub Reading : Outcome language.Model → List ℕ → List ℕ → List ℕ → List Record → Table → Result Model Refused → Type 0
Reading (done m) s ts ns cs ds (Ok r) = ModelAt s (take r.tokens ts) ns cs ds r m
Reading (done m) s ts ns cs ds (Err e) = ⊥
Reading (refused k q) s ts ns cs ds (Ok r) = ⊥
Reading (refused k q) s ts ns cs ds (Err e) = (k ≡ e.refusal) × (q ≡ e.place)

pub record ReadAs (s : List ℕ) (r : Result Model Refused) (ts ns : List ℕ) (cs : List Record) (ds : Table) : Type 0 where
  pub scanned : IfOk r (λ x. x.tokens ≤ 16385)
  pub named : IfOk r (λ x. x.names ≤ 64)
  pub constrained : IfOk r (λ x. x.constraints ≤ 64)
  pub outcome : Reading (read_model s) s ts ns cs ds r
