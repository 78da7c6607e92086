-- A model text, read: its structure and what its data section gives.
use Rattle.std.specs.Prelude.{List, [], ◌∷◌, ℕ, suc, Option, Some, None}
use Rattle.language.specs.Outcome.{Outcome, done, refused}
use Rattle.lexer.specs.Text.{tokens}
use Rattle.language.specs.Syntax.{Name, Sort, Spans, Structure}
use Rattle.language.specs.Syntax
use Rattle.language.specs.Reader.{Reader, Read, ◌>>=◌, give}
use Rattle.language.specs.Grammar.{structure}
use Rattle.language.specs.Scope.{Scope}
use Rattle.language.specs.Store.{scope_of}
use Rattle.language.specs.Data.{Given, read_data}

pub record Model : Type 0 where
  pub structure : Structure
  pub given : Given

-- `OPEN` to `CLOSE`, and nothing behind
unfoldable pub model : Reader Model
model = do
  s ← structure
  g ← read_data s.names
  give (record { structure = s; given = g })

abbrev pub what_of : {A : Type 0} → Outcome (Read A) → Outcome A
what_of (done r) = done r.what
what_of (refused n p) = refused n p

-- the text of a model: the first refusal of its tokens, its grammar or its data section, or the model
unfoldable pub read_model : List ℕ → Outcome Model
read_model text = what_of (model (tokens text))

-- all data, nothing bound
unfoldable pub start : Model → Scope
start m = scope_of m.given.store

-- ---- declared variables

-- a `discrete` or `continuous` name
pub record Declaration : Type 0 where
  pub name : ℕ
  pub domain : Spans
  pub place : ℕ

unfoldable pub as_discrete : Sort → Option Spans
as_discrete Syntax.index = None
as_discrete (Syntax.integer d) = None
as_discrete (Syntax.real d) = None
as_discrete (Syntax.formula f) = None
as_discrete (Syntax.discrete d) = Some d
as_discrete (Syntax.continuous d) = None

unfoldable pub as_continuous : Sort → Option Spans
as_continuous Syntax.index = None
as_continuous (Syntax.integer d) = None
as_continuous (Syntax.real d) = None
as_continuous (Syntax.formula f) = None
as_continuous (Syntax.discrete d) = None
as_continuous (Syntax.continuous d) = Some d

-- of the names from number i on, those of a sort, in the order of their declaration
unfoldable pub declared : (Sort → Option Spans) → ℕ → List Name → List Declaration
declared f i [] = []
declared f i (x ∷ xs) =
    elim (f x.sort) [ Some d ↦ record { name = i; domain = d; place = x.place } ∷ declared f (suc i) xs | None ↦ declared f (suc i) xs ]

unfoldable pub discretes : Model → List Declaration
discretes m = declared as_discrete 0 m.structure.names

unfoldable pub continuouses : Model → List Declaration
continuouses m = declared as_continuous 0 m.structure.names
