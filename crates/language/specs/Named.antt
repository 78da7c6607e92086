-- Document 01, "Grammar": every name in the trees stands in the table, with the domain that is declared of it there and as
-- many subscripts as that has indices.
use Rattle.std.specs.Prelude.{◌≡◌, ◌⊎◌, List, ℕ}
use Rattle.language.specs.Syntax.{Formula, Formulas, Spans, Form, Term, Side, Relation, Constraint, Sort, Name, Structure, datum, minus, plus, times, sum, more, point, span, also, factor, variable, sigma, bare, form}
use Rattle.language.specs.Syntax
use Rattle.language.specs.Listed.{At}
use Rattle.language.specs.All.{All}

-- as many formulas as the domain has indices
abbrev pub AsMany : Spans → Formulas → Type 0
AsMany point Syntax.none = Unit
AsMany point (more f fs) = ⊥
AsMany (span i f g p d) Syntax.none = ⊥
AsMany (span i f g p d) (more h fs) = AsMany d fs

-- over a table of names
module _ (names : List Name) where
  -- name i is an integer or a real with domain d; or a variable
  pub record IsDatum (i : ℕ) (d : Spans) : Type 0 where
    pub entry : Name
    pub at : At names i entry
    pub sort : (entry.sort ≡ Syntax.integer d) ⊎ (entry.sort ≡ Syntax.real d)

  pub record IsVariable (i : ℕ) (d : Spans) : Type 0 where
    pub entry : Name
    pub at : At names i entry
    pub sort : (entry.sort ≡ Syntax.discrete d) ⊎ (entry.sort ≡ Syntax.continuous d)

  abbrev mutual
    pub Named : Formula → Type 0
    Named (Syntax.literal v) = Unit
    Named (Syntax.index i p) = Unit
    Named (datum i d fs p) = IsDatum i d × AsMany d fs × NamedDomain d × NamedSubscripts fs
    Named (minus f) = Named f
    Named (plus f g p) = Named f × Named g
    Named (times f g p) = Named f × Named g
    Named (sum i f g h p) = Named f × Named g × Named h

    pub NamedSubscripts : Formulas → Type 0
    NamedSubscripts Syntax.none = Unit
    NamedSubscripts (more f fs) = Named f × NamedSubscripts fs

    pub NamedDomain : Spans → Type 0
    NamedDomain point = Unit
    NamedDomain (span i f g p d) = Named f × Named g × NamedDomain d

  abbrev pub NamedVariable : ℕ → Spans → Formulas → Type 0
  NamedVariable i d fs = IsVariable i d × AsMany d fs × NamedDomain d × NamedSubscripts fs

  abbrev mutual
    pub NamedForm : Form → Type 0
    NamedForm Syntax.end = Unit
    NamedForm (also m t f) = NamedTerm t × NamedForm f

    pub NamedTerm : Term → Type 0
    NamedTerm (factor f p t) = Named f × NamedTerm t
    NamedTerm (variable i d fs p) = NamedVariable i d fs
    NamedTerm (sigma i f g h p) = Named f × Named g × NamedForm h

  abbrev pub NamedSide : Side → Type 0
  NamedSide (bare i d fs p) = NamedVariable i d fs
  NamedSide (form f) = NamedForm f

  -- a floor that is written
  abbrev pub NamedFloor : Relation → Type 0
  NamedFloor Syntax.at_most = Unit
  NamedFloor Syntax.at_least = Unit
  NamedFloor Syntax.equal = Unit
  NamedFloor (Syntax.between h) = Named h

  pub record NamedConstraint (c : Constraint) : Type 0 where
    pub left : NamedSide c.left
    pub right : Named c.right
    pub floor : NamedFloor c.relation
    pub domain : NamedDomain c.domain

  abbrev pub NamedSort : Sort → Type 0
  NamedSort Syntax.index = Unit
  NamedSort (Syntax.integer d) = NamedDomain d
  NamedSort (Syntax.real d) = NamedDomain d
  NamedSort (Syntax.formula f) = Named f
  NamedSort (Syntax.discrete d) = NamedDomain d
  NamedSort (Syntax.continuous d) = NamedDomain d

  abbrev pub NamedEntry : Name → Type 0
  NamedEntry x = NamedSort x.sort

pub record NamedStructure (s : Structure) : Type 0 where
  pub table : All (NamedEntry s.names) s.names
  pub objective : NamedForm s.names s.objective
  pub constraints : All (NamedConstraint s.names) s.constraints
