-- A property P of all literals in the trees that are read.
use Rattle.std.specs.Prelude.{List}
use Rattle.value.specs.declared.Value.{Value}
use Rattle.language.specs.Syntax.{Formula, Formulas, Spans, Form, Term, Side, Relation, Constraint, Sort, Name, Structure, datum, minus, plus, times, sum, more, point, span, also, factor, variable, sigma, bare, form}
use Rattle.language.specs.Syntax
use Rattle.language.specs.All.{All}

module _ (P : Value → Type 0) where
  abbrev mutual
    pub AllFormula : Formula → Type 0
    AllFormula (Syntax.literal v) = P v
    AllFormula (Syntax.index i p) = Unit
    AllFormula (datum i d fs p) = AllSpans d × AllFormulas fs
    AllFormula (minus f) = AllFormula f
    AllFormula (plus f g p) = AllFormula f × AllFormula g
    AllFormula (times f g p) = AllFormula f × AllFormula g
    AllFormula (sum i f g h p) = AllFormula f × AllFormula g × AllFormula h

    pub AllFormulas : Formulas → Type 0
    AllFormulas Syntax.none = Unit
    AllFormulas (more f fs) = AllFormula f × AllFormulas fs

    pub AllSpans : Spans → Type 0
    AllSpans point = Unit
    AllSpans (span i f g p d) = AllFormula f × AllFormula g × AllSpans d

  abbrev mutual
    pub AllForm : Form → Type 0
    AllForm Syntax.end = Unit
    AllForm (also m t f) = AllTerm t × AllForm f

    pub AllTerm : Term → Type 0
    AllTerm (factor f p t) = AllFormula f × AllTerm t
    AllTerm (variable i d fs p) = AllSpans d × AllFormulas fs
    AllTerm (sigma i f g h p) = AllFormula f × AllFormula g × AllForm h

  abbrev pub AllSide : Side → Type 0
  AllSide (bare i d fs p) = AllSpans d × AllFormulas fs
  AllSide (form f) = AllForm f

  abbrev pub AllRelation : Relation → Type 0
  AllRelation Syntax.at_most = Unit
  AllRelation Syntax.at_least = Unit
  AllRelation Syntax.equal = Unit
  AllRelation (Syntax.between h) = AllFormula h

  abbrev pub AllConstraint : Constraint → Type 0
  AllConstraint c = AllSide c.left × AllFormula c.right × AllRelation c.relation × AllSpans c.domain

  abbrev pub AllSort : Sort → Type 0
  AllSort Syntax.index = Unit
  AllSort (Syntax.integer d) = AllSpans d
  AllSort (Syntax.real d) = AllSpans d
  AllSort (Syntax.formula f) = AllFormula f
  AllSort (Syntax.discrete d) = AllSpans d
  AllSort (Syntax.continuous d) = AllSpans d

  abbrev pub AllName : Name → Type 0
  AllName x = AllSort x.sort

  abbrev pub AllNames : List Name → Type 0
  AllNames names = All AllName names

  -- every literal of a structure
  abbrev pub AllLiterals : Structure → Type 0
  AllLiterals s = AllNames s.names × AllForm s.objective × All AllConstraint s.constraints
