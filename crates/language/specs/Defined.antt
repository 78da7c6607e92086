-- Written values are total: an index that isn't bound and a name without a value count as 0, and a subscript is taken by its
-- floor (specs/Written). Here is said where nothing of that occurs: every index that is read is bound; every subscript is
-- whole; every name that is read lies in its declared domain and has a value. A limit need not be whole: a run goes through the
-- whole numbers between the two (decision 51).
use Rattle.std.specs.Prelude.{◌≡◌, List, [], ◌∷◌, ℕ, ℤ, Option, Some}
use Rattle.value.specs.Rational.{ℚ, whole, floor, ◌⊑◌}
use Rattle.language.specs.Listed.{At, In}
use Rattle.language.specs.Scope.{Scope, bind, unbound, bound_to}
use Rattle.language.specs.Syntax.{Formula, Formulas, Spans, Form, Term, Side, Constraint, Name, Sort, Relation, datum, minus, plus, times, sum, more, point, span, also, factor, variable, sigma, bare, form}
use Rattle.language.specs.Syntax
use Rattle.language.specs.Model.{Model, start}
use Rattle.language.specs.Numbering.{Variable, Source}
use Rattle.language.specs.Written.{value, subscripts, InDomain, scope_at, Written, Declared}

-- it is there
pub record Has {A : Type 0} (o : Option A) : Type 0 where
  pub it : A
  pub is : o ≡ Some it

-- its floor is the number itself
abbrev pub IsWhole : ℚ → Type 0
IsWhole q = q ≡ whole (floor q)

-- k is a number of the run from p to q
abbrev pub Between : ℚ → ℚ → ℤ → Type 0
Between p q k = (p ⊑ whole k) × (whole k ⊑ q)

-- ---- formulas

abbrev mutual
  pub Defined : Formula → Scope → Type 0
  Defined (Syntax.literal v) s = Unit
  Defined (Syntax.index i p) s = Has (bound_to i s.bound)
  Defined (datum i d fs p) s = DefinedSubscripts fs s × DefinedTest d (unbound s) (subscripts fs s) × InDomain d (unbound s) (subscripts fs s) × Has (s.known i (subscripts fs s))
  Defined (minus f) s = Defined f s
  Defined (plus f g p) s = Defined f s × Defined g s
  Defined (times f g p) s = Defined f s × Defined g s
  Defined (sum i f g h p) s =
      Defined f s × Defined g s × ((k : ℤ) → Between (value f s) (value g s) k → Defined h (bind i k s))

  pub DefinedSubscripts : Formulas → Scope → Type 0
  DefinedSubscripts Syntax.none s = Unit
  DefinedSubscripts (more f fs) s = Defined f s × IsWhole (value f s) × DefinedSubscripts fs s

  -- the limits that a domain test at an element reads
  pub DefinedTest : Spans → Scope → List ℤ → Type 0
  DefinedTest point s e = Unit
  DefinedTest (span i f g p d) s [] = Unit
  DefinedTest (span i f g p d) s (k ∷ e) = Defined f s × Defined g s × DefinedTest d (bind i k s) e

-- all limits that a walk through a domain reads
abbrev pub DefinedDomain : Spans → Scope → Type 0
DefinedDomain point s = Unit
DefinedDomain (span i f g p d) s =
    Defined f s × Defined g s × ((k : ℤ) → Between (value f s) (value g s) k → DefinedDomain d (bind i k s))

-- ---- linear forms; the variables that are named have P

module _ (P : Variable → Type 0) where
  abbrev pub DefinedVariable : ℕ → Spans → Formulas → Scope → Type 0
  DefinedVariable i d fs s =
      DefinedSubscripts fs s × DefinedTest d (unbound s) (subscripts fs s) × InDomain d (unbound s) (subscripts fs s) × P (record { name = i; element = subscripts fs s })

  abbrev mutual
    pub DefinedForm : Form → Scope → Type 0
    DefinedForm Syntax.end s = Unit
    DefinedForm (also m t f) s = DefinedTerm t s × DefinedForm f s

    pub DefinedTerm : Term → Scope → Type 0
    DefinedTerm (factor f p t) s = Defined f s × DefinedTerm t s
    DefinedTerm (variable i d fs p) s = DefinedVariable i d fs s
    DefinedTerm (sigma i f g h p) s =
        Defined f s × Defined g s × ((k : ℤ) → Between (value f s) (value g s) k → DefinedForm h (bind i k s))

  abbrev pub DefinedSide : Side → Scope → Type 0
  DefinedSide (bare i d fs p) s = DefinedVariable i d fs s
  DefinedSide (form f) s = DefinedForm f s

-- ---- a model

-- a declared domain; each of its elements has a value, if it is one of data
abbrev pub DefinedSort : ℕ → Sort → Scope → Type 0
DefinedSort i Syntax.index s = Unit
DefinedSort i (Syntax.integer d) s = DefinedDomain d s × ((e : List ℤ) → InDomain d s e → Has (s.known i e))
DefinedSort i (Syntax.real d) s = DefinedDomain d s × ((e : List ℤ) → InDomain d s e → Has (s.known i e))
DefinedSort i (Syntax.formula f) s = Unit
DefinedSort i (Syntax.discrete d) s = DefinedDomain d s
DefinedSort i (Syntax.continuous d) s = DefinedDomain d s

-- a floor that is written
abbrev pub DefinedFloor : Relation → Scope → Type 0
DefinedFloor Syntax.at_most s = Unit
DefinedFloor Syntax.at_least s = Unit
DefinedFloor Syntax.equal s = Unit
DefinedFloor (Syntax.between h) s = Defined h s

pub record DefinedModel (m : Model) : Type 0 where
  pub names : (i : ℕ) (x : Name) → At m.structure.names i x → DefinedSort i x.sort (start m)
  pub objective : DefinedForm (Declared m) m.structure.objective (start m)
  pub domains : (c : Constraint) → In m.structure.constraints c → DefinedDomain c.domain (start m)
  pub left : (o : Source) → Written m o → DefinedSide (Declared m) o.constraint.left (scope_at m o)
  pub right : (o : Source) → Written m o → Defined o.constraint.right (scope_at m o)
  pub floor : (o : Source) → Written m o → DefinedFloor o.constraint.relation (scope_at m o)
