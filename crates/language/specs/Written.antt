-- Document 01, "The words of demand 3": written values, on the text's own terms, without limit of size and not by way of
-- gathered coefficients; constraints at their elements, and declared variables.
use Rattle.std.specs.Prelude.{◌≡◌, Bool, true, false, List, [], ◌∷◌, ◌++◌, ℤ, Option, Some, None}
use Rattle.language.specs.Listed.{At, In}
use Rattle.language.specs.Ranges.{range}
use Rattle.value.specs.Rational.{ℚ, 𝟎, ◌⊕◌, ◌⊗◌, neg, whole, floor, ceiling, ◌⊑◌}
use Rattle.value.specs.Number.{exactly}
use Rattle.value.specs.declared.Value.{Value}
use Rattle.language.specs.Scope.{Scope, bind, bound_to}
use Rattle.language.specs.Syntax.{Formula, Formulas, Spans, datum, minus, plus, times, sum, point, span, Form, Term, also, factor, variable, sigma}
use Rattle.language.specs.Syntax
use Rattle.language.specs.Model.{Model, start, Declaration, discretes, continuouses}
use Rattle.language.specs.Numbering.{Variable, Source}

unfoldable pub sum_over : (ℤ → ℚ) → List ℤ → ℚ
sum_over f [] = 𝟎
sum_over f (k ∷ ks) = f k ⊕ sum_over f ks

unfoldable pub negated_if : Bool → ℚ → ℚ
negated_if true q = neg q
negated_if false q = q

-- what a name without a value counts as; no accepted model has one
unfoldable pub whole_or0 : Option ℤ → ℚ
whole_or0 None = 𝟎
whole_or0 (Some k) = whole k

unfoldable pub value_or0 : Option Value → ℚ
value_or0 None = 𝟎
value_or0 (Some v) = exactly v

-- a run from a written lower to a written upper limit
unfoldable pub run_between : ℚ → ℚ → List ℤ
run_between p q = range (ceiling p) (floor q)

unfoldable mutual
  pub value : Formula → Scope → ℚ
  value (Syntax.literal v) s = exactly v
  value (Syntax.index i p) s = whole_or0 (bound_to i s.bound)
  value (datum i d fs p) s = value_or0 (s.known i (subscripts fs s))
  value (minus f) s = neg (value f s)
  value (plus f g p) s = value f s ⊕ value g s
  value (times f g p) s = value f s ⊗ value g s
  value (sum i f g h p) s = sum_over (λ k. value h (bind i k s)) (run_between (value f s) (value g s))

  pub subscripts : Formulas → Scope → List ℤ
  subscripts Syntax.none s = []
  subscripts (Syntax.more f fs) s = floor (value f s) ∷ subscripts fs s

-- under an assignment: a linear form's is the sum of its signed terms; a term's the product of its primaries and its variable's
-- assigned number or its sigma's value; a sigma's the sum of its body's values over its run, inner limits read anew each time
module _ (x : Variable → ℚ) where
  unfoldable mutual
    pub form_value : Form → Scope → ℚ
    form_value Syntax.end s = 𝟎
    form_value (also m t f) s = negated_if m (term_value t s) ⊕ form_value f s

    pub term_value : Term → Scope → ℚ
    term_value (factor f p t) s = value f s ⊗ term_value t s
    term_value (variable i d fs p) s = x (record { name = i; element = subscripts fs s })
    term_value (sigma i f g h p) s = sum_over (λ k. form_value h (bind i k s)) (run_between (value f s) (value g s))

-- ---- written domains

-- an element is in a domain where each index is neither below its written lower limit nor above its upper one
abbrev pub InDomain : Spans → Scope → List ℤ → Type 0
InDomain point s [] = Unit
InDomain point s (k ∷ e) = ⊥
InDomain (span i f g p d) s [] = ⊥
InDomain (span i f g p d) s (k ∷ e) = (value f s ⊑ whole k) × (whole k ⊑ value g s) × InDomain d (bind i k s) e

-- the scope at an element
unfoldable pub bind_all : Spans → List ℤ → Scope → Scope
bind_all point e s = s
bind_all (span i f g p d) [] s = s
bind_all (span i f g p d) (k ∷ e) s = bind_all d e (bind i k s)

-- ---- what is written

-- the scope of a constraint at an element
unfoldable pub scope_at : Model → Source → Scope
scope_at m o = bind_all o.constraint.domain o.element (start m)

-- A constraint is taken at each element of its domain, or once where it has none; constraints differ by their place in the text
pub record Written (m : Model) (o : Source) : Type 0 where
  pub listed : At m.structure.constraints o.ordinal o.constraint
  pub inside : InDomain o.constraint.domain (start m) o.element

-- A declared variable is a `discrete` or `continuous` name, with one element of its domain if it has one
pub record Declared (m : Model) (v : Variable) : Type 0 where
  pub declaration : Declaration
  pub listed : In (discretes m ++ continuouses m) declaration
  pub named : declaration.name ≡ v.name
  pub inside : InDomain declaration.domain (start m) v.element
