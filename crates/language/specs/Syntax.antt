-- Document 01, "Grammar": what a read text is, as trees. Names are numbers, in the order of their declaration. Each node that can
-- refuse has its place, the byte of its token. A declared formula stands where its name was read, and a declared domain where
-- its name was subscripted, each with the places of the declaration.
use Rattle.std.specs.Prelude.{Bool, List, ℕ}
use Rattle.value.specs.declared.Value.{Value}

mutual
  pub data Formula : Type 0 where
    literal : Value → Formula
    index : ℕ → ℕ → Formula  -- name, place
    datum : ℕ → Spans → Formulas → ℕ → Formula  -- an integer or a real: name, declared domain, subscripts, place
    minus : Formula → Formula
    plus : Formula → Formula → ℕ → Formula  -- with the sign's place; a difference is the sum with `minus`
    times : Formula → Formula → ℕ → Formula
    sum : ℕ → Formula → Formula → Formula → ℕ → Formula  -- index, lower, upper, body, place of `SUM`

  pub data Formulas : Type 0 where
    none : Formulas
    more : Formula → Formulas → Formulas

  -- a domain: index, lower, upper, place of the index; `point` is that of a name without a domain
  pub data Spans : Type 0 where
    point : Spans
    span : ℕ → Formula → Formula → ℕ → Spans → Spans

-- A linear form is its signed terms (`true`: with a minus). A term is primaries, each before a `*`, then a variable or a sigma.
mutual
  pub data Form : Type 0 where
    end : Form
    also : Bool → Term → Form → Form

  pub data Term : Type 0 where
    factor : Formula → ℕ → Term → Term  -- with the place of its `*`
    variable : ℕ → Spans → Formulas → ℕ → Term  -- name, declared domain, subscripts, place
    sigma : ℕ → Formula → Formula → Form → ℕ → Term  -- index, lower, upper, body, place of `S`

-- `between` is `<=` with a floor behind the right side, which the left side must not fall below (document 02, #104)
pub data Relation : Type 0 where
  at_most at_least equal : Relation
  between : Formula → Relation

-- a left side: one variable without sign or factor, which makes the constraint a bound; or any other form
pub data Side : Type 0 where
  bare : ℕ → Spans → Formulas → ℕ → Side
  form : Form → Side

-- constraints differ by their place in the text
pub record Constraint : Type 0 where
  pub title : List ℕ
  pub place : ℕ
  pub left : Side
  pub relation : Relation
  pub right : Formula
  pub domain : Spans

-- what the declarations say of a name
pub data Sort : Type 0 where
  index : Sort
  integer : Spans → Sort
  real : Spans → Sort
  formula : Formula → Sort
  discrete : Spans → Sort
  continuous : Spans → Sort

pub record Name : Type 0 where
  pub spelling : List ℕ
  pub place : ℕ
  pub sort : Sort

-- the text before its data section
pub record Structure : Type 0 where
  pub title : List ℕ
  pub names : List Name
  pub minimize : Bool
  pub objective : Form
  pub constraints : List Constraint
