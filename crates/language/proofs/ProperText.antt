-- Every line of an accepted text's listing is proper: values fit, numbers are small, and strings and names are visible bytes.
use Rattle.std.specs.Prelude.{Option, Some, None}
use mathlib.Core.Path.{◌≡◌, refl}
use mathlib.Core.Bool.{Bool, true, false, ◌&&◌, ◌||◌, not}
use mathlib.Core.Logic.{inl, inr}
use mathlib.Core.List.{List, [], ◌∷◌}
use Prim.Native.Nat.{ℕ, zero, suc, ◌+◌, ◌≤◌}
use native.Mathlib.Omega.{arith}
use lib.Dec.{eqb, leb}
use lib.ListN.{length, get_or, length-append}
use borrow.Author.Tests.{leb-true}
use Rattle.rules.specs.Limits.{mantissa_limit, variable_limit, row_limit}
use Rattle.value.specs.declared.Value.{Value}
use Rattle.value.specs.Decimal.{Valid, zero_value, is_zero}
use Rattle.value.specs.Literal.{is_digit}
use Rattle.value.proofs.Operations.{zero-valid}
use Rattle.value.proofs.Ranges.{and_left, and_right}
use Rattle.value.proofs.Reading.{literal-valid}
use Rattle.lexer.specs.Text.{is_small, in_name, in_string}
use Rattle.language.proofs.Listed.{at_map}
use Rattle.language.specs.All.{All}
use Rattle.language.proofs.All.{all-at, in_all, all_append, all_get_d, all-weaken}
use Rattle.language.specs.Outcome.{done}
use Rattle.language.specs.Syntax.{Name, Constraint}
use Rattle.language.specs.Syntax
use Rattle.language.specs.Model.{Model}
use Rattle.language.specs.Numbering.{Variable, Row, Fact, bound, row, Entry, keep, less_row, equal_row, Lp, less_rows, equal_rows, rows, generate}
use Rattle.language.specs.Listing.{col_line, ending_line, right_of, coefficients_of, low_lines, row_lines, var_lines, column_lines, col_lines, lines_of}
use Rattle.language.specs.Answer.{Accepted, accepted}
use Rattle.language.proofs.Answer.{accepted-of}
use Rattle.language.specs.Valid.{ValidRow, ValidVariable, ValidFact, ValidEntry, ValidIfAny, ValidProblem}
use Rattle.language.specs.Proper.{Visible, Text, Proper}
use Rattle.language.specs.Demand3.{source_of}
use Rattle.language.proofs.Shapes.{Spelled, Printable, tokens-shaped}
use Rattle.language.proofs.Facts.{DataTitle, ModelFacts, model-facts}
use Rattle.language.proofs.ValidProblem.{lower-valid, upper-valid}
use Rattle.language.proofs.ValidText.{accepted-valid}
use Rattle.language.proofs.Kept.{keeps}

-- ---- strings and names

visible-between : (b low high : ℕ) → 32 ≤ low → high ≤ 126 → (leb low b && leb b high) ≡ true → Visible b
visible-between b low high l h e =
    omega (arith, leb-true low b (and_left (leb low b) (leb b high) e), leb-true b high (and_right (leb low b) (leb b high) e))

string-visible : (b : ℕ) → in_string b ≡ true → Visible b
unfolding in_string
string-visible b e = visible-between b 32 126 (omega arith) (omega arith) (and_left (leb 32 b && leb b 126) (not (eqb b 123)) e)

name-visible : (b : ℕ) → in_name b ≡ true → Visible b
unfolding in_name is_small is_digit
name-visible b e = go (leb 97 b && leb b 122) refl e
  where
    go : (t : Bool) → (leb 97 b && leb b 122) ≡ t → (t || (leb 48 b && leb b 57)) ≡ true → Visible b
    go true s e = visible-between b 97 122 (omega arith) (omega arith) s
    go false s e = visible-between b 48 57 (omega arith) (omega arith) e

string-text : (s : List ℕ) → Printable s → Text s
string-text s h = all-weaken (λ b. in_string b ≡ true) Visible string-visible s h.bytes

name-text : (s : List ℕ) → Spelled s → Text s
name-text s h = all-weaken (λ b. in_name b ≡ true) Visible name-visible s h.bytes

data-title-text : (s : List ℕ) → DataTitle s → Text s
data-title-text s (inl e) = rw e tt
data-title-text s (inr h) = string-text s h

abbrev TextName : Name → Type 0
TextName x = Text x.spelling

abbrev TextConstraint : Constraint → Type 0
TextConstraint c = Text c.title

abbrev TextRow : Entry → Type 0
TextRow e = Text e.source.constraint.title

-- what a listing prints of its text
record Texts (m : Model) (p : Lp) : Type 0 where
  title : Text m.structure.title
  data-title : Text m.given.title
  names : All TextName m.structure.names
  titles : All TextRow (rows p)

-- a row's string is its constraint's
texts : (m : Model) (p : Lp) → ModelFacts Valid m → generate m ≡ done p → Texts m p
texts m p f e =
    record {
      title = string-text m.structure.title f.structure.title;
      data-title = data-title-text m.given.title f.title;
      names = all-weaken (λ x. Spelled x.spelling) TextName (λ x h. name-text x.spelling h) m.structure.names f.structure.names.spelled;
      titles = in_all TextRow (rows p) λ d n.
          let o = d.source in
          all-at TextConstraint m.structure.constraints o.ordinal o.constraint
          ((keeps m p e).row-numbers.of_number n.place o (at_map source_of (rows p) n.place d n.at)).written.listed
          (all-weaken (λ c. Printable c.title) TextConstraint (λ c h. string-text c.title h) m.structure.constraints f.structure.titles);
    }

-- ---- lines

pub right_of-valid : (f : Fact) → ValidFact f → Valid (right_of f)
right_of-valid (bound j v) h = zero-valid
right_of-valid (row r v) h = h.1

pub coefficients-valid : (f : Fact) → ValidFact f → ValidRow (coefficients_of f)
coefficients-valid (bound j v) h = tt
coefficients-valid (row r v) h = h.0

low_lines-proper : (n : ℕ) (w : Option Value) → n ≤ mantissa_limit → ValidIfAny w → All Proper (low_lines n w)
unfolding low_lines
low_lines-proper n None b h = tt
low_lines-proper n (Some v) b h = (record { row = b; floor = h }, tt)

row_lines-proper : (n : ℕ) (es : List Entry) → n + length es ≤ suc mantissa_limit → All ValidEntry es → All TextRow es → All Proper (row_lines n es)
unfolding row_lines
row_lines-proper n [] b h t = tt
row_lines-proper n (e ∷ es) b h t = (
  record { number = omega arith; right = right_of-valid e.fact h.0.fact; title = t.0; element = h.0.element },
  all_append Proper (low_lines n e.floor) _ (low_lines-proper n e.floor (omega arith) h.0.floor) (row_lines-proper (suc n) es (omega arith) h.1 t.1),
)

var_lines-proper : (names : List Name) (p : Lp) (j : ℕ) (vs : List Variable) → j + length vs ≤ mantissa_limit → All TextName names → All ValidEntry p.entries
    → All ValidVariable vs → All Proper (var_lines names p j vs)
unfolding var_lines
var_lines-proper names p j [] b t h k = tt
var_lines-proper names p j (v ∷ vs) b t h k = (
  record {
    number = omega arith;
    lower = lower-valid p.entries j h;
    upper = upper-valid p.entries j h;
    name = all_get_d TextName names v.name (record { spelling = []; place = 0; sort = Syntax.index }) t tt;
    element = k.0;
  },
  var_lines-proper names p (suc j) vs (omega arith) t h k.1,
)

column_lines-proper : (j n : ℕ) (es : List Entry) (o : Row) → suc j ≤ mantissa_limit → n + length es ≤ mantissa_limit → All ValidEntry es → ValidRow o
    → All Proper (column_lines j n es o)
unfolding column_lines
column_lines-proper j n [] o a b h k = (record { variable = a; row = omega arith; coefficient = all_get_d Valid o j zero_value k zero-valid }, tt)
column_lines-proper j n (e ∷ es) o a b h k = go (is_zero (get_or (coefficients_of e.fact) j zero_value)) (column_lines-proper j (suc n) es o a (omega arith) h.1 k)
  where
    go : (t : Bool) → All Proper (column_lines j (suc n) es o)
        → All Proper (elim t [ true ↦ column_lines j (suc n) es o | false ↦ col_line (suc j) n (get_or (coefficients_of e.fact) j zero_value) ∷ column_lines j (suc n) es o ])
    go true ih = ih
    go false ih = (
      record { variable = a; row = omega arith; coefficient = all_get_d Valid (coefficients_of e.fact) j zero_value (coefficients-valid e.fact h.0.fact) zero-valid },
      ih,
    )

col_lines-proper : (k j : ℕ) (es : List Entry) (o : Row) → j + k ≤ mantissa_limit → suc (length es) ≤ mantissa_limit → All ValidEntry es → ValidRow o
    → All Proper (col_lines k j es o)
unfolding col_lines
col_lines-proper zero j es o a b h v = tt
col_lines-proper (suc k) j es o a b h v =
    all_append Proper (column_lines j 1 es o) _ (column_lines-proper j 1 es o (omega arith) (omega arith) h v) (col_lines-proper k (suc j) es o (omega arith) b h v)

pub kept-all : {A : Type 0} (P : A → Type 0) (f : A → Bool) (l : List A) → All P l → All P (keep f l)
unfolding keep
kept-all {A} P f [] h = tt
kept-all {A} P f (a ∷ l) h = go (f a) (kept-all P f l h.1)
  where
    go : (t : Bool) → All P (keep f l) → All P (elim t [ true ↦ a ∷ keep f l | false ↦ keep f l ])
    go true ih = (h.0, ih)
    go false ih = ih

lines-proper : (m : Model) (p : Lp) → ValidProblem p → Texts m p → All Proper (lines_of m p)
unfolding lines_of less_rows equal_rows rows mantissa_limit variable_limit row_limit
lines-proper m p h t =
    let valid : All ValidEntry (rows p) =
    all_append ValidEntry (less_rows p) (equal_rows p) (kept-all ValidEntry less_row p.entries h.entries) (kept-all ValidEntry equal_row p.entries h.entries) in (
      record {
        discrete = omega (arith, h.few-discrete);
        variables = omega (arith, h.few-variables);
        less = omega (arith, h.few-rows, length-append (less_rows p) (equal_rows p));
        rows = omega (arith, h.few-rows);
        title = t.title;
        data-title = t.data-title;
      },
      all_append Proper (row_lines 1 (rows p)) _ (row_lines-proper 1 (rows p) (omega (arith, h.few-rows)) valid t.titles)
          (all_append Proper (var_lines m.structure.names p 0 p.variables) _
          (var_lines-proper m.structure.names p 0 p.variables (omega (arith, h.few-variables)) t.names h.entries h.variables)
          (all_append Proper (col_lines (length p.variables) 0 (rows p) p.objective) (ending_line ∷ [])
          (col_lines-proper (length p.variables) 0 (rows p) p.objective (omega (arith, h.few-variables)) (omega (arith, h.few-rows)) valid h.objective)
          (tt, tt))),
    )

pub accepted-proper : (text : List ℕ) (a : Accepted) → accepted text ≡ done a → All Proper (lines_of a.model a.problem)
accepted-proper text a e =
    let r = accepted-of text a e in
    lines-proper a.model a.problem (accepted-valid text a e)
    (texts a.model a.problem (model-facts Valid text a.model (tokens-shaped Valid literal-valid text) r.0) r.1)
