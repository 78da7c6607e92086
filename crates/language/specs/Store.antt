-- Document 01, "Meaning" and "Order": the store of the data, what a portion's runs and numbers do with it, and missing data.
use Rattle.std.specs.Prelude.{Bool, true, false, ◌&&◌, not, List, [], ◌∷◌, ℕ, zero, suc, eqb, ltb, length, ℤ, pos, Option, Some, None}
use Rattle.rules.specs.declared.Refusal.TheVariants.{Missing, Full}
use Rattle.language.specs.Outcome.{Outcome, done, ◌>>=◌, check}
use Rattle.rules.specs.Limits.{data_limit}
use Rattle.value.specs.declared.Value.{Value}
use Rattle.language.specs.Syntax.{Name, Sort, Spans, point, span}
use Rattle.language.specs.Syntax
use Rattle.language.specs.Scope.{Scope, bind, same_element}
use Rattle.language.specs.Evaluation.{whole_at, limits_of, run_of, eval, within, over, is_none}

-- ---- the store

pub record Datum : Type 0 where
  pub name : ℕ
  pub element : List ℤ
  pub value : Value

-- every number accepted, the last one first
abbrev pub Store : Type 0
Store = List Datum

unfoldable pub stored : Store → ℕ → List ℤ → Option Value
stored [] i ks = None
stored (x ∷ st) i ks = elim (eqb x.name i && same_element x.element ks) [ true ↦ Some x.value | false ↦ stored st i ks ]

-- the data so far, and nothing bound
unfoldable pub scope_of : Store → Scope
scope_of st = record { known = stored st; bound = [] }

-- ---- a portion

-- a portion's name: its number and place, whether it is an integer, its declared domain
pub record Portion : Type 0 where
  pub name : ℕ
  pub place : ℕ
  pub whole : Bool
  pub domain : Spans

unfoldable pub portion_by : ℕ → ℕ → Sort → Option Portion
portion_by i p Syntax.index = None
portion_by i p (Syntax.integer d) = Some (record { name = i; place = p; whole = true; domain = d })
portion_by i p (Syntax.real d) = Some (record { name = i; place = p; whole = false; domain = d })
portion_by i p (Syntax.formula f) = None
portion_by i p (Syntax.discrete d) = None
portion_by i p (Syntax.continuous d) = None

-- what each position is bound to by now
abbrev pub Bound : Type 0
Bound = List (Option ℤ)

unfoldable pub set_at : ℕ → ℤ → Bound → Bound
set_at j k [] = []
set_at zero k (x ∷ b) = Some k ∷ b
set_at (suc j) k (x ∷ b) = x ∷ set_at j k b

-- the element, once all positions are bound
unfoldable pub element_of : Bound → List ℤ
element_of [] = []
element_of (Some k ∷ b) = k ∷ element_of b
element_of (None ∷ b) = pos 0 ∷ element_of b

abbrev pub bind_if : ℕ → Option ℤ → Scope → Scope
bind_if i None s = s
bind_if i (Some k) s = bind i k s

-- the run of position j: its own declared limits, which see the earlier positions that are bound by now (decision 32)
unfoldable pub position_run : Spans → Bound → ℕ → Scope → Outcome (List ℤ)
position_run point b j s = done []
position_run (span i f g p d) [] j s = done []
position_run (span i f g p d) (x ∷ b) zero s = do
  l ← limits_of (eval f s) (eval g s)
  run_of l i s p
position_run (span i f g p d) (x ∷ b) (suc j) s = position_run d b j (bind_if i x s)

-- ---- one number

unfoldable pub whole_if : Bool → ℕ → Value → Outcome (Unit {0})
whole_if true p v = do
  _ ← whole_at p v
  done tt
whole_if false p v = done tt

-- For each number, whose sign stands at p: 8, 9 (at the portion's name), 10 if given twice, 6 (data elements, scalars too);
-- decisions 34, 39
unfoldable pub accept : Portion → List ℤ → ℕ → Value → Store → Outcome Store
accept x e p v st = do
  _ ← whole_if x.whole p v
  _ ← within x.domain e (scope_of st) x.place
  _ ← check Missing p (is_none (stored st x.name e))
  _ ← check Full p (ltb (length st) data_limit)
  done (record { name = x.name; element = e; value = v } ∷ st)

-- ---- missing data, by declaration: 10 at the declared name (decision 40)

unfoldable pub is_given : ℕ → ℕ → Scope → List ℤ → Unit {0} → Outcome (Unit {0})
is_given i p s e u = check Missing p (not (is_none (s.known i e)))

-- each integer and real runs its declared domain with all tests of a run
unfoldable pub given_by : ℕ → ℕ → Sort → Scope → Outcome (Unit {0})
given_by i p Syntax.index s = done tt
given_by i p (Syntax.integer d) s = over d s (is_given i p) tt
given_by i p (Syntax.real d) s = over d s (is_given i p) tt
given_by i p (Syntax.formula f) s = done tt
given_by i p (Syntax.discrete d) s = done tt
given_by i p (Syntax.continuous d) s = done tt

-- the names from number i on
unfoldable pub all_given : ℕ → List Name → Scope → Outcome (Unit {0})
all_given i [] s = done tt
all_given i (x ∷ xs) s = do
  _ ← given_by i x.place x.sort s
  all_given (suc i) xs s
