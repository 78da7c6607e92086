-- What code answers for a formula of one token: where it gives a value, the walk gives the same; else it says nothing.
use Rattle.std.specs.Prelude.{◌≡◌, None, Ok, Option, Result, Some, false, List, ℕ}
use Rattle.rules.specs.declared.Refused.{Refused}
use Rattle.value.specs.declared.Value.{Value}
use Rattle.store.specs.declared.Element.{Element}
use Rattle.evaluator.specs.declared.steps.scope.Scope.{Scope as Held}
use Rattle.evaluator.specs.declared.steps.names.Listed.{Listed}
use Rattle.evaluator.specs.declared.steps.values.Limits.{Limits}
use Rattle.evaluator.specs.Steps.Passing.{Leads}
use Rattle.evaluator.specs.Cycle.{primary_in, part_in, entry_in, Values, NamedIs, EntryIs, WithinIs}
use Rattle.store.specs.Table.{Table}

-- the scope that a value is read under: the one that is bound, or any
abbrev pub BoundAs : Option Held → Held → Type 0
BoundAs (Some s) sc = s ≡ sc
BoundAs None sc = Unit {0}

-- a name read at p, wherever it stands
pub record NameValue (ds : Table) (given level : ℕ) (sc : Held) (at : ℕ) (x : Option Listed) (p : ℕ) (v : Value) (a : ℕ) : Type 0 where
  pub is : (ns ts : List ℕ) (n : ℕ) → NamedIs n p ns ts ds given level sc at x (Ok (v, a))

abbrev pub NameIs : Table → ℕ → ℕ → Held → ℕ → Option Listed → ℕ → Option (Value × ℕ) → Type 0
NameIs ds given level sc at x p (Some (v, a)) = NameValue ds given level sc at x p v a
NameIs ds given level sc at x p None = Unit {0}

pub record NameAlone (ds : Table) (given level : ℕ) (o : Option Held) (at : ℕ) (x : Option Listed) (p : ℕ) (r : Option (Value × ℕ)) : Type 0 where
  pub is : (sc : Held) → BoundAs o sc → NameIs ds given level sc at x p r

-- a primary, which is no sign
pub record TokenValue (ns ts : List ℕ) (ds : Table) (given level : ℕ) (sc : Held) (at : ℕ) (v : Value) (a : ℕ) : Type 0 where
  pub leads : Leads ts at (Ok (false, at))
  pub is : (n : ℕ) → Values (primary_in n) ns ts ds given level sc at (Ok (v, a))

abbrev pub TokenIs : List ℕ → List ℕ → Table → ℕ → ℕ → Held → ℕ → Option (Value × ℕ) → Type 0
TokenIs ns ts ds given level sc at (Some (v, a)) = TokenValue ns ts ds given level sc at v a
TokenIs ns ts ds given level sc at None = Unit {0}

pub record TokenAlone (ns ts : List ℕ) (ds : Table) (given level : ℕ) (o : Option Held) (at : ℕ) (r : Option (Value × ℕ)) : Type 0 where
  pub is : (sc : Held) → BoundAs o sc → TokenIs ns ts ds given level sc at r

-- a formula and the sign behind it, inside one of n brackets
abbrev pub SingleIs : ℕ → List ℕ → List ℕ → Table → ℕ → ℕ → Held → ℕ → Option (Value × ℕ) → Type 0
SingleIs n ns ts ds given level sc at (Some (v, a)) = Values (part_in n) ns ts ds given level sc at (Ok (v, a))
SingleIs n ns ts ds given level sc at None = Unit {0}

pub record FormulaAlone (ns ts : List ℕ) (ds : Table) (given level : ℕ) (o : Option Held) (at : ℕ) (r : Option (Value × ℕ)) : Type 0 where
  pub is : (n : ℕ) → (n ≡ 0 → ⊥) → (sc : Held) → BoundAs o sc → SingleIs n ns ts ds given level sc at r

-- ---- the same whatever is bound

-- an entry with these limits
pub record EntryLimits (ns ts : List ℕ) (ds : Table) (given level at : ℕ) (l : Limits) (a : ℕ) : Type 0 where
  pub number : ℕ
  pub place : ℕ
  pub is : (sc : Held) → EntryIs (entry_in 12) ns ts ds given level sc at (Ok ((record { number = number; place = place; limits = l }), a))

abbrev pub EntryFixed : List ℕ → List ℕ → Table → ℕ → ℕ → ℕ → Option (Limits × ℕ) → Type 0
EntryFixed ns ts ds given level at (Some (l, a)) = EntryLimits ns ts ds given level at l a
EntryFixed ns ts ds given level at None = Unit {0}

-- a domain test
abbrev pub WithinFixed : List ℕ → List ℕ → Table → ℕ → ℕ → ℕ → Element → ℕ → Option (Result Unit Refused) → Type 0
WithinFixed ns ts ds given level at e p (Some r) = WithinIs ns ts ds given level at e p r
WithinFixed ns ts ds given level at e p None = Unit {0}
