-- One number taken into the store.
use Rattle.std.specs.Prelude.{Err, Ok, Result, ◌≡◌, Bool, List, ℕ, length}
use Rattle.rules.specs.declared.Refused.{Refused}
use Rattle.rules.specs.declared.Refusal.TheVariants.{NotWhole}
use Rattle.value.specs.declared.Value.{Value}
use Rattle.value.specs.Decimal.{Valid}
use Rattle.language.specs.Outcome.{Outcome, done, refused, check}
use Rattle.language.specs.Reader.{Read}
use Rattle.language.specs.Store.{Store, Portion, whole_if, accept}
use Rattle.language.specs.Data.{read_number}
use Rattle.tokens.specs.Stored.{from, size}
use Rattle.store.specs.declared.Element.{Element}
use Rattle.store.specs.Element.{list_of, Subscripts}
use Rattle.data.specs.declared.running.Portion.{Portion as Worked}
use Rattle.data.specs.Stores.{Stores, StoreIs}
use Rattle.evaluator.specs.Ground.{Ground}
use Rattle.data.specs.Running.{Portrays}
use Rattle.store.specs.Table.{Table}

pub record Suits (whole : Bool) (v : Value) (r : Bool) : Type 0 where
  pub is : (p : ℕ) → whole_if whole p v ≡ check NotWhole p r

-- a portion, and an element of its domain's size
pub record Aims (s ns ts : List ℕ) (h : Worked) (e : Element) (x : Portion) : Type 0 where
  pub ground : Ground s ns ts
  pub portrays : Portrays s ts ground.names h x
  pub long : length (list_of e) ≡ size x.domain
  pub small : Subscripts (list_of e)

pub record Accepts (ns ts : List ℕ) (ds : Table) (given : ℕ) (h : Worked) (e : Element) (p : ℕ) (v : Value) (r : Result ℕ Refused) (ds' : Table) : Type 0 where
  pub is : (s : List ℕ) (x : Portion) → Aims s ns ts h e x → Valid v → (st : Store) → Stores ds given st → StoreIs (accept x (list_of e) p v st) ds' r

-- the same refusal, or what is left stands from the position on and the table holds the store
abbrev pub TakenIs : Outcome (Read Store) → List ℕ → List ℕ → Table → Result (ℕ × ℕ) Refused → Type 0
TakenIs (done x) s ts ds (Ok (a, n)) = (x.rest ≡ from s ts a) × Stores ds n x.what
TakenIs (done x) s ts ds (Err e) = ⊥
TakenIs (refused r q) s ts ds (Ok (a, n)) = ⊥
TakenIs (refused r q) s ts ds (Err e) = (r ≡ e.refusal) × (q ≡ e.place)

pub record Takes (ns ts : List ℕ) (ds : Table) (given at : ℕ) (h : Worked) (e : Element) (r : Result (ℕ × ℕ) Refused) (ds' : Table) : Type 0 where
  pub is : (s : List ℕ) (x : Portion) → Aims s ns ts h e x → (st : Store) → Stores ds given st → TakenIs (read_number x (list_of e) st (from s ts at)) s ts ds' r
