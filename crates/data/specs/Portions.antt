-- A portion from its name on: its head, and its numbers taken into the store.
use Rattle.std.specs.Prelude.{Result, ◌≡◌, Bool, true, false, List, [], ℕ, zero, suc, ◌<◌, length, take, Some, slice_get}
use Rattle.rules.specs.declared.Refused.{Refused}
use Rattle.language.specs.Syntax.{Name}
use Rattle.language.specs.Reader.{Reader, ◌>>=◌, give, demand, Used}
use Rattle.language.specs.Store.{Store, Portion, portion_by}
use Rattle.language.specs.Data.{bound_of, is_point, runs, subscripted_portion}
use Rattle.tokens.specs.Stored.{from, size, Shaped}
use Rattle.evaluator.specs.Steps.Names.{row_word}
use Rattle.evaluator.specs.Tables.{DomainAt}
use Rattle.evaluator.specs.Ground.{Ground}
use Rattle.data.specs.Reading.Lists.{Head, head_in}
use Rattle.data.specs.Stores.{Stores}
use Rattle.data.specs.Taking.{TakenIs}
use Rattle.store.specs.Table.{Table}

-- the head of a portion with n indices; a scalar has none
unfoldable pub head_for : ℕ → ℕ → List Name → Reader Head
head_for p zero names = give (record { positions = []; entries = [] })
head_for p (suc n) names = head_in p (suc n) names

-- head and numbers
unfoldable pub carry_in : Portion → Store → List Name → Reader Store
carry_in x st names = do
  h ← head_for x.place (size x.domain) names
  runs x h.positions (bound_of h.entries) st

-- the portion x is that of the name i with c indices, which stands at p
pub record Declares (s ns ts : List ℕ) (i c p : ℕ) (whole : Bool) (x : Portion) : Type 0 where
  pub ground : Ground s ns ts
  pub name : x.name ≡ i
  pub place : x.place ≡ p
  pub kind : x.whole ≡ whole
  pub known : i < length ground.names
  pub domain : DomainAt s ts (take i ground.names) x.domain (row_word ns i 4)
  pub long : size x.domain ≡ c

pub record CarriesOut (s ns ts : List ℕ) (ds : Table) (given at i c p : ℕ) (whole : Bool) (r : Result (ℕ × ℕ) Refused) (ds' : Table) : Type 0 where
  pub is : (x : Portion) (d : Declares s ns ts i c p whole x) (st : Store) → Stores ds given st → TakenIs (carry_in x st d.ground.names (from s ts at)) s ts ds' r

-- behind a name
unfoldable pub used_in : List Name → Store → Used → Reader Store
used_in names st u = do
  x ← demand (portion_by u.number u.place u.sort) u.place
  elim (is_point x.domain) [ true ↦ runs x [] [] st | false ↦ subscripted_portion names x st ]

-- u is the name i of sort k with c indices, at p
pub record Names (s ns ts : List ℕ) (i k c p : ℕ) (u : Used) : Type 0 where
  pub ground : Ground s ns ts
  pub number : u.number ≡ i
  pub place : u.place ≡ p
  pub shaped : Shaped u.sort k c
  pub name : Name
  pub stands : slice_get ground.names i ≡ Some name
  pub sorted : u.sort ≡ name.sort

pub record Uses (s ns ts : List ℕ) (ds : Table) (given at i k c p : ℕ) (r : Result (ℕ × ℕ) Refused) (ds' : Table) : Type 0 where
  pub is : (u : Used) (d : Names s ns ts i k c p u) (st : Store) → Stores ds given st → TakenIs (used_in d.ground.names st u (from s ts at)) s ts ds' r

-- the reader m, from the store on that the table holds
pub record Fills (m : List Name → Store → Reader Store) (s ns ts : List ℕ) (ds : Table) (given at : ℕ) (r : Result (ℕ × ℕ) Refused) (ds' : Table) : Type 0 where
  pub is : (g : Ground s ns ts) (st : Store) → Stores ds given st → TakenIs (m g.names st (from s ts at)) s ts ds' r
