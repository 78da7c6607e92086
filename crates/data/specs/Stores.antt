-- The store as a table of rows, and a number's row in it.
use Rattle.std.specs.Prelude.{Err, Ok, Result, ◌≡◌, List, ◌∷◌, map, ℕ, ltb, length, ℤ}
use Rattle.rules.specs.declared.Refused.{Refused}
use Rattle.rules.specs.declared.Refusal.TheVariants.{Missing, Full}
use Rattle.rules.specs.Limits.{data_limit}
use Rattle.value.specs.declared.Value.{Value}
use Rattle.value.specs.Decimal.{Valid}
use Rattle.language.specs.Outcome.{Outcome, done, refused, ◌>>=◌, check}
use Rattle.language.specs.Evaluation.{is_none}
use Rattle.language.specs.Store.{Datum, Store, stored}
use Rattle.language.specs.Valid.{ValidStore}
use Rattle.store.specs.Packed.{packed}
use Rattle.store.specs.Entries.{Keyed, Entry, Holds}
use Rattle.store.specs.Table.{Table}

-- a datum's row
abbrev pub row_of : Datum → Entry
row_of x = record { name = x.name; element = x.element; word = packed x.value }

-- the first n rows of a table hold the store
pub record Stores (ds : Table) (n : ℕ) (st : Store) : Type 0 where
  pub holds : Holds ds n (map row_of st)
  pub valid : ValidStore st

-- the same refusal, or a table that holds the store
abbrev pub StoreIs : Outcome Store → Table → Result ℕ Refused → Type 0
StoreIs (done st) ds (Ok n) = Stores ds n st
StoreIs (done st) ds (Err e) = ⊥
StoreIs (refused r q) ds (Ok n) = ⊥
StoreIs (refused r q) ds (Err e) = (r ≡ e.refusal) × (q ≡ e.place)

-- a new datum: 10 at its sign p if it is given twice, 6 if there are too many
unfoldable pub entering : ℕ → List ℤ → ℕ → Value → Store → Outcome Store
entering i e p v st = do
  _ ← check Missing p (is_none (stored st i e))
  _ ← check Full p (ltb (length st) data_limit)
  done (record { name = i; element = e; value = v } ∷ st)

pub record Enters (ds : Table) (given i : ℕ) (e : List ℤ) (p : ℕ) (v : Value) (r : Result ℕ Refused) (ds' : Table) : Type 0 where
  pub is : (st : Store) → Stores ds given st → Keyed i e → Valid v → StoreIs (entering i e p v st) ds' r
