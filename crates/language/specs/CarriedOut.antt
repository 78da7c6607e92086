-- Document 01, "Meaning" and "Order": portions are carried out as read. When the portions of a data section, as they are written
-- (`DataPhrases`), are in order: portion by portion and number by number, each under the data given before it. No reader of
-- tokens occurs here.
use Rattle.std.specs.Prelude.{◌≡◌, true, List, [], ◌∷◌, ◌++◌, ℕ, ◌<◌, None, length, ℤ}
use Rattle.rules.specs.Limits.{data_limit}
use Rattle.value.specs.Number.{exactly}
use Rattle.language.specs.Outcome.{done}
use Rattle.language.specs.Evaluation.{within}
use Rattle.language.specs.Defined.{IsWhole}
use Rattle.language.specs.Store.{Store, stored, scope_of, Bound, set_at, element_of, position_run}
use Rattle.language.specs.Data.{signed_value, bound_of, positions_of}
use Rattle.language.specs.DataPhrases.{SignedNumber, WrittenPortion}

-- For each number: whole for an integer (8), inside the declared domain (9), not given before (10), room for one more (6)
pub record Stores (x : WrittenPortion) (e : List ℤ) (n : SignedNumber) (st new : Store) : Type 0 where
  pub whole : x.whole ≡ true → IsWhole (exactly n.literal)
  pub inside : (p : ℕ) → within x.domain e (scope_of st) p ≡ done tt
  pub unset : stored st x.name e ≡ None
  pub room : length st < data_limit
  pub stores : new ≡ record { name = x.name; element = e; value = signed_value n.negative n.literal } ∷ st

-- one step after another, each taking its part of the numbers
unfoldable pub InTurn : {A : Type 0} → (A → List SignedNumber → Store → Store → Type 0) → List A → List SignedNumber → Store → Store → Type 0
InTurn F [] ns st new = (ns ≡ []) × (st ≡ new)
InTurn F (a ∷ more) ns st new =
    (taken rest : List SignedNumber) × (mid : Store) × (ns ≡ taken ++ rest) × F a taken st mid × InTurn F more rest mid new

-- the positions still to run, outermost first, each by its own declared limits, read at each start; then one number
unfoldable pub Fills : WrittenPortion → List ℕ → Bound → List SignedNumber → Store → Store → Type 0
Fills x [] b ns st new = (n : SignedNumber) × (ns ≡ n ∷ []) × Stores x (element_of b) n st new
Fills x (j ∷ js) b ns st new =
    (ks : List ℤ) × (position_run x.domain b j (scope_of st) ≡ done ks) × InTurn (λ k. Fills x js (set_at j k b)) ks ns st new

-- one portion: fixed entries bind their positions first; marked ones run nested in the order list's order
abbrev pub FillsPortion : WrittenPortion → Store → Store → Type 0
FillsPortion x st new = Fills x (positions_of x.order x.entries) (bound_of x.entries) x.numbers st new

-- one portion after another
unfoldable pub CarriesOut : List WrittenPortion → Store → Store → Type 0
CarriesOut [] st new = st ≡ new
CarriesOut (x ∷ xs) st new = (mid : Store) × FillsPortion x st mid × CarriesOut xs mid new
