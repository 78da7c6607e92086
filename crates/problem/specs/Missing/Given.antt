-- What the functions answer, for every text, names and data that the tables hold.
use Rattle.std.specs.Prelude.{Option, Result, ◌≡◌, Bool, not, List, ℕ, ◌<◌, length, drop, ℤ, Some, slice_get}
use Rattle.rules.specs.declared.Refused.{Refused}
use Rattle.elements.specs.declared.here.Here.{Here}
use Rattle.language.specs.Syntax.{Name, Spans}
use Rattle.language.specs.Evaluation.{over, is_none}
use Rattle.language.specs.Store.{is_given, given_by, all_given}
use Rattle.tokens.specs.Stored.{size}
use Rattle.store.specs.Key.{key_of}
use Rattle.store.specs.Table.{Table, Sorted, lookup}
use Rattle.evaluator.specs.Steps.Names.{row_word}
use Rattle.evaluator.specs.Tables.{DomainAt, World}
use Rattle.evaluator.specs.Cycle.{passed_outcome, seen_by, nothing_bound}
use Rattle.elements.specs.Loops.{Remains}
use Rattle.elements.specs.Placed.{Placed}

-- whether n rows have a value of name i at an element
pub record IsGiven (ds : Table) (n i : ℕ) (l : List ℤ) (r : Bool) : Type 0 where
  pub is : Sorted ds n → r ≡ not (is_none (lookup ds n (key_of i l)))

-- ---- the elements of one name

-- the row of name i tells of the domain d
module _ {ns ts : List ℕ} {ds : Table} {given : ℕ} (w : World ns ts ds given) (i : ℕ) where
  pub record Declares (d : Spans) : Type 0 where
    pub named : i < length w.names
    pub domain : DomainAt w.text ts (seen_by w i) d (row_word ns i 4)
    pub count : size d ≡ row_word ns i 3

-- a value of name i at each element of its domain
pub record DomainGiven (ns ts : List ℕ) (ds : Table) (given i : ℕ) (r : Result Unit Refused) : Type 0 where
  pub is : (w : World ns ts ds given) (d : Spans) → Declares w i d → over d (nothing_bound w) (is_given i (row_word ns i 0)) tt ≡ passed_outcome r

-- the elements from a step on are still to be asked
pub record Asking (ns ts : List ℕ) (ds : Table) (given i : ℕ) (x : Result (Option Here) Refused) : Type 0 where
  pub left : (w : World ns ts ds given) (d : Spans) → Declares w i d
      → Remains w i (row_word ns i 3) (row_word ns i 4) (is_given i (row_word ns i 0)) x tt (over d (nothing_bound w) (is_given i (row_word ns i 0)) tt)

-- ---- all names

-- the data of name i, if its sort has any
pub record NameGiven (ns ts : List ℕ) (ds : Table) (given i : ℕ) (r : Result Unit Refused) : Type 0 where
  pub is : (w : World ns ts ds given) → Placed ns w.names → (x : Name) → slice_get w.names i ≡ Some x → given_by i x.place x.sort (nothing_bound w) ≡ passed_outcome r

-- the data of all names
pub record AllGiven (ns ts : List ℕ) (ds : Table) (given : ℕ) (r : Result Unit Refused) : Type 0 where
  pub is : (w : World ns ts ds given) → Placed ns w.names → all_given 0 w.names (nothing_bound w) ≡ passed_outcome r

-- the names before number i have their data
pub record GivenTo (ns ts : List ℕ) (ds : Table) (given i : ℕ) : Type 0 where
  pub left : (w : World ns ts ds given) → Placed ns w.names → all_given 0 w.names (nothing_bound w) ≡ all_given i (drop i w.names) (nothing_bound w)
