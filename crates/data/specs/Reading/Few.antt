-- At most four numbers as a list.
use Rattle.std.specs.Prelude.{◌≡◌, Bool, false, cond, List, [], ◌∷◌, ◌++◌, ℕ, ◌+◌, ◌<◌, ◌≤◌, eqb, ltb, length, take}
use Rattle.language.specs.Data.{no_repeats, all_in, rearranges}
use Rattle.data.specs.declared.reading.few.Few.{Few}

-- the numbers that are kept
unfoldable pub numbers_of : Few → List ℕ
numbers_of f = take f.count (take 4 f.numbers)

-- the numbers of a list, and no others
pub record Holds (f : Few) (l : List ℕ) : Type 0 where
  pub count : f.count ≡ length l
  pub numbers : numbers_of f ≡ l

-- of a list of at most four numbers all are kept; of a longer one, that it is longer
pub record Keeps (f : Few) (l : List ℕ) : Type 0 where
  pub all : length l ≤ 4 → (f.count ≡ length l) × (numbers_of f ≡ l)
  pub more : 4 < length l → 4 < f.count

-- one number more; where four are kept, only that there are more
pub record Adds (f : Few) (i : ℕ) (r : Few) : Type 0 where
  pub count : r.count ≡ cond (ltb f.count 4) (f.count + 1) 5
  pub numbers : numbers_of r ≡ cond (ltb f.count 4) (numbers_of f ++ (i ∷ [])) (numbers_of f)

-- the test of an order against marks, by what is kept of them
unfoldable pub rearranges_kept : Few → Few → Bool
rearranges_kept order marks = cond (eqb order.count marks.count) (cond (no_repeats (numbers_of order)) (all_in (numbers_of order) (numbers_of marks)) false) false

-- for marks of at most four positions it is the definition's
pub record Rearranges (order marks : Few) (r : Bool) : Type 0 where
  pub is : (l m : List ℕ) → Keeps order l → Keeps marks m → length m ≤ 4 → r ≡ rearranges l m
