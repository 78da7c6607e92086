-- At most four items as a list.
use Rattle.std.specs.Prelude.{cond, List, [], ◌∷◌, ◌++◌, ltb, length, take}
use Rattle.rules.specs.Limits.{index_limit}
use Rattle.store.specs.declared.few.Few.{Few}

-- the first `count` of the four items
unfoldable pub items_of : {A : Type 0} → Few A → List A
items_of f = take f.count (take 4 f.items)

-- one item more, where there is room for it
unfoldable pub one_more : {A : Type 0} → List A → A → List A
one_more l x = cond (ltb (length l) index_limit) (l ++ (x ∷ [])) l
