-- What is read of the tables of a problem.
use Rattle.std.specs.Prelude.{Bool, cond, ◌&&◌, List, ℕ, ◌+◌, ◌-◌, ◌*◌, eqb, ltb, leb, get_or, ℤ, pos, Option, Some, None}
use Rattle.rules.specs.Limits.{variable_limit, row_limit}
use Rattle.value.specs.declared.Value.{Value}
use Rattle.value.specs.Decimal.{zero_value}
use Rattle.value.specs.Gathering.{of_millionths}
use Rattle.store.specs.Packed.{unpacked}
use Rattle.rows.specs.declared.Sizes.{Sizes}
use Rattle.rows.specs.Slots.{less_slot, equal_slot}
use Rattle.rows.specs.Bounds.{BoundTable, nth_bound}

-- the tables have room for so many variables and rows
unfoldable pub within : Sizes → Bool
within x = leb x.variables variable_limit && leb (x.less + x.equal) row_limit

-- the slot of row i, from 0, of which the first `less` are those of `<=` and `>=`
unfoldable pub slot_at : ℕ → ℕ → ℕ
slot_at less i = cond (ltb i less) (less_slot i) (equal_slot (i - less))

-- the count of variable j in row k of the counts
unfoldable pub count_at : List ℤ → ℕ → ℕ → ℤ
count_at m k j = get_or m (k * 512 + j) (pos 0)

-- a value that is there, else 0
unfoldable pub fitted : Option Value → Value
fitted (Some v) = v
fitted None = zero_value

unfoldable pub value_of : ℤ → Value
value_of z = fitted (of_millionths z)

-- the bounds of variable j, 0 where no lower one is stated
unfoldable pub lower_in : BoundTable → ℕ → Value
lower_in b j = fitted (nth_bound b j).lower

unfoldable pub upper_in : BoundTable → ℕ → Option Value
upper_in b j = (nth_bound b j).upper

-- a floor by its word
unfoldable pub end_in : ℕ → Option Value
end_in w = cond (eqb w 0) None (Some (unpacked w))
