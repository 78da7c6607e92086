-- A value as one word.
use Rattle.std.specs.Prelude.{ℕ, suc, ◌+◌, ◌*◌, ◌/◌, ◌%◌, cond, leb, pos, ◌-ℤ◌}
use Rattle.rules.specs.Limits.{mantissa_limit, scale_limit}
use Rattle.value.specs.declared.Value.{Value}
use Rattle.store.specs.Key.{digit_of}

-- the digit of m, and the scale in three bits; 0 for a scale out of range
unfoldable pub packed : Value → ℕ
packed v = cond (leb v.s scale_limit) (digit_of v.m * 8 + v.s) 0

unfoldable pub unpacked : ℕ → Value
unpacked w = record { m = pos (w / 8) -ℤ pos (suc mantissa_limit); s = w % 8 }
