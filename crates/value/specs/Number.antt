-- The exact number that a value is.
use Rattle.value.specs.declared.Value.{Value}
use Rattle.value.specs.Decimal.{frac}
use Rattle.value.specs.Rational.{ℚ, rational}

unfoldable pub exactly : Value → ℚ
exactly v = rational (frac v)
