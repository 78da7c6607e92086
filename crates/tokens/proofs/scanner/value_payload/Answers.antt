-- `scanner::value_payload` meets its contract.
use native.Mathlib.Omega.{arith}
use Rattle.tokens.proofs.scanner.Words.{value-small, plain_back}
use Rattle.tokens.proofs.scanner.value_payload.Goals as goal

pub overflow_mul-result : goal.overflow_mul-result
overflow_mul-result c = rw (plain_back _ c.requires) (record { fits = omega (arith, value-small _ c.requires) })

pub overflow_add-result : goal.overflow_add-result
overflow_add-result c = rw (plain_back _ c.requires) (record { fits = omega (arith, value-small _ c.requires) })
