-- `scanner::word` meets its contract.
use native.Mathlib.Omega.{arith}
use Rattle.rules.specs.Limits.{byte_limit}
use Rattle.tokens.proofs.scanner.Words.{payload-small}
use Rattle.tokens.proofs.scanner.word.Goals as goal

pub overflow_mul-result-2 : goal.overflow_mul-result-2
unfolding byte_limit
overflow_mul-result-2 c = omega (arith, c.requires.1)

pub overflow_add-result : goal.overflow_add-result
unfolding byte_limit
overflow_add-result c = omega (arith, c.requires.1)

pub overflow_add-result-2 : goal.overflow_add-result-2
unfolding byte_limit
overflow_add-result-2 c = omega (arith, c.requires.1, payload-small c.args.token c.requires.0)
