-- `Source::start` meets its contract.
use mathlib.Core.Path.{refl}
use Rattle.rules.specs.Limits.{token_limit}
use Rattle.lexer.proofs.Source.start.Goals as goal

pub returns : goal.returns
unfolding token_limit
returns c = refl
