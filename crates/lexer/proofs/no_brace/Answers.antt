-- `lexer::no_brace` meets its contract.
use mathlib.Core.Path.{refl}
use Rattle.lexer.specs.Text.{no_brace}
use Rattle.lexer.proofs.no_brace.Goals as goal

pub returns : goal.returns
unfolding no_brace
returns c = refl
