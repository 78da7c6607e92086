-- `value::all_digits` meets its contract.
use mathlib.Core.Path.{◌∙◌}
use borrow.Author.Rules.{rules}
use Rattle.std.proofs.Common.{tests}
use Rattle.std.proofs.lemmas.Iterator.{YieldsList-from_slice}
use Rattle.std.proofs.lemmas.Iterator.Search.{all_from_yields_List}
use Rattle.value.specs.Literal.{is_digit}
use Rattle.value.proofs.Reading.{all-listed}
use Rattle.value.proofs.all_digits.Goals as goal

pub returns : goal.returns
unfolding is_digit
returns c =
    all_from_yields_List is_digit _ _ _ c.all.ensures.ran (YieldsList-from_slice c.args.t.now cc) (λ x b q k. search (rules, tests)) ∙ all-listed _
