-- `Scope::bind` meets its contract.
use mathlib.Core.Path.{◌∙◌, ap}
use Rattle.value.proofs.Integers.{back}
use Rattle.store.specs.Few.{items_of, one_more}
use Rattle.evaluator.proofs.steps.Scopes.{bind-more}
use Rattle.evaluator.proofs.steps.scope.Scope.bind.Goals as goal

pub returns : goal.returns
returns c =
    bind-more c.args.self (record { bound = c.with.result }) c.args.i c.args.k
    (c.with.ensures ∙ ap (λ k. one_more (items_of c.args.self.bound) (record { name = c.args.i; at = k })) (back {z = c.args.k} c.ranges.k.sfits))
