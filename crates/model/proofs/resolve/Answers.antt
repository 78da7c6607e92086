-- `model::resolve` meets its contract.
use Rattle.model.proofs.Laws.{tokens-part, rows-part, resolved-part}
use Rattle.model.proofs.resolve.Goals as goal

pub slice_bounds-resolve-end : goal.slice_bounds-resolve-end
slice_bounds-resolve-end c = search rows-part depth 5

pub slice_bounds-resolve-end-3 : goal.slice_bounds-resolve-end-3
slice_bounds-resolve-end-3 c = search tokens-part depth 5

pub returns : goal.returns
returns c = search resolved-part depth 6
