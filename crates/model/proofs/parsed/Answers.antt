-- `model::parsed` meets its contract.
use Rattle.model.proofs.Laws.{tokens-part}
use Rattle.model.proofs.parsed.Goals as goal

pub slice_bounds-parse-end : goal.slice_bounds-parse-end
slice_bounds-parse-end c = search tokens-part depth 5
