-- `generator::part` meets its contract.
use Rattle.model.proofs.Laws.{rows-part, tokens-part}
use Rattle.generator.proofs.part.Goals as goal

pub slice_bounds-filled-end : goal.slice_bounds-filled-end
slice_bounds-filled-end g c = search rows-part depth 5

pub slice_bounds-filled-end-2 : goal.slice_bounds-filled-end-2
slice_bounds-filled-end-2 g c = search tokens-part depth 5
