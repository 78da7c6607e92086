-- `rows::gives_way` meets its contract.
use Rattle.rows.proofs.Bounding.{way-larger, way-smaller}
use Rattle.rows.proofs.gives_way.Goals as goal

pub returns-then-larger : goal.returns-then-larger
returns-then-larger c = search way-larger depth 5

pub returns : goal.returns
returns c = search way-smaller depth 5
