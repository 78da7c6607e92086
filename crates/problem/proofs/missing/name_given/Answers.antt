-- `missing::name_given` meets its contract.
use Rattle.problem.proofs.missing.Names.{name-data, name-other}
use Rattle.problem.proofs.missing.name_given.Goals as goal

pub returns-then-sort : goal.returns-then-sort
returns-then-sort c = name-data _ _ _ _ _ _ c.word_of-sort.ensures _ c.if-sort.true c.domain_given.ensures

pub returns : goal.returns
returns c = name-other _ _ _ _ _ _ c.word_of-sort.ensures c.if-sort.false
