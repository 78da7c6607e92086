-- `store::key_of` meets its contract.
use Rattle.store.proofs.Keys.{key-words}
use Rattle.store.proofs.key_of.Goals as goal

pub returns : goal.returns
returns c = search key-words depth 9
