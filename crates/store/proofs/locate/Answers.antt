-- `store::locate` meets its contract.
use Rattle.store.proofs.Halving.{place-last, place-taken, place-free}
use Rattle.store.proofs.locate.Goals as goal

pub returns-then-n-at : goal.returns-then-n-at
returns-then-n-at c = search place-last depth 6

pub returns-then-is_at : goal.returns-then-is_at
returns-then-is_at c = search place-taken depth 7

pub returns : goal.returns
returns c = search place-free depth 7
