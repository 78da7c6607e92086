-- `few::Few::set` meets its contract.
use Rattle.store.proofs.Fews.{set-within, set-past}
use Rattle.store.proofs.few.Few.set.Goals as goal

pub returns-then-i-lt4 : goal.returns-then-i-lt4
returns-then-i-lt4 g c = search set-within

pub returns-else-i-lt4 : goal.returns-else-i-lt4
returns-else-i-lt4 g c = search set-past
