-- `tokens::byte_at` meets its contract.
use Rattle.tokens.proofs.Tables.{byte_past, byte-past-2}
use Rattle.tokens.proofs.byte_at.Goals as goal

pub returns-then-n-p : goal.returns-then-n-p
returns-then-n-p c = search byte_past

pub returns-then-n-p-2 : goal.returns-then-n-p-2
returns-then-n-p-2 c = search byte-past-2 depth 6
