-- `domains::entries` meets its contract.
use Rattle.domains.proofs.+entries.Given as goal

abbrev pub decreases-entries : goal.decreases-entries
decreases-entries l = l.left
