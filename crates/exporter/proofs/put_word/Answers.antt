-- `exporter::put_word` meets its contract.
use Rattle.listing.proofs.Writing.{written_from}
use Rattle.exporter.proofs.put_word.Goals as goal

pub returns : goal.returns
returns c = search written_from depth 8
