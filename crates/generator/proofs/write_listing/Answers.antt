-- `generator::write_listing` meets its contract.
use Rattle.generator.proofs.Listings.{written-listing}
use Rattle.generator.proofs.write_listing.Goals as goal

pub returns : goal.returns
returns c = search written-listing depth 8
