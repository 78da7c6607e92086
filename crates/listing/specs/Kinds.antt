-- The kind of a row in code, as the definition has it.
use Rattle.language.specs.Listing as Listing
use Rattle.listing.specs.declared.Kind.{Kind}
use Rattle.listing.specs.declared.Kind.TheVariants.{Less, Equal, Range}

unfoldable pub kind_in : Kind → Listing.Kind
kind_in Less = Listing.less
kind_in Equal = Listing.equal
kind_in Range = Listing.range
