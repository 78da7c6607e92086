-- `importer::strip_print` meets its contract.
use borrow.Author.Rules.{rules}
use Rattle.importer.proofs.Values.{print-fits, print-size, print-strips}
use Rattle.importer.proofs.strip_print.Goals as goal

pub slice_bounds-digits-end : goal.slice_bounds-digits-end
slice_bounds-digits-end c = search (print-fits, rules) depth 6

pub slice_bounds-strip-end : goal.slice_bounds-strip-end
slice_bounds-strip-end c = search (print-size, rules) depth 6

pub returns : goal.returns
returns c = search (print-strips, rules) depth 10
