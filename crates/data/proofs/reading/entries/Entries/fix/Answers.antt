-- `entries::Entries::fix` meets its contract.
use mathlib.Core.Path.{◌∙◌, ap}
use lib.ListN.{set}
use Rattle.value.proofs.Integers.{back}
use Rattle.store.specs.Few.{items_of}
use Rattle.data.specs.declared.reading.entries.Entry.TheVariants.{Fixed}
use Rattle.data.proofs.reading.Marks.{fix-is}
use Rattle.data.proofs.reading.entries.Entries.fix.Goals as goal

pub returns : goal.returns
returns c =
    fix-is c.args.self c.args.j c.args.k (record { entries = c.set.result })
    (c.set.ensures ∙ ap (λ k. set (items_of c.args.self.entries) c.args.j (Fixed k)) (back {z = c.args.k} c.ranges.k.sfits))
