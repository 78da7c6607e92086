-- `sheet::first_line` meets its contract.
use Rattle.listing.proofs.sheet.Words.{string-most, part-most}
use Rattle.listing.proofs.sheet.Writing.{first-written}
use Rattle.listing.proofs.sheet.first_line.Goals as goal

pub returns : goal.returns
returns c =
    let a = c.args in
    let w = rw (c.part-data.ensures, c.string_at-model.ensures) at c.lp.ensures in
    first-written a.text.now _ _ _ _ _ _ c.requires.0 (string-most a.text.now a.tokens.now a.title) (part-most a.text.now a.data_place a.data_bytes) w
