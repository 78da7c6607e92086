-- `exporter::write` meets its contract.
use mathlib.Core.Path.{sym, ◌∙◌}
use native.Mathlib.Omega.{arith}
use borrow.Author.Tests.{not-false}
use Rattle.exporter.proofs.Told.{Limited, formed-yes, exports-none, exports-all}
use Rattle.exporter.proofs.write.Goals as goal

-- the sizes are within the limits
pub returns-then-not-is_formed : goal.returns-then-not-is_formed
returns-then-not-is_formed c = exports-none _ _ _ _ _ _ _ _ c.is_formed.ensures c.if-not-is_formed.true-raw

pub overflow_add-t : goal.overflow_add-t
overflow_add-t c =
    let limits : Limited c.args.sizes = formed-yes _ (sym c.is_formed.ensures ∙ not-false _ c.if-not-is_formed.false-raw) in
    omega (arith, limits.sizes.rows)

pub rows_section-at-requires : goal.rows_section-at-requires
rows_section-at-requires c =
    let limits : Limited c.args.sizes = formed-yes _ (sym c.is_formed.ensures ∙ not-false _ c.if-not-is_formed.false-raw) in
    limits.sizes.rows

pub columns_section-at-requires : goal.columns_section-at-requires
columns_section-at-requires c =
    let limits : Limited c.args.sizes = formed-yes _ (sym c.is_formed.ensures ∙ not-false _ c.if-not-is_formed.false-raw) in
    (limits.sizes.rows, limits.among, limits.sizes.variables, omega (arith, c.rows_section-at.ensures.1))

pub rights_section-at-requires : goal.rights_section-at-requires
rights_section-at-requires c =
    let limits : Limited c.args.sizes = formed-yes _ (sym c.is_formed.ensures ∙ not-false _ c.if-not-is_formed.false-raw) in
    (limits.sizes.rows, omega (arith, c.columns_section-at.ensures.1, c.rows_section-at.ensures.1))

pub bounds_section-requires : goal.bounds_section-requires
bounds_section-requires c =
    let limits : Limited c.args.sizes = formed-yes _ (sym c.is_formed.ensures ∙ not-false _ c.if-not-is_formed.false-raw) in
    (limits.sizes.variables, omega (arith, c.rights_section-at.ensures.1, c.columns_section-at.ensures.1, c.rows_section-at.ensures.1))

pub returns : goal.returns
returns c =
    exports-all _ _ _ _ c.rows_section-at.ensures.0 c.columns_section-at.ensures.0 c.rights_section-at.ensures.0 c.bounds_section.ensures
