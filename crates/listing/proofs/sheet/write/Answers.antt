-- `sheet::write` meets its contract.
use mathlib.Core.Path.{sym, ◌∙◌}
use native.Mathlib.Omega.{arith}
use borrow.Author.Tests.{not-false}
use lib.ListN.{length}
use Rattle.listing.proofs.sheet.Listed.{lists-none, lists-all}
use Rattle.listing.proofs.sheet.Words.{Within, within-yes}
use Rattle.listing.proofs.sheet.write.Goals as goal

-- the sizes are within the limits
pub returns-then-not-is_within : goal.returns-then-not-is_within
returns-then-not-is_within c = lists-none _ _ _ _ _ _ _ _ _ _ _ _ _ _ _ _ c.is_within.ensures c.if-not-is_within.true-raw

pub overflow_add-all : goal.overflow_add-all
overflow_add-all c =
    let limits : Within (length c.args.text.bytes.now) c.args.sizes = within-yes _ _ (sym c.is_within.ensures ∙ not-false _ c.if-not-is_within.false-raw) in
    omega (arith, limits.bytes, limits.sizes.variables, limits.sizes.rows)

pub first_line-at-requires : goal.first_line-at-requires
first_line-at-requires c =
    let limits : Within (length c.args.text.bytes.now) c.args.sizes = within-yes _ _ (sym c.is_within.ensures ∙ not-false _ c.if-not-is_within.false-raw) in
    (limits.bytes, limits.sizes.rows)

pub row_lines-at-requires : goal.row_lines-at-requires
row_lines-at-requires c =
    let limits : Within (length c.args.text.bytes.now) c.args.sizes = within-yes _ _ (sym c.is_within.ensures ∙ not-false _ c.if-not-is_within.false-raw) in
    (limits.bytes, limits.sizes.rows, omega (arith, c.first_line-at.ensures.1))

pub variable_lines-at-requires : goal.variable_lines-at-requires
variable_lines-at-requires c =
    let limits : Within (length c.args.text.bytes.now) c.args.sizes = within-yes _ _ (sym c.is_within.ensures ∙ not-false _ c.if-not-is_within.false-raw) in
    (limits.bytes, limits.sizes.variables, omega (arith, limits.sizes.rows, c.row_lines-at.ensures.most, c.first_line-at.ensures.1))

pub columns-at-requires : goal.columns-at-requires
columns-at-requires c =
    let limits : Within (length c.args.text.bytes.now) c.args.sizes = within-yes _ _ (sym c.is_within.ensures ∙ not-false _ c.if-not-is_within.false-raw) in
    (limits.sizes.rows, limits.sizes.variables, omega (arith, limits.sizes.rows, limits.sizes.variables, c.variable_lines-at.ensures.most, c.row_lines-at.ensures.most, c.first_line-at.ensures.1))

pub last_line-requires : goal.last_line-requires
last_line-requires c =
    let limits : Within (length c.args.text.bytes.now) c.args.sizes = within-yes _ _ (sym c.is_within.ensures ∙ not-false _ c.if-not-is_within.false-raw) in
    omega (arith, limits.sizes.rows, limits.sizes.variables, c.columns-at.ensures.1, c.variable_lines-at.ensures.most, c.row_lines-at.ensures.most, c.first_line-at.ensures.1)

pub returns : goal.returns
returns c =
    lists-all _ _ _ _ _ _ _ _ _ _ _ _ c.first_line-at.ensures.0 c.row_lines-at.ensures c.variable_lines-at.ensures c.columns-at.ensures.0 c.last_line.ensures
