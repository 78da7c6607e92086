-- `spans::write` meets its contract.
use mathlib.Core.Path.{sym, ◌∙◌}
use native.Mathlib.Omega.{arith}
use borrow.Author.Tests.{not-false}
use Rattle.rows.proofs.Reading.{Within, within-yes}
use Rattle.spans.proofs.Telling.{reports-none, reports-all}
use Rattle.spans.proofs.write.Goals as goal

-- the sizes are within the limits

pub returns-then-not-is_within : goal.returns-then-not-is_within
returns-then-not-is_within c = reports-none _ _ _ _ _ _ _ _ c.is_within.ensures c.if-not-is_within.true-raw

pub overflow_add-size : goal.overflow_add-size
overflow_add-size c =
    let limits : Within (c).args.sizes = within-yes _ (sym c.is_within.ensures ∙ not-false _ c.if-not-is_within.false-raw) in
    let e = limits in omega (arith, e.rows)

pub row_lines-at-requires : goal.row_lines-at-requires
row_lines-at-requires c =
    let limits : Within (c).args.sizes = within-yes _ (sym c.is_within.ensures ∙ not-false _ c.if-not-is_within.false-raw) in
    let e = limits in
    (e.rows, omega arith)

pub last_line-requires : goal.last_line-requires
last_line-requires c =
    let limits : Within (c).args.sizes = within-yes _ (sym c.is_within.ensures ∙ not-false _ c.if-not-is_within.false-raw) in
    let r = c in
    let e = limits in
    omega (arith, e.rows, r.row_lines-at.ensures.short)

pub returns : goal.returns
returns c =
    let w = c in
    let r = w in
    reports-all _ _ _ _ r.row_lines-at.ensures w.last_line.ensures
