-- `declarations::read_entry` meets its contract.
use mathlib.Core.Path.{◌≡◌, ap}
use Rattle.std.proofs.lemmas.Result.{err_from_is_err_and}
use Rattle.tokens.specs.Stored.{sort_number}
use Rattle.tokens.proofs.Sorts.{other-index, other-formula}
use Rattle.declarations.proofs.EntryLaws.{sort-index, sort-domain, sort-equals, sort-formula-wrong, sort-formula}
use Rattle.declarations.proofs.read_entry.Goals as goal

pub returns-in-Index : goal.returns-in-Index
returns-in-Index c = let e : sort_number c.args.sort ≡ 0 = ap sort_number c.in-Index.is in search sort-index depth 5

pub returns-in_err-first-in-Formula : goal.returns-in_err-first-in-Formula
returns-in_err-first-in-Formula c =
    let e : sort_number c.args.sort ≡ 3 = ap sort_number c.in-Formula.is in
    let p = err_from_is_err_and c.from_residual.result c.from_residual.ensures.1 in
    rw (p.1, p.2, ← c.in_err-first-in-Formula.was) (search (sort-equals, c.in_err-first-in-Formula.was) depth 7)

pub returns-in_err-end-in-Formula : goal.returns-in_err-end-in-Formula
returns-in_err-end-in-Formula c =
    let e : sort_number c.args.sort ≡ 3 = ap sort_number c.in-Formula.is in
    let p = err_from_is_err_and c.from_residual-in_err-end-in-Formula.result c.from_residual-in_err-end-in-Formula.ensures.1 in
    rw (p.1, p.2, ← c.in_err-end-in-Formula.was) (search (sort-formula-wrong, c.in_ok-first-in-Formula.was, c.in_err-end-in-Formula.was) depth 8)

pub returns-in_ok-end-in-Formula : goal.returns-in_ok-end-in-Formula
returns-in_ok-end-in-Formula c =
    let e : sort_number c.args.sort ≡ 3 = ap sort_number c.in-Formula.is in
    search (sort-formula, c.in_ok-first-in-Formula.was, c.in_ok-end-in-Formula.was) depth 9

pub returns-in_default : goal.returns-in_default
returns-in_default c =
    let x = c.args.sort in
    sort-domain _ _ _ _ (sort_number x) c.subscripted.result (other-index x c.in_default.not-Index) (other-formula x c.in_default.not-Formula) c.subscripted.ensures
