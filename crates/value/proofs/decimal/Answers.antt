-- `value::decimal` meets its contract.
use mathlib.Core.Path.{refl, sym, ◌∙◌}
use native.Mathlib.Omega.{arith}
use borrow.Author.Tests.{eqb-true, eqb-false}
use Rattle.value.proofs.Reading.{part-rest, point-at, point-nowhere, raised-empty, raised-whole, raised-ends, raised-parts}
use Rattle.value.proofs.decimal.Goals as goal

pub returns-then-is_empty : goal.returns-then-is_empty
returns-then-is_empty c = raised-empty _ _ (eqb-true _ _ (sym c.is_empty.ensures ∙ c.if-is_empty.true))

pub returns-in_default : goal.returns-in_default
returns-in_default c =
    c.read_parts.ensures ∙ raised-whole _ _ _ refl (omega (arith, eqb-false _ _ (sym c.is_empty.ensures ∙ c.if-is_empty.false))) (point-nowhere _ (sym c.in_default.is ∙ c.first.ensures))

pub returns-then-t-p : goal.returns-then-t-p
returns-then-t-p c = let f = point-at _ _ (sym c.in-Some.is ∙ c.first.ensures) in raised-ends _ _ _ f.0 f.1 c.if-t-p.true

pub returns : goal.returns
returns c =
    let f = point-at _ _ (sym c.in-Some.is ∙ c.first.ensures) in
    c.read_parts-2.ensures ∙ rw (part-rest c.args.t.now) (raised-parts _ _ _ f.0 c.if-t-p.false)
