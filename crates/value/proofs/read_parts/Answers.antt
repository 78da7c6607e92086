-- `value::read_parts` meets its contract.
use mathlib.Core.Path.{sym, ◌∙◌}
use Prim.Native.Nat.{◌<◌, ◌^◌}
use borrow.Author.Tests.{not-true, not-false}
use native.Mathlib.Omega.{arith}
use Rattle.value.proofs.Reading.{room-start, room-rest, parts-small, parts-value, parts-long, parts-longer, parts-strange, parts-strange-after}
use borrow.Author.Rules.{rules}
use Rattle.value.proofs.read_parts.Goals as goal

small : (c : goal.After-number-x) → c.number-x.result < 2 ^ 63
small c =
    let d = c in
    parts-small _ _ d.if-w-gt-DIGIT_LIMIT.false d.if-w-f.false _ c.number-m.ensures _ c.number-x.ensures

pub returns-then-w-gt-DIGIT_LIMIT : goal.returns-then-w-gt-DIGIT_LIMIT
returns-then-w-gt-DIGIT_LIMIT c = parts-long _ _ _ c.if-w-gt-DIGIT_LIMIT.true

pub returns-then-w-f : goal.returns-then-w-f
returns-then-w-f c = parts-longer _ _ _ c.if-w-gt-DIGIT_LIMIT.false c.if-w-f.true

pub returns-then-not-all_digits : goal.returns-then-not-all_digits
returns-then-not-all_digits c = parts-strange _ _ _ (sym (not-true _ c.if-not-all_digits.true-raw) ∙ c.all_digits.ensures)

pub returns-then-not-all_digits-2 : goal.returns-then-not-all_digits-2
returns-then-not-all_digits-2 c = parts-strange-after _ _ _ (sym (not-true _ c.if-not-all_digits-2.true-raw) ∙ c.all_digits-2.ensures)

pub number-m-requires : goal.number-m-requires
number-m-requires c = room-start _ c.if-w-gt-DIGIT_LIMIT.false

pub number-x-requires : goal.number-x-requires
number-x-requires c =
    let d = c in
    let s = d in
    room-rest s.args.a.now s.args.b.now d.if-w-gt-DIGIT_LIMIT.false d.if-w-f.false _ c.number-m.ensures

pub raised-requires : goal.raised-requires
raised-requires c = (small c, omega arith, search rules)

pub returns : goal.returns
returns c =
    let n = c in
    let e = n in
    let d = e in
    c.raised.ensures
    ∙ parts-value _ _ d.if-w-gt-DIGIT_LIMIT.false d.if-w-f.false _ n.number-m.ensures _ _ c.number-x.ensures (sym (not-false _ e.if-not-all_digits.false-raw) ∙ e.all_digits.ensures) (sym (not-false _ n.if-not-all_digits-2.false-raw) ∙ n.all_digits-2.ensures)
