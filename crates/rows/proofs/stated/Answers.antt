-- `rows::stated` meets its contract.
use Rattle.rows.proofs.Bounding.{stated-new, stated-over, stated-old}
use Rattle.rows.proofs.stated.Goals as goal

pub returns-in_default : goal.returns-in_default
returns-in_default c = stated-new _ _ _ c.in_default.is

pub returns-then-gives_way : goal.returns-then-gives_way
returns-then-gives_way c = search (stated-over, c.in-Some.is) depth 8

pub returns : goal.returns
returns c = search (stated-old, c.in-Some.is) depth 8
