-- `constraints::optional_floor` meets its contract.
use mathlib.Core.Path.{◌≡◌}
use native.Mathlib.Omega.{arith}
use Rattle.std.proofs.lemmas.Result.{err_from_is_err_and}
use Rattle.lexer.specs.Numbers.{number}
use Rattle.constraints.proofs.FloorLaws.{floor-other, floor-none, floor-refused, floor-some, floor-wrong}
use Rattle.constraints.proofs.optional_floor.Goals as goal

pub returns-then-number : goal.returns-then-number
returns-then-number c = let e : number c.args.mark ≡ 60 → ⊥ = λ q. omega (arith, c.number.ensures) in search (floor-other, e) depth 5

pub returns-in_err-token : goal.returns-in_err-token
returns-in_err-token c = let e : number c.args.mark ≡ 60 = omega (arith, c.number.ensures) in let p = err_from_is_err_and c.from_residual.result c.from_residual.ensures.1 in rw (p.1, p.2) (search (floor-wrong, c.in_err-token.was) depth 7)

pub returns-then-token : goal.returns-then-token
returns-then-token c = let e : number c.args.mark ≡ 60 = omega (arith, c.number.ensures) in search (floor-none, c.in_ok-token.was) depth 8

pub returns-in_err-end : goal.returns-in_err-end
returns-in_err-end c = let e : number c.args.mark ≡ 60 = omega (arith, c.number.ensures) in let p = err_from_is_err_and c.from_residual-in_err-end.result c.from_residual-in_err-end.ensures.1 in rw (p.1, p.2, ← c.in_err-end.was) (search (floor-refused, c.in_ok-token.was, c.in_err-end.was) depth 9)

pub returns : goal.returns
returns c = let e : number c.args.mark ≡ 60 = omega (arith, c.number.ensures) in search (floor-some, c.in_ok-token.was, c.in_ok-end.was) depth 9
