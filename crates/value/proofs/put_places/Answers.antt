-- `value::put_places` meets its contract.
use Rattle.value.proofs.Writing.{written_none, written_then, places-none, places-some}
use Rattle.value.proofs.put_places.Goals as goal

pub returns-then-s-eq0 : goal.returns-then-s-eq0
returns-then-s-eq0 c =
    let s = c in
    rw (places-none s.args.s s.args.x c.if-s-eq0.true) (written_none _ s.args.at)

pub returns : goal.returns
returns c =
    let d = c in
    let p = d in
    let e = p in
    let s = e in
    rw (places-some s.args.s s.args.x e.if-s-eq0.false) (written_then _ _ _ _ _ _ _ _ p.put-next.ensures d.put_digits.ensures)
