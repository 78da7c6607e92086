-- `few::Few::with` meets its contract.
use native.Mathlib.Omega.{arith}
use Rattle.store.proofs.Fews.{with-first, with-second, with-third, with-fourth, with-none}
use Rattle.store.proofs.few.Few.with.Goals as goal

pub returns-in-0 : goal.returns-in-0
returns-in-0 g c = with-first c.args.self (omega arith) _ c.index-self-0.result _ _ _ c.in-0.is

pub returns-in-1 : goal.returns-in-1
returns-in-1 g c = with-second c.args.self (omega arith) _ _ c.index-self-1.result _ _ c.in-1.is

pub returns-in-2 : goal.returns-in-2
returns-in-2 g c = with-third c.args.self (omega arith) _ _ _ c.index-self-2.result _ c.in-2.is

pub returns-in-3 : goal.returns-in-3
returns-in-3 g c = with-fourth c.args.self (omega arith) _ _ _ _ c.index-self-3.result c.in-3.is

pub returns-in_default : goal.returns-in_default
returns-in_default g c = with-none c.args.self (omega arith) _ (omega arith)
