-- `layouts::pass_entry` meets its contract.
use Rattle.data.proofs.Laying.{pass-lower, pass-token, pass-upper, pass_all}
use Rattle.data.proofs.layouts.pass_entry.Goals as goal

pub returns-in_default : goal.returns-in_default
returns-in_default c = search pass-lower depth 6

pub returns-in_default-token_at : goal.returns-in_default-token_at
returns-in_default-token_at c = search pass-token depth 8

pub returns-in_default-upper : goal.returns-in_default-upper
returns-in_default-upper c = search pass-upper depth 12

pub returns : goal.returns
returns c = search pass_all depth 14
