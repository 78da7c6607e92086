-- `tokens::refusal` meets its contract.
use borrow.Author.Rules.{rules}
use Rattle.tokens.specs.Stored.{refusal_of}
use Rattle.tokens.proofs.Tables.{refusal-other}
use Rattle.tokens.proofs.refusal.Goals as goal

pub returns-in-1 : goal.returns-in-1
unfolding refusal_of
returns-in-1 c = search rules

pub returns-in-2 : goal.returns-in-2
unfolding refusal_of
returns-in-2 c = search rules

pub returns-in-4 : goal.returns-in-4
unfolding refusal_of
returns-in-4 c = search rules

pub returns-in-5 : goal.returns-in-5
unfolding refusal_of
returns-in-5 c = search rules

pub returns-in-6 : goal.returns-in-6
unfolding refusal_of
returns-in-6 c = search rules

pub returns-in_default : goal.returns-in_default
unfolding refusal_of
returns-in_default c = refusal-other _ c.in_default.in_default-own.rest.0.0.0.0.1 c.in_default.in_default-own.rest.0.0.0.1 c.in_default.in_default-own.rest.0.0.1 c.in_default.in_default-own.rest.0.1 c.in_default.in_default-own.rest.1
