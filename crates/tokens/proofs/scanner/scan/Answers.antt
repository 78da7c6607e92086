-- `scanner::scan` meets its contract.
use mathlib.Core.Path.{sym, ◌∙◌}
use borrow.Author.Tests.{eqb-true, eqb-false}
use Rattle.rules.specs.Limits.{byte_limit}
use Rattle.tokens.proofs.scanner.Filling.{scanned-none, scanned-long}
use borrow.Author.Rules.{rules}
use Rattle.tokens.proofs.scanner.scan.Goals as goal

pub fill-requires : goal.fill-requires
unfolding byte_limit
fill-requires c = search rules

pub returns-then-is_empty : goal.returns-then-is_empty
unfolding byte_limit
returns-then-is_empty c = scanned-none _ _ (eqb-true _ _ (sym c.is_empty.ensures ∙ c.if-is_empty.true))

pub word-requires : goal.word-requires
unfolding byte_limit
word-requires c = search rules

pub returns : goal.returns
unfolding byte_limit
returns c = scanned-long _ _ _ c.if-text-le-BYTE_LIMIT.false (eqb-false _ _ (sym c.is_empty.ensures ∙ c.if-is_empty.false)) c.word.ensures
