-- `lexer::run_length` meets its contract.
use Rattle.lexer.proofs.Runs.{run_more, run-stop, run_out}
use Rattle.lexer.proofs.run_length.Goals as goal

pub returns-then-not-test-clause-run : goal.returns-then-not-test-clause-run
returns-then-not-test-clause-run g c = λ k d. run-stop _ _ _ _ _ (c.loop-i.invariant k d) c.loop-i-test.true (d _ _ c.test.ensures) c.if-not-test.true

pub loop-i-preserved : goal.loop-i-preserved
loop-i-preserved g c = λ k d. run_more _ _ _ _ _ (c.loop-i.invariant k d) c.loop-i-test.true (d _ _ c.test.ensures) c.if-not-test.false

pub returns-clause-run : goal.returns-clause-run
returns-clause-run g c = λ k d. run_out _ _ _ _ _ (c.loop-i.invariant k d) c.loop-i.auto.i-end c.loop-i-test.false c.saturating_sub.ensures
