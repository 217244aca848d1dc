-- The test decides.
use Rattle.verdict.specs.Verdict.{pick}
use Rattle.execution.proofs.select.Goals as goal

pub returns-then-test : goal.returns-then-test
unfolding pick
returns-then-test c = rw c.if-test.true

pub returns : goal.returns
unfolding pick
returns c = rw c.if-test.false
