-- `takings::is_due` meets its contract, a case at a time. Assumes nothing.
use Rattle.takings.proofs.Bytes.{reading-off, reading-due, writing-due}
use Rattle.takings.proofs.is_due.Goals as goal

pub returns-then-r-ne-BETWEEN : goal.returns-then-r-ne-BETWEEN
returns-then-r-ne-BETWEEN c = reading-off _ c.args.r _ c.if-b-lt-WRITINGS.true c.if-r-ne-BETWEEN.true

pub returns-then-b-lt-WRITINGS : goal.returns-then-b-lt-WRITINGS
returns-then-b-lt-WRITINGS c = reading-due _ c.args.r _ c.if-b-lt-WRITINGS.true c.if-r-ne-BETWEEN.false

pub returns : goal.returns
returns c = writing-due _ c.args.r _ c.if-b-lt-WRITINGS.false
