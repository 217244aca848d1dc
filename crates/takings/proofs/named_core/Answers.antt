-- `takings::named_core` meets its contract. Assumes nothing.
use Rattle.takings.proofs.Bytes.{reading-core, writing-core}
use Rattle.takings.proofs.named_core.Goals as goal

pub returns-then-b-lt-WRITINGS : goal.returns-then-b-lt-WRITINGS
returns-then-b-lt-WRITINGS c = reading-core _ c.if-b-lt-WRITINGS.true

pub returns : goal.returns
returns c = writing-core _ c.if-b-lt-WRITINGS.false
