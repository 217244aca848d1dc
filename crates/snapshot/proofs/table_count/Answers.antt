-- `snapshot::table_count` meets its contract: by the test. Assumes nothing.
use borrow.Author.Tests.{lt-ltb, le-ltb}
use Rattle.verdict.specs.Verdict.{pick}
use Rattle.snapshot.proofs.table_count.Goals as goal

pub returns-then-n-lt255 : goal.returns-then-n-lt255
unfolding pick
returns-then-n-lt255 c = rw (lt-ltb _ _ c.if-n-lt255.true)

pub returns : goal.returns
unfolding pick
returns c = rw (le-ltb _ _ c.if-n-lt255.false)
