-- `console::too_long` meets its contract. Assumes nothing.
use borrow.Author.Tests.{lt-ltb, le-ltb}
use Rattle.console.specs.Console.{too_long}
use Rattle.console.proofs.too_long.Goals as goal

pub returns-then-file-gt-MOST_FILE : goal.returns-then-file-gt-MOST_FILE
unfolding too_long
returns-then-file-gt-MOST_FILE c = simp (lt-ltb _ _ c.if-file-gt-MOST_FILE.true)

pub returns-then-trace-gt-MOST_TRACE : goal.returns-then-trace-gt-MOST_TRACE
unfolding too_long
returns-then-trace-gt-MOST_TRACE c = simp (le-ltb _ _ c.if-file-gt-MOST_FILE.false, lt-ltb _ _ c.if-trace-gt-MOST_TRACE.true)

pub returns-else-trace-gt-MOST_TRACE : goal.returns-else-trace-gt-MOST_TRACE
unfolding too_long
returns-else-trace-gt-MOST_TRACE c = simp (le-ltb _ _ c.if-file-gt-MOST_FILE.false, le-ltb _ _ c.if-trace-gt-MOST_TRACE.false)
