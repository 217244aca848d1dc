-- `table_runs::registers_of` meets its contract: by the core number. Assumes nothing.
use borrow.Author.Tests.{lt-ltb, le-ltb}
use borrow.Author.Rules.{rules}
use Rattle.verdict.specs.Verdict.{pick}
use Rattle.table_runs.proofs.registers_of.Goals as goal

pub returns-then-k-lt4 : goal.returns-then-k-lt4
unfolding pick
returns-then-k-lt4 c = rw (lt-ltb _ _ c.if-k-lt4.true)

pub returns : goal.returns
unfolding pick
returns c = rw (le-ltb _ _ c.if-k-lt4.false)
