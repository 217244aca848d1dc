-- The tests in their order.
use borrow.Author.Tests.{lt-ltb, le-ltb, eq-eqb, ne_eqb}
use Rattle.execution_fitness.proofs.entry_freed.Goals as goal

pub returns-then-i-depth : goal.returns-then-i-depth
returns-then-i-depth c = rw (lt-ltb _ _ c.if-i-depth.true)

pub returns-then-place-ne0 : goal.returns-then-place-ne0
returns-then-place-ne0 c = rw (le-ltb _ _ c.if-i-depth.false, ne_eqb _ _ c.if-place-ne0.true)

pub returns : goal.returns
returns c = rw (le-ltb _ _ c.if-i-depth.false, eq-eqb _ _ c.if-place-ne0.false)
