-- `order::stays` meets its contract: past the end of the order no step is left. Assumes nothing.
use native.Mathlib.Omega.{arith}
use borrow.Author.Tests.{lt-ltb, le-ltb}
use Rattle.order.proofs.stays.Goals as goal

pub returns-then-order-i : goal.returns-then-order-i
returns-then-order-i c = rw (le-ltb _ _ c.if-order-i.true)

pub overflow_cast-result : goal.overflow_cast-result
overflow_cast-result c = omega (arith, c.type_inv.order c.args.i)

pub returns : goal.returns
returns c = rw (lt-ltb _ _ c.if-order-i.false)
