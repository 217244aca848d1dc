-- `order::past_waiting` meets its contract. The invariant: the steps passed are of cores that wait. Assumes nothing.
use Prim.Native.Nat.{◌≤◌}
use lib.ListN.{length}
use Rattle.semaphore.specs.Line.{semaphore_of}
use Rattle.order.specs.Order.{Waits}
use Rattle.order.proofs.past_waiting.Given as goal

abbrev pub invariant-loop-j : goal.invariant-loop-j
invariant-loop-j l = (l.i ≤ l.j) × (l.j ≤ length l.order) × Waits l.order (semaphore_of l.line.semaphore) l.i l.j
