-- `order::stretch` meets its contract. The invariant of both loops: the m steps looked at are of core k. Assumes nothing.
use Prim.Native.Nat.{◌+◌, ◌-◌, ◌≤◌}
use lib.ListN.{length}
use Rattle.order.specs.Order.{AllOn}
use Rattle.order.proofs.stretch.Given as goal

abbrev pub invariant-loop-m : goal.invariant-loop-m
invariant-loop-m l = (l.room ≤ l.most) × (l.i + l.room ≤ length l.order) × (l.m ≤ l.room) × AllOn l.order l.k l.i l.m

abbrev pub decreases-loop-m : goal.decreases-loop-m
decreases-loop-m l = l.room - l.m

abbrev pub invariant-loop-m-2 : goal.invariant-loop-m-2
invariant-loop-m-2 l = (l.room ≤ l.most) × (l.i + l.room ≤ length l.order) × (l.m ≤ l.room) × AllOn l.order l.k l.i l.m
