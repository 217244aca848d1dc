-- The cores passed don't move; the first that does is the answer. Assumes nothing.
use Prim.Native.Nat.{◌+◌}
use native.Mathlib.Omega.{arith}
use Rattle.table.proofs.Ring.{looking-none}
use Rattle.table.proofs.Scan.{inside-four, scan-named, scan-more, scan-none}
use Rattle.table.proofs.next_moving.Goals as goal

pub loop-i-init : goal.loop-i-init
loop-i-init c = looking-none _ _ _

pub overflow_add-k : goal.overflow_add-k
overflow_add-k c = omega (arith, c.requires.0.few, c.requires.2)

pub nonzero_rem-k : goal.nonzero_rem-k
nonzero_rem-k c = omega (arith, c.requires.3)

pub offset_bounds-tasks-k : goal.offset_bounds-tasks-k
offset_bounds-tasks-k c = omega (arith, inside-four _ _ c.args.s _ _ _ c.requires c.loop-i.i)

pub bounds-tasks-k : goal.bounds-tasks-k
bounds-tasks-k c = inside-four _ _ c.args.s _ _ _ c.requires c.loop-i.i

pub overflow_cast-k-in-loop-i : goal.overflow_cast-k-in-loop-i
overflow_cast-k-in-loop-i c = omega (arith, inside-four _ _ c.args.s _ _ _ c.requires c.loop-i.i)

pub offset_bounds-s-k : goal.offset_bounds-s-k
offset_bounds-s-k c = omega (arith, inside-four _ _ c.args.s _ _ _ c.requires c.loop-i.i)

pub bounds-s-k : goal.bounds-s-k
bounds-s-k c = inside-four _ _ c.args.s _ _ _ c.requires c.loop-i.i

pub overflow_cast-result : goal.overflow_cast-result
overflow_cast-result c = omega (arith, inside-four _ _ c.args.s _ _ _ c.requires c.loop-i.i)

pub returns-then-can_move : goal.returns-then-can_move
returns-then-can_move c = scan-named _ _ c.args.s _ _ _ c.requires c.loop-i.i _ c.loop-i.invariant (omega (arith, c.loop-i-test.true))
    c.can_move.ensures c.if-can_move.true

pub loop-i-preserved : goal.loop-i-preserved
loop-i-preserved c = scan-more _ _ c.args.s _ _ _ c.requires c.loop-i.i _ c.loop-i.invariant (omega (arith, c.loop-i-test.true))
    c.can_move.ensures c.if-can_move.false

pub returns : goal.returns
returns c = scan-none _ _ c.args.s _ _ _ c.requires c.loop-i.i c.loop-i.invariant (omega (arith, c.loop-i-test.false))

-- where the last core was looked at
pub returns-else-can_move : goal.returns-else-can_move
returns-else-can_move c =
    let on = scan-more _ _ c.args.s _ _ _ c.requires c.loop-i.i _ c.loop-i.invariant (omega (arith, c.loop-i-test.true)) c.can_move.ensures c.if-can_move.false in
    scan-none _ _ c.args.s _ _ _ c.requires (c.loop-i.i + 1) on (omega arith)
