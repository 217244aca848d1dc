-- `order::stretch` meets its contract. The invariant of both loops: the m steps looked at are of core k. Assumes nothing.
use mathlib.Core.Path.{◌≡◌, subst}
use Rattle.order.specs.Order.{AllOn}
use Prim.Native.Nat.{◌+◌}
use native.Mathlib.Omega.{arith}
use Rattle.order.proofs.Stretches.{step_in_lem, first_on, all_none, all_more, all_one}
use Rattle.order.proofs.stretch.Goals as goal

pub loop-m-init : goal.loop-m-init
loop-m-init c = let room = c.min-room.ensures in
    (omega (arith, room), omega (arith, room, c.requires.0), omega arith, all_none c.args.order.now c.args.k c.args.i)

pub overflow_add-i : goal.overflow_add-i
overflow_add-i c = let v = c.loop-m.invariant in omega (arith, v.1, v.2)

pub overflow_sub-room : goal.overflow_sub-room
overflow_sub-room c = let v = c.loop-m.invariant in omega (arith, v.2)

pub eight_on-requires : goal.eight_on-requires
eight_on-requires c = let v = c.loop-m.invariant in (omega (arith, v.1, v.2), c.requires.1)

pub overflow_add-m : goal.overflow_add-m
overflow_add-m c = let v = c.loop-m.invariant in omega (arith, v.1, v.2, (c.eight_on.ensures c.loop-m-test.true).0)

pub loop-m-smaller : goal.loop-m-smaller
loop-m-smaller c = let v = c.loop-m.invariant in omega (arith, v.2, (c.eight_on.ensures c.loop-m-test.true).0)

pub loop-m-preserved : goal.loop-m-preserved
loop-m-preserved c = let given = c.args in
    let v = c.loop-m.invariant in
    let w = c.eight_on.ensures c.loop-m-test.true in
    (v.0, v.1, omega (arith, v.2, w.0), all_more given.order.now given.k given.i _ 8 v.3 w.1)

pub loop-m-2-init : goal.loop-m-2-init
loop-m-2-init c = c.loop-m.invariant

pub overflow_add-i-in-loop-m-2 : goal.overflow_add-i-in-loop-m-2
overflow_add-i-in-loop-m-2 c = let v = c.loop-m-2.invariant in omega (arith, v.1, v.2)

pub bounds-order-i : goal.bounds-order-i
bounds-order-i c = let v = c.loop-m-2.invariant in omega (arith, v.1, c.loop-m-2-test.true)

pub overflow_cast-order : goal.overflow_cast-order
overflow_cast-order c = omega (arith, c.type_inv.order (c.args.i + c.loop-m-2.m))

pub returns-then-order-i : goal.returns-then-order-i
returns-then-order-i c = let given = c.args in
    let v = c.loop-m-2.invariant in
    record {
      few = omega (arith, v.0, v.2);
      within = omega (arith, v.1, v.2);
      all = v.3;
      some = λ e h. first_on given.order.now given.i given.k _ c.if-order-i.true e;
    }

pub loop-m-2-preserved : goal.loop-m-2-preserved
loop-m-2-preserved c = let given = c.args in
    let v = c.loop-m-2.invariant in
    (v.0, v.1, omega (arith, c.loop-m-2-test.true), all_more given.order.now given.k given.i _ 1 v.3 (all_one given.order.now given.k _ c.if-order-i.false))

pub returns : goal.returns
returns c = let given = c.args in
    let room = c.min-room.ensures in
    let v = c.loop-m-2.invariant in
    let all : c.loop-m-2.m ≡ c.min-room.result = omega (arith, v.2) in
    record {
      few = omega (arith, v.0);
      within = omega (arith, v.1);
      all = subst (AllOn given.order.now given.k given.i) all v.3;
      some = λ e h. omega (arith, room, (step_in_lem given.order.now given.i given.k e).0);
    }
