-- `machine::all_below` meets its contract. Assumes nothing.
use mathlib.Core.Path.{◌≡◌, sym, ◌∙◌}
use Prim.Native.Nat.{◌<◌}
use native.Mathlib.Omega.{arith}
use borrow.Author.Tests.{tests}
use lib.ListN.{length}
use Rattle.machine.proofs.Calls.{below_none, below-done, below_all}
use Rattle.machine.proofs.judging.all_below.Goals as goal

pub loop-core-init : goal.loop-core-init
loop-core-init c = (omega arith, λ h. below_none c.args.n c.args.order.now h)

pub returns-then-is_empty : goal.returns-then-is_empty
returns-then-is_empty c =
    let none : length c.args.order.now ≡ 0 = grind (arith, tests) in
    sym (below-done c.args.n c.args.order.now 0 (omega arith) (omega arith))

pub overflow_cast-result : goal.overflow_cast-result
overflow_cast-result c = omega (arith, c.loop-core.invariant.0)

pub returns : goal.returns
returns c =
    let some : 0 < length c.args.order.now = grind (arith, tests) in
    sym (below_all c.args.n c.args.order.now c.loop-core.core-index c.loop-core.most (omega arith) (omega arith)) ∙ c.loop-core.invariant.1 some
