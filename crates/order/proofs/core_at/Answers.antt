-- `order::core_at` meets its contract. Assumes nothing.
use mathlib.Core.Path.{refl}
use native.Mathlib.Omega.{arith}
use Rattle.order.proofs.core_at.Goals as goal

pub overflow_cast-result : goal.overflow_cast-result
overflow_cast-result c = omega (arith, c.type_inv.order c.args.i)

pub returns : goal.returns
returns c = let below = c.requires.1 in
    (refl, below, omega arith)
