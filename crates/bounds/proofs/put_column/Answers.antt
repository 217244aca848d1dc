-- `bounds::put_column` meets its contract. The loop's invariant: the first i numbers stand at the front. Assumes nothing.
use native.Mathlib.Omega.{arith}
use Rattle.bounds.proofs.Outputs.{none-stored, one-more-stored, all-stored}
use Rattle.bounds.proofs.put_column.Goals as goal

pub loop-i-init : goal.loop-i-init
loop-i-init c = none-stored _ _

pub loop-i-preserved : goal.loop-i-preserved
loop-i-preserved c = one-more-stored _ _ _ _ c.loop-i.invariant (omega arith)

pub returns : goal.returns
returns c = all-stored _ _ _ _ _ c.loop-i.invariant (omega arith)
