-- No place is above 65,535.
use native.Mathlib.Omega.{arith}
use Rattle.execution_fitness.proofs.walked.Goals as goal

pub returns-then-r-eq0 : goal.returns-then-r-eq0
returns-then-r-eq0 c = omega (arith, c.bytes_before-sum.ensures.1)

pub loop-i-init : goal.loop-i-init
loop-i-init c = omega (arith, c.bytes_before-sum.ensures.1)

pub overflow_add-sum : goal.overflow_add-sum
overflow_add-sum c = omega (arith, c.bytes_before-sum-in-loop-i.ensures.1, c.loop-i.invariant)

pub loop-i-preserved : goal.loop-i-preserved
loop-i-preserved c = omega (arith, c.bytes_before-sum-in-loop-i.ensures.1, c.loop-i.invariant)

pub returns : goal.returns
returns c = omega (arith, c.loop-i.invariant)
