-- The product of an index of 16 bits and a size of at most 8 leaves room for the sum.
use mathlib.Core.Path.{refl}
use native.Mathlib.Nat.{mul-le-mul_left}
use native.Mathlib.Omega.{arith}
use Rattle.execution.proofs.element_place.Goals as goal

pub overflow_mul-result : goal.overflow_mul-result
overflow_mul-result c = omega (arith, mul-le-mul_left c.args.i c.requires.1)

pub overflow_add-result : goal.overflow_add-result
overflow_add-result c = omega (arith, mul-le-mul_left c.args.i c.requires.1)

pub returns : goal.returns
returns c = (refl, omega (arith, mul-le-mul_left c.args.i c.requires.1))
