-- `conversions::shift_of` meets its contract: the two cases are those of the definition. Assumes nothing.
use Rattle.conversions.specs.Digits.{shift_in}
use Rattle.std.proofs.Common.{refl, arith}
use Rattle.conversions.proofs.shift_of.Goals as goal

pub returns-then-e-eq0 : goal.returns-then-e-eq0
unfolding shift_in
returns-then-e-eq0 c = omega (arith, c.if-e-eq0.true)

pub returns-else-e-eq0 : goal.returns-else-e-eq0
unfolding shift_in
returns-else-e-eq0 c = refl
