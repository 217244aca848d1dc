-- `conversions::digits_of` meets its contract: the two cases are those of the definition. Assumes nothing.
use Rattle.std.proofs.Common.{arith, eq-eqb, ne_eqb}
use Rattle.conversions.specs.Digits.{digits_in}
use Rattle.conversions.proofs.digits_of.Goals as goal

pub returns-then-p-eq0 : goal.returns-then-p-eq0
unfolding digits_in
returns-then-p-eq0 c = rw (eq-eqb _ _ c.if-p-eq0.true) (omega arith)

pub returns-else-p-eq0 : goal.returns-else-p-eq0
unfolding digits_in
returns-else-p-eq0 c = rw (ne_eqb _ _ c.if-p-eq0.false)
