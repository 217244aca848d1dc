-- `values::mod_unsigned` meets its contract. The test of the divisor is the definition's. Assumes nothing.
use Rattle.std.proofs.Common.{sym, eq-eqb, ne_eqb}
use Rattle.verdict.proofs.Verdict.{pick_true, pick-false}
use Rattle.values.specs.Width.{unsigned_remainder}
use Rattle.values.proofs.mod_unsigned.Goals as goal

pub returns-then-y-eq0 : goal.returns-then-y-eq0
unfolding unsigned_remainder
returns-then-y-eq0 c = sym (pick_true _ _ _ (eq-eqb _ _ c.if-y-eq0.true))

pub returns-else-y-eq0 : goal.returns-else-y-eq0
unfolding unsigned_remainder
returns-else-y-eq0 c = sym (pick-false _ _ _ (ne_eqb _ _ c.if-y-eq0.false))
