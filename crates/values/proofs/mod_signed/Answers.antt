-- `values::mod_signed` meets its contract. By 0 it is 0; by -1 nothing is left; by any other divisor the quotient fits, and so the machine has the remainder. Assumes nothing.
use lib.Signed.{rem_z}
use Rattle.std.proofs.Common.{sym, ap, ◌∙◌}
use Rattle.verdict.proofs.Verdict.{pick_true, pick-false}
use Rattle.values.specs.Width.{signed_remainder}
use Rattle.values.proofs.Signs.{quotient-asks, minus-one-bits, rem-minus-one, rem_read, zero_bits, other-bits, not-zero}
use Rattle.values.proofs.mod_signed.Goals as goal

pub returns-then-y-eq0 : goal.returns-then-y-eq0
unfolding signed_remainder
returns-then-y-eq0 c = sym (pick_true _ _ _ (zero_bits c.args.y c.ranges.y.sfits c.if-y-eq0.true))

pub nonzero_rem-result : goal.nonzero_rem-result
nonzero_rem-result c = quotient-asks c.args.x c.args.y c.ranges.x.sfits c.ranges.y.sfits (not-zero c.args.y (other-bits c.args.y c.ranges.y.sfits c.if-y-eq0.false)) c.if-y-eqminus1.false

pub returns-then-y-eqminus1 : goal.returns-then-y-eqminus1
unfolding signed_remainder
returns-then-y-eqminus1 c = sym (pick-false _ _ _ (other-bits c.args.y c.ranges.y.sfits c.if-y-eq0.false) ∙ ap (rem_z c.args.x) (minus-one-bits c.args.y c.ranges.y.sfits c.if-y-eqminus1.true) ∙ rem-minus-one c.args.x)

pub returns-else-y-eqminus1 : goal.returns-else-y-eqminus1
unfolding signed_remainder
returns-else-y-eqminus1 c = rem_read c.args.x c.args.y c.ranges.x.sfits c.ranges.y.sfits ∙ sym (pick-false _ _ _ (other-bits c.args.y c.ranges.y.sfits c.if-y-eq0.false))
