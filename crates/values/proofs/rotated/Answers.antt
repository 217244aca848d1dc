-- `values::rotated` meets its contract. The two parts lie apart, so that their sum fits. Assumes nothing.
use Rattle.std.proofs.Common.{◌*◌, arith}
use Rattle.values.proofs.Bits.{one_shifted, turn_is, turn-fits}
use Rattle.values.proofs.rotated.Goals as goal

pub nonzero_rem-low : goal.nonzero_rem-low
nonzero_rem-low c = one_shifted _ (omega arith)

pub nonzero_rem-high : goal.nonzero_rem-high
nonzero_rem-high c = one_shifted _ (omega arith)

pub overflow_add-result : goal.overflow_add-result
overflow_add-result c = record { fits = turn-fits (8 * c.args.w) c.args.x c.args.places (omega arith) (omega arith) (omega arith) }

pub returns : goal.returns
returns c = turn_is (8 * c.args.w) c.args.x c.args.places (omega arith) (omega arith) (omega arith)
