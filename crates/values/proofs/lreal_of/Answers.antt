-- `values::lreal_of` meets its contract. A pattern is a NaN exactly if it lies above infinity. Assumes nothing.
use lib.Ieee.{binary64}
use Rattle.std.proofs.Common.{sym, ◌∙◌}
use Rattle.values.proofs.Floats.{nan-above, number-below, quiet-nan}
use Rattle.values.proofs.lreal_of.Goals as goal

pub float_from_bits-result : goal.float_from_bits-result
float_from_bits-result c = number-below binary64 _ c.if-p-gt9218868437227405312.false

pub returns-then-p-gt9218868437227405312 : goal.returns-then-p-gt9218868437227405312
returns-then-p-gt9218868437227405312 c = quiet-nan.1 ∙ sym (nan-above binary64 _ c.if-p-gt9218868437227405312.true)
