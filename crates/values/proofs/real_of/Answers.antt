-- `values::real_of` meets its contract. A pattern is a NaN exactly if it lies above infinity. Assumes nothing.
use lib.Ieee.{binary32}
use Rattle.std.proofs.Common.{sym, ◌∙◌}
use Rattle.values.proofs.Floats.{nan-above, number-below, quiet-nan}
use Rattle.values.proofs.real_of.Goals as goal

pub float_from_bits-result : goal.float_from_bits-result
float_from_bits-result c = number-below binary32 _ c.if-p-gt2139095040.false

pub returns-then-p-gt2139095040 : goal.returns-then-p-gt2139095040
returns-then-p-gt2139095040 c = quiet-nan.0 ∙ sym (nan-above binary32 _ c.if-p-gt2139095040.true)
