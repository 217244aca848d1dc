-- `values::shift_left` meets its contract. Fewer places than the width: the product with a power of two, cut to the width. Assumes nothing.
use Rattle.std.proofs.Common.{◌∙◌}
use Rattle.values.proofs.Bits.{left_out, left_in}
use Rattle.values.proofs.shift_left.Goals as goal

pub returns-then-w-places : goal.returns-then-w-places
returns-then-w-places c = left_out _ _ _ c.if-w-places.true

pub returns : goal.returns
returns c = c.low_bytes.ensures ∙ left_in _ _ _ c.requires c.if-w-places.false
