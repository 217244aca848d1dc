-- `values::flip` meets its contract. The complement of 64 bits, cut to the width, is the complement at the width. Assumes nothing.
use Rattle.std.proofs.Common.{◌∙◌}
use Rattle.values.proofs.Bits.{flip-at}
use Rattle.values.proofs.flip.Goals as goal

pub returns : goal.returns
returns c = c.low_bytes.ensures ∙ flip-at _ _ c.requires c.ranges.x.fits
