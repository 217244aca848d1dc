-- `values::bits_of` meets its contract. The bits of a number are its pattern. Assumes nothing.
use Rattle.std.proofs.Common.{ap, ◌∙◌, w64, of_z}
use Rattle.values.proofs.Signs.{read64, bits-pattern}
use Rattle.values.proofs.bits_of.Goals as goal

pub returns : goal.returns
returns c = c.cast_unsigned.ensures ∙ ap (of_z w64) (read64 c.args.x c.ranges.x.sfits) ∙ bits-pattern c.args.x c.ranges.x.sfits
