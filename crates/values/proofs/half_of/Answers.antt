-- `values::half_of` meets its contract. A shift of 1 by fewer than 64 places is a power of two. Assumes nothing.
use Rattle.std.proofs.Common.{◌-◌, ◌*◌, arith}
use Rattle.values.proofs.Widths as Widths
use Rattle.values.proofs.half_of.Goals as goal

pub returns : goal.returns
returns c = Widths.shifted (8 * c.args.w - 1) (omega arith)
