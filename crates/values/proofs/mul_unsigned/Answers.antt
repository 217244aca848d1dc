-- `values::mul_unsigned` meets its contract. The low bytes of the product modulo 2 ^ 64. Assumes nothing.
use Rattle.values.proofs.Widths as Widths
use Rattle.values.proofs.mul_unsigned.Goals as goal

pub returns : goal.returns
returns c = Widths.mul_at c.args.w c.requires c.args.x c.args.y c.low_bytes.ensures
