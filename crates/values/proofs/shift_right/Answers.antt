-- `values::shift_right` meets its contract. Fewer places than the width: the quotient by a power of two. Assumes nothing.
use Rattle.values.proofs.Bits.{right-out, right-in}
use Rattle.values.proofs.shift_right.Goals as goal

pub returns-then-w-places : goal.returns-then-w-places
returns-then-w-places c = right-out _ _ _ c.if-w-places.true

pub returns : goal.returns
returns c = right-in _ _ _ c.if-w-places.false
