-- `values::rotate_left` meets its contract. No place modulo the width leaves the bits; any other count is a turn. Assumes nothing.
use Rattle.std.proofs.Common.{◌*◌, ◌%◌, ◌<◌, ◌∙◌, mod-lt, arith}
use Rattle.values.proofs.Bits.{left-none}
use Rattle.values.specs.Width.{rotate_left}
use Rattle.values.proofs.rotate_left.Goals as goal

pub returns-then-places-eq0 : goal.returns-then-places-eq0
returns-then-places-eq0 c = c.low_bytes.ensures ∙ left-none _ _ _ c.if-places-eq0.true

pub rotated-requires : goal.rotated-requires
rotated-requires c = let m : c.args.n % (8 * c.args.w) < 8 * c.args.w = mod-lt c.args.n (omega arith) in (omega arith, omega arith, omega arith)

pub returns : goal.returns
unfolding rotate_left
returns c = c.rotated.ensures
