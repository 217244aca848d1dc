-- `values::rotate_right` meets its contract. No place modulo the width leaves the bits; any other count is a turn the other way. Assumes nothing.
use Rattle.std.proofs.Common.{◌*◌, ◌%◌, ◌<◌, ◌∙◌, mod-lt, arith}
use Rattle.values.proofs.Bits.{right-none}
use Rattle.values.specs.Width.{rotate_right}
use Rattle.values.proofs.rotate_right.Goals as goal

pub returns-then-places-eq0 : goal.returns-then-places-eq0
returns-then-places-eq0 c = c.low_bytes.ensures ∙ right-none _ _ _ c.if-places-eq0.true

pub overflow_sub-w : goal.overflow_sub-w
overflow_sub-w c = let m : c.args.n % (8 * c.args.w) < 8 * c.args.w = mod-lt c.args.n (omega arith) in omega arith

pub rotated-requires : goal.rotated-requires
rotated-requires c = let m : c.args.n % (8 * c.args.w) < 8 * c.args.w = mod-lt c.args.n (omega arith) in (omega arith, omega arith, omega arith)

pub returns : goal.returns
unfolding rotate_right
returns c = c.rotated.ensures
