-- `conversions::nearest_scaled` meets its contract: a power of two goes into the number or out of the divisor. Assumes nothing.
use Rattle.std.proofs.Common.{sym, ◌∙◌, le_of_lt, mod-eq_of_lt}
use Rattle.conversions.proofs.Rounding as Rounding
use Rattle.conversions.proofs.nearest_scaled.Goals as goal

pub returns-then-l-j : goal.returns-then-l-j
returns-then-l-j c = mod-eq_of_lt c.requires.1 ∙ sym (Rounding.scaled-up c.args.m c.args.j c.args.l c.if-l-j.true)

pub returns-else-l-j : goal.returns-else-l-j
returns-else-l-j c = c.nearest_shift.ensures ∙ Rounding.scaled-down c.args.m c.args.j c.args.l (le_of_lt c.if-l-j.false)
