-- `conversions::nearest_by_half` meets its contract: the three outcomes, by how the remainder compares with the half. Assumes nothing.
use Rattle.std.proofs.Common.{arith}
use Rattle.conversions.proofs.Rounding as Rounding
use Rattle.conversions.proofs.nearest_by_half.Goals as goal

pub overflow_add-result : goal.overflow_add-result
overflow_add-result c = record { fits = omega (arith, Rounding.half_room c.args.m c.args.half c.requires.0 c.ranges.m.fits) }

pub overflow_add-result-else-half-rest : goal.overflow_add-result-else-half-rest
overflow_add-result-else-half-rest c = record { fits = omega (arith, Rounding.half_room c.args.m c.args.half c.requires.0 c.ranges.m.fits) }

pub returns-then-rest-half : goal.returns-then-rest-half
returns-then-rest-half c = Rounding.less-half c.args.m c.args.half c.requires.0 c.if-rest-half.true

pub returns-then-half-rest : goal.returns-then-half-rest
returns-then-half-rest c = Rounding.more-half c.args.m c.args.half c.requires.0 c.if-half-rest.true

pub returns-else-half-rest : goal.returns-else-half-rest
returns-else-half-rest c = Rounding.just-half c.args.m c.args.half c.requires.0 c.if-rest-half.false c.if-half-rest.false
