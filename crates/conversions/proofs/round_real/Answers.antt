-- `conversions::round_real` meets its contract: the float of the pattern. Assumes nothing.
use lib.Ieee.{binary32}
use Rattle.conversions.proofs.Single as Single
use Rattle.std.proofs.Common.{◌*◌, ◌^◌}
use Rattle.conversions.proofs.round_real.Goals as goal

pub float_from_bits-result : goal.float_from_bits-result
float_from_bits-result c = Single.round-bits-number binary32 c.args.negative (c.args.m * 2 ^ c.args.j) (2 ^ 1074) c.round_bits.result c.round_bits.ensures

pub returns : goal.returns
returns c = Single.round-back binary32 c.args.negative (c.args.m * 2 ^ c.args.j) (2 ^ 1074) c.round_bits.result c.round_bits.ensures
