-- The sum of the address and its base is the place (proofs/Inside, `summed`).
use Rattle.std.proofs.Common.{arith}
use Rattle.processor.proofs.Inside.{summed}
use Rattle.addresses.proofs.place.Goals as goal

pub returns : goal.returns
returns c = summed c.args.offset c.args.address _ _ (omega arith) (omega arith) c.base.ensures c.wrapping_add_u64.ensures.value
