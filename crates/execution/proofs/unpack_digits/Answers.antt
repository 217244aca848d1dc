-- The type and the places are those that stand in the code; how the digits' conversion ended is how the instruction ends.
use Rattle.processor.proofs.Commands.{unpacking-done}
use Rattle.execution.proofs.unpack_digits.Goals as goal

pub single-o-requires : goal.single-o-requires
single-o-requires c = (c.requires.0.whole, c.requires.0.short)

pub unpack_at-requires : goal.unpack_at-requires
unpack_at-requires c = (rw c.single-o.ensures.0 c.requires.1, c.single-o.ensures.1.0, c.single-o.ensures.1.1)

pub returns : goal.returns
returns c = unpacking-done _ _ _ _ _ _ _ c.requires.0.here c.single-o.ensures.0 c.unpack_at.ensures c.outcome.ensures
