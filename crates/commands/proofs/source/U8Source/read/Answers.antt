-- A count is the byte at its place. Assumes nothing.
use Rattle.std.proofs.Common.{sym}
use Rattle.memory.proofs.Number.{read_byte_lem}
use Rattle.commands.proofs.source.U8Source.read.Goals as goal

pub returns : goal.returns
returns c = sym (read_byte_lem c.args.d.now c.args.at)
