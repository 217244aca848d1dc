-- `commands::command::result_width` meets its contract, by the code byte (`own_width`, `truth_width`). Assumes nothing.
use Rattle.values.proofs.Commands.{taken-type}
use Rattle.commands.proofs.Results.{own_width, truth_width}
use Rattle.commands.proofs.command.result_width.Goals as goal

pub width_of-requires : goal.width_of-requires
width_of-requires c = taken-type c.args.op c.args.t c.requires

pub returns-then-op-lt32 : goal.returns-then-op-lt32
returns-then-op-lt32 c = search own_width

pub returns-else-op-lt32 : goal.returns-else-op-lt32
returns-else-op-lt32 c = search truth_width
