-- `protocol::write_released` meets its contract: the mask clears the cold-start bit. Assumes nothing.
use borrow.Author.Rules.{rules}
use Rattle.protocol.specs.Registers.{write_released}
use Rattle.protocol.proofs.Flags.{warm-and}
use Rattle.protocol.proofs.write_released.Goals as goal

pub returns : goal.returns
unfolding write_released
returns c = rw (warm-and c.args.r.flags (search rules))
