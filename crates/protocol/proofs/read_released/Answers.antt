-- `protocol::read_released` meets its contract: field by field. Assumes nothing.
use borrow.Author.Rules.{rules}
use Rattle.protocol.specs.Registers.{read_released}
use Rattle.protocol.proofs.read_released.Goals as goal

pub returns : goal.returns
unfolding read_released
returns c = search rules
