-- `protocol::read_acquired` meets its contract: field by field. Assumes nothing.
use borrow.Author.Rules.{rules}
use Rattle.protocol.specs.Registers.{read_acquired}
use Rattle.protocol.proofs.read_acquired.Goals as goal

pub returns : goal.returns
unfolding read_acquired
returns c = search rules
