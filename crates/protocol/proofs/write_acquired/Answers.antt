-- `protocol::write_acquired` meets its contract: field by field. Assumes nothing.
use borrow.Author.Rules.{rules}
use Rattle.protocol.specs.Registers.{write_acquired}
use Rattle.protocol.proofs.write_acquired.Goals as goal

pub returns : goal.returns
unfolding write_acquired
returns c = search rules
