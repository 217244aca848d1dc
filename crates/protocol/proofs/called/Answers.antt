-- `protocol::called` meets its contract: field by field. Assumes nothing.
use borrow.Author.Rules.{rules}
use Rattle.protocol.specs.Registers.{called}
use Rattle.protocol.proofs.called.Goals as goal

pub returns : goal.returns
unfolding called
returns c = search rules
