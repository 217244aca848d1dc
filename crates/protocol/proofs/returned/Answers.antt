-- `protocol::returned` meets its contract: field by field. Assumes nothing.
use borrow.Author.Rules.{rules}
use Rattle.protocol.specs.Registers.{returned}
use Rattle.protocol.proofs.returned.Goals as goal

pub returns : goal.returns
unfolding returned
returns c = search rules
