-- `protocol::advanced` meets its contract: field by field. Assumes nothing.
use borrow.Author.Rules.{rules}
use Rattle.protocol.specs.Registers.{advanced}
use Rattle.protocol.proofs.advanced.Goals as goal

pub returns : goal.returns
unfolding advanced
returns c = search rules
