-- `protocol::cycle_ended` meets its contract: field by field. Assumes nothing.
use borrow.Author.Rules.{rules}
use Rattle.protocol.specs.Registers.{cycle_ended}
use Rattle.protocol.proofs.cycle_ended.Goals as goal

pub returns : goal.returns
unfolding cycle_ended
returns c = search rules
