-- `protocol::byte_copied` meets its contract: field by field. Assumes nothing.
use borrow.Author.Rules.{rules}
use Rattle.protocol.specs.Registers.{byte_copied}
use Rattle.protocol.proofs.byte_copied.Goals as goal

pub returns : goal.returns
unfolding byte_copied
returns c = search rules
