-- `protocol::faulted` meets its contract: the mask sets the flag bit. Assumes nothing.
use borrow.Author.Rules.{rules}
use Rattle.protocol.specs.Registers.{faulted}
use Rattle.protocol.proofs.Flags.{flag-or}
use Rattle.protocol.proofs.faulted.Goals as goal

pub returns : goal.returns
unfolding faulted
returns c = rw (flag-or c.args.bit c.args.r.flags (search rules) (search rules))
