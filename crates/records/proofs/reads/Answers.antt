-- The READ bits are the high half.
use borrow.Author.Tests.{lt-ltb}
use Rattle.protocol.specs.Variables.{reads_it}
use Rattle.records.proofs.reads.Goals as goal

pub returns : goal.returns
unfolding reads_it
returns c = rw (lt-ltb _ _ c.requires.1) c.has_bit.ensures
