-- The WRITE bits are the low half.
use borrow.Author.Tests.{lt-ltb}
use Rattle.protocol.specs.Variables.{writes_it}
use Rattle.records.proofs.writes.Goals as goal

pub returns : goal.returns
unfolding writes_it
returns c = rw (lt-ltb _ _ c.requires.1) c.has_bit.ensures
