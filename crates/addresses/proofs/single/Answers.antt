-- Each place is the one that `operand` gives; the source's stands twice.
use Rattle.addresses.proofs.single.Goals as goal

pub returns : goal.returns
returns c = (rw (c.operand-source.ensures.0, c.operand.ensures.0), (c.operand.ensures.1, c.operand-source.ensures.1, c.operand-source.ensures.1))
