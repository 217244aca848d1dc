-- `conversions::either_beyond` meets its contract. The first operand that is beyond decides. Assumes nothing.
use Rattle.std.proofs.Common.{le-ltb, lt-ltb}
use Rattle.values.specs.Commands.{beyond}
use Rattle.conversions.proofs.either_beyond.Goals as goal

pub returns-then-size-p : goal.returns-then-size-p
unfolding beyond
returns-then-size-p c = rw (lt-ltb _ _ c.if-size-p.true)

pub returns-else-size-p : goal.returns-else-size-p
unfolding beyond
returns-else-size-p c = rw (le-ltb _ _ c.if-size-p.false)
