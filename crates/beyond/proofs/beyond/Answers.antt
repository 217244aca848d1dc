-- `beyond::beyond` meets its contract. The first operand that is beyond decides. Assumes nothing.
use borrow.Author.Tests.{lt-ltb, le-ltb}
use Rattle.values.specs.Commands.{beyond}
use Rattle.beyond.proofs.beyond.Goals as goal

pub returns-then-size-o : goal.returns-then-size-o
unfolding beyond
returns-then-size-o c = rw (lt-ltb _ _ c.if-size-o.true)

pub returns-then-size-o-2 : goal.returns-then-size-o-2
unfolding beyond
returns-then-size-o-2 c = rw (le-ltb _ _ c.if-size-o.false, lt-ltb _ _ c.if-size-o-2.true)

pub returns : goal.returns
unfolding beyond
returns c = rw (le-ltb _ _ c.if-size-o.false, le-ltb _ _ c.if-size-o-2.false)
