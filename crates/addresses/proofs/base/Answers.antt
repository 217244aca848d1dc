-- The offset below 32,768, from there on what takes 32,768 away, by the test.
use Rattle.std.proofs.Common.{le-ltb, lt-ltb}
use Rattle.verdict.specs.Verdict.{pick}
use Rattle.addresses.proofs.base.Goals as goal

pub returns-then-address-lt-ABSOLUTE : goal.returns-then-address-lt-ABSOLUTE
unfolding pick
returns-then-address-lt-ABSOLUTE c = rw (lt-ltb _ _ c.if-address-lt-ABSOLUTE.true)

pub returns : goal.returns
unfolding pick
returns c = rw (le-ltb _ _ c.if-address-lt-ABSOLUTE.false)
