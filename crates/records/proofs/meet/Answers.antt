-- The two tests of the definition.
use mathlib.Core.Path.{sym}
use borrow.Author.Tests.{lt-ltb, le-ltb}
use Rattle.records.specs.Records.{meets}
use Rattle.records.proofs.Laws.{both-alone, both-none}
use Rattle.records.proofs.meet.Goals as goal

pub returns-then-y-x : goal.returns-then-y-x
unfolding meets
returns-then-y-x c = rw (lt-ltb _ _ c.if-y-x.true) (sym (both-alone _))

pub returns : goal.returns
unfolding meets
returns c = rw (le-ltb _ _ c.if-y-x.false, both-none)
