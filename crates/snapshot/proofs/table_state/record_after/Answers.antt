-- `snapshot::table_state::record_after` meets its contract: by the count of cores. Assumes nothing.
use mathlib.Core.Path.{refl}
use borrow.Author.Tests.{lt-ltb, le-ltb}
use Rattle.verdict.specs.Verdict.{pick}
use Rattle.snapshot.specs.Snapshot.{record_after}
use Rattle.snapshot.proofs.table_state.record_after.Goals as goal

pub returns-then-s-k : goal.returns-then-s-k
unfolding record_after pick
returns-then-s-k c = rw (le-ltb _ _ c.if-s-k.true) refl

pub returns : goal.returns
unfolding record_after pick
returns c = rw (lt-ltb _ _ c.if-s-k.false, c.core_of.ensures) refl
