-- `snapshot::table_state::core_of` meets its contract: field by field. Assumes nothing.
use mathlib.Core.Path.{refl}
use Rattle.snapshot.specs.Snapshot.{core_of}
use Rattle.snapshot.proofs.table_state.core_of.Goals as goal

pub returns : goal.returns
unfolding core_of
returns c = rw (c.record_of.ensures, c.stack_of.ensures, c.stack_of-2.ensures) refl
