-- `snapshot::table_state::state_of` meets its contract: field by field. Assumes nothing.
use mathlib.Core.Path.{refl}
use Rattle.snapshot.specs.Snapshot.{held}
use Rattle.snapshot.proofs.table_state.state_of.Goals as goal

pub returns : goal.returns
unfolding held
returns c = rw (c.from.ensures, c.from-2.ensures, c.from-3.ensures, c.from-4.ensures, c.table_places-places.ensures, c.table_offsets-offsets.ensures) refl
