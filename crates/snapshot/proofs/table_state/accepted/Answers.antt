-- `snapshot::table_state::accepted` meets its contract: record by record. Assumes nothing.
use mathlib.Core.Path.{refl}
use Rattle.snapshot.proofs.table_state.accepted.Goals as goal

pub returns : goal.returns
returns c = rw (c.record_after-a.ensures, c.record_after-b.ensures, c.record_after-c.ensures, c.record_after-d.ensures) refl
