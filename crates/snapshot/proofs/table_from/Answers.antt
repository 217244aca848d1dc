-- `snapshot::table_from` meets its contract: field by field. Assumes nothing.
use mathlib.Core.Path.{refl}
use Rattle.snapshot.proofs.table_from.Goals as goal

pub returns : goal.returns
returns c = rw c.table_count-count.ensures refl
