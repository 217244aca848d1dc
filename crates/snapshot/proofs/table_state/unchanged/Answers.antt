-- `snapshot::table_state::unchanged` meets its contract: by computation. Assumes nothing.
use mathlib.Core.Path.{refl}
use Rattle.snapshot.proofs.table_state.unchanged.Goals as goal

pub returns : goal.returns
returns c = refl
