-- `machine::idle_table` meets its contract, by computation. Assumes nothing.
use mathlib.Core.Path.{refl}
use Rattle.machine.specs.Calls.{table_of}
use Rattle.machine.proofs.fresh_state.idle_table.Goals as goal

pub returns : goal.returns
unfolding table_of
returns c = rw c.idle_core-core.ensures refl
