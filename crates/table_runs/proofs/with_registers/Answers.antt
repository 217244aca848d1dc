-- `table_runs::with_registers` meets its contract: field by field. Assumes nothing.
use borrow.Author.Rules.{rules}
use mathlib.Core.Path.{refl}
use Rattle.snapshot.specs.Snapshot.{with_registers}
use Rattle.table_runs.proofs.with_registers.Goals as goal

pub returns : goal.returns
unfolding with_registers
returns c = rw c.set_registers-cores.ensures refl
