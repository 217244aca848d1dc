-- `table_runs::step_with` meets its contract: the step by value, on the state with the lent registers. Assumes nothing.
use borrow.Author.Rules.{rules}
use Rattle.snapshot.specs.Snapshot.{step_registers}
use Rattle.table_runs.proofs.step_with.Goals as goal

pub returns : goal.returns
unfolding step_registers
returns c = (rw c.with_registers.ensures at c.step-ran.ensures, c.registers_of-after.ensures)
