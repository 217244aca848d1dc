-- `table_runs::run_table` meets its contract: the run by value, on the state that the table holds; refused, or not. Assumes nothing.
use borrow.Author.Rules.{rules}
use Rattle.snapshot.proofs.Laws.{run-stays, run-moves}
use Rattle.table_runs.proofs.run_table.Goals as goal

pub returns-then-ran-ne0 : goal.returns-then-ran-ne0
returns-then-ran-ne0 c = run-stays _ _ _ _ _ _ _ _ _ _ _ _ _ _ _ c.state_of-s.ensures c.run-ran.ensures c.if-ran-ne0.true c.unchanged.ensures

pub returns : goal.returns
returns c = run-moves _ _ _ _ _ _ _ _ _ _ _ _ _ _ _ c.state_of-s.ensures c.run-ran.ensures c.if-ran-ne0.false c.accepted.ensures
