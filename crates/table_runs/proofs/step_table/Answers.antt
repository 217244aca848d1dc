-- `table_runs::step_table` meets its contract: the step by value, on the state that the table holds; refused, or not. Assumes nothing.
use borrow.Author.Rules.{rules}
use Rattle.snapshot.proofs.Laws.{step_stays, step-moves}
use Rattle.table_runs.proofs.step_table.Goals as goal

pub returns-then-stepped-ne0 : goal.returns-then-stepped-ne0
returns-then-stepped-ne0 c = step_stays _ _ _ _ _ _ _ _ _ _ _ _ c.state_of-s.ensures c.step-stepped.ensures c.if-stepped-ne0.true c.unchanged.ensures

pub returns : goal.returns
returns c = step-moves _ _ _ _ _ _ _ _ _ _ _ _ c.state_of-s.ensures c.step-stepped.ensures c.if-stepped-ne0.false c.accepted.ensures
