-- `execution::execute` meets its contract, by the code byte. Assumes nothing.
use mathlib.Core.Path.{sym, ◌∙◌}
use Rattle.processor.proofs.Accepted.{next_fits}
use Rattle.execution.proofs.execute.Goals as goal

pub execute_typed-requires : goal.execute_typed-requires
execute_typed-requires c = (c.requires, sym c.command_at-op.ensures.0, sym c.has_three.ensures ∙ c.if-has_three.true)

pub overflow_add-r : goal.overflow_add-r
overflow_add-r c = next_fits _ _ _ c.requires

pub returns-then-has_three : goal.returns-then-has_three
returns-then-has_three c = rw c.outcome.ensures c.execute_typed.ensures

pub execute_other-requires : goal.execute_other-requires
execute_other-requires c = (c.requires, sym c.command_at-op.ensures.0, sym c.has_three.ensures ∙ c.if-has_three.false)
