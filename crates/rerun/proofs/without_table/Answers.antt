-- `rerun::without_table` meets its contract. Assumes nothing.
use mathlib.Core.Path.{ap₂, ◌∙◌}
use Rattle.machine.specs.Calls.{answer_of}
use Rattle.rerun.proofs.without_table.Goals as goal

pub returns : goal.returns
returns c = c.answer.ensures ∙ ap₂ answer_of c.number.ensures.0 c.idle_table.ensures
