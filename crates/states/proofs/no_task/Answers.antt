-- `states::no_task` meets its contract: the layout of no core is all zeros too. Assumes nothing.
use mathlib.Core.Path.{ap}
use Rattle.taskset.specs.declared.CoreLayout.{CoreLayout}
use Rattle.states.proofs.no_task.Goals as goal

pub returns : goal.returns
returns c = ap (λ (l : CoreLayout). record { reads = 0; writes = 0; records = 0; count = 0; layout = l }) c.no_core.ensures
