-- `runs::step` meets its contract: a step is the run of an order of one byte. Assumes nothing.
use Rattle.runs.proofs.Steps.{step-as-run}
use Rattle.runs.proofs.step.Goals as goal

pub returns : goal.returns
returns c = let a = c.args in
    step-as-run a.file.now a.trace.now a.s a.buffer.now a.shared.now a.core 0 _ _ _ _ c.run.ensures
