-- `core_runs::run_alone` meets its contract. The invariant: the instructions so far are steps of core k. Assumes nothing.
use Rattle.runner.specs.Executing.{Executes}
use Rattle.runner.proofs.Executing.{left_of}
use Rattle.core_runs.proofs.run_alone.Given as goal

abbrev pub invariant-loop-r : goal.invariant-loop-r
invariant-loop-r l = Executes l.file l.trace l.k l.initial.r l.initial.places l.initial.offsets l.initial.buffer l.r l.places l.offsets l.buffer

abbrev pub decreases-loop-r : goal.decreases-loop-r
decreases-loop-r l = left_of l.r
