-- `core_runs::run_core` meets its contract. The invariant: any run that stood before the first step stands before this one. Assumes nothing.
use Prim.Native.Nat.{◌+◌, ◌-◌, ◌≤◌}
use Rattle.runner.specs.Running.{executing_at, CarriesRun}
use Rattle.core_runs.proofs.run_core.Given as goal

abbrev pub invariant-loop-step : goal.invariant-loop-step
invariant-loop-step l = (l.from ≤ l.step) × CarriesRun l.file l.trace l.order l.k l.from l.before l.initial.places l.initial.offsets l.initial.buffer l.step (executing_at l.before l.counter l.offset l.depth (l.before.count + (l.step - l.from))) l.places l.offsets l.buffer
