-- `order_runs::run_order` meets its contract. The invariant: what is left of the order makes of the state now what the whole makes of the first one.
-- Assumes nothing.
use Prim.Native.Nat.{◌-◌}
use Rattle.states.specs.Machine.{state_of}
use Rattle.semaphore.specs.Line.{semaphore_of, Lined}
use Rattle.runner.specs.Running.{RunningAt}
use Rattle.order_runs.proofs.run_order.Given as goal

abbrev pub invariant-loop-i : goal.invariant-loop-i
invariant-loop-i l = RunningAt l.file l.trace l.order l.initial.list (state_of l.file l.s l.initial.buffer l.initial.shared) l.s.cores l.s.places l.s.offsets l.i l.all l.places l.offsets (semaphore_of l.line.semaphore) l.taken l.buffer l.shared l.list l.cursor × Lined l.line

abbrev pub decreases-loop-i : goal.decreases-loop-i
decreases-loop-i l = l.n - l.i
