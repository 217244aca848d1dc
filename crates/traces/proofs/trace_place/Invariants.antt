-- From core to core: a count and the records.
use Prim.Native.Nat.{◌*◌, ◌≤◌}
use mathlib.Core.Path.{◌≡◌}
use Rattle.taskset.specs.Trace.{trace_place}
use Rattle.traces.proofs.trace_place.Given as goal

abbrev pub invariant-loop-i : goal.invariant-loop-i
invariant-loop-i l = (l.p ≡ trace_place l.f l.t l.i) × (l.p ≤ 5000000000 * l.i)
