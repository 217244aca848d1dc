-- No place is above 65,535.
use Prim.Native.Nat.{◌+◌, ◌*◌, ◌≤◌}
use Rattle.execution_fitness.proofs.walked.Given as goal

abbrev pub invariant-loop-i : goal.invariant-loop-i
invariant-loop-i l = l.sum ≤ 65535 * (l.i + 1)
