-- `Publishing`: the variables before number i are written, and those left make of shared memory what all make of it at entry. Assumes nothing.
use Prim.Native.Nat.{◌+◌, ◌*◌}
use Rattle.starts.proofs.Laws.{Publishing}
use Rattle.starts.proofs.write_shared.Given as goal

abbrev pub invariant-loop-i : goal.invariant-loop-i
invariant-loop-i l = Publishing l.f l.layout.variables l.initial.shared l.shared (l.layout.first + 12 * l.i) l.i
