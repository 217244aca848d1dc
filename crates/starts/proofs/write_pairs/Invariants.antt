-- `Pairing`: i start values are written, and what is left makes of the data what all make of them at entry. Assumes nothing.
use Prim.Native.Nat.{◌+◌, ◌*◌}
use Rattle.starts.proofs.Laws.{Pairing}
use Rattle.starts.proofs.write_pairs.Given as goal

abbrev pub invariant-loop-i : goal.invariant-loop-i
invariant-loop-i l = Pairing l.f l.q l.n l.initial.d l.d (l.q + 3 * l.i) l.i
