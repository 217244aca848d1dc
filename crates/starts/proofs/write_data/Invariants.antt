-- `Filling`: the data of the first k cores are written, and zeros follow. Assumes nothing.
use Rattle.starts.proofs.Laws.{Filling}
use Rattle.starts.proofs.write_data.Given as goal

abbrev pub invariant-loop-k : goal.invariant-loop-k
invariant-loop-k l = Filling l.f l.buffer l.p l.a l.k
