-- `memory::load` meets its contract. The invariant: v is the number in the bytes behind those that are left to read. Assumes nothing.
use Rattle.std.specs.Iterator.Adapters.{rev_source}
use Rattle.std.specs.Slice.Iter.{iter_rest}
use Rattle.memory.proofs.Turns.{Reading}
use Rattle.memory.proofs.load.Given as goal

abbrev pub invariant-loop-b : goal.invariant-loop-b
invariant-loop-b l = Reading l.d l.place l.width l.v (iter_rest (rev_source l.b-iterator))
