-- Every entry passed lies below the data size.
use lib.Dec.{ltb}
use Rattle.states.specs.Fit.{entry}
use Rattle.states.proofs.Says.{Passing}
use Rattle.execution_fitness.proofs.offsets_fit.Given as goal

abbrev pub invariant-loop-i : goal.invariant-loop-i
invariant-loop-i l = Passing (λ j. ltb (entry l.offsets l.k j) l.size) 16 l.i
