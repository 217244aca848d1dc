-- Every entry passed is below the depth or 0.
use Rattle.states.specs.Fit.{entry, freed_at}
use Rattle.states.proofs.Says.{Passing}
use Rattle.execution_fitness.proofs.freed_fit.Given as goal

abbrev pub invariant-loop-i : goal.invariant-loop-i
invariant-loop-i l = Passing (λ j. freed_at l.r.depth j (entry l.places l.k j) (entry l.offsets l.k j)) 16 l.i
