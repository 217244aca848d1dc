-- Every entry passed starts an instruction.
use Rattle.code.specs.Code.{is_start}
use Rattle.states.specs.Fit.{entry}
use Rattle.states.proofs.Says.{Passing}
use Rattle.execution_fitness.proofs.places_start.Given as goal

abbrev pub invariant-loop-i : goal.invariant-loop-i
invariant-loop-i l = Passing (λ j. is_start l.code (entry l.places l.k j)) 16 l.i
