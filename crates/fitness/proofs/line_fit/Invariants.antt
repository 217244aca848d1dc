-- The entries passed are fit, and those that are left decide. Assumes nothing.
use Rattle.states.proofs.Line.{Fitting}
use Rattle.fitness.proofs.line_fit.Given as goal

abbrev pub invariant-loop-i : goal.invariant-loop-i
invariant-loop-i l = Fitting l.file l.trace l.s l.i
