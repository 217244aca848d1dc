-- By the mode.
use borrow.Author.Tests.{eq-eqb, ne_eqb}
use Rattle.verdict.specs.Verdict.{pick}
use Rattle.states.specs.Fit.{depth_fit}
use Rattle.execution_fitness.proofs.depth_fit.Goals as goal

pub returns-then-r-eq-EXECUTING : goal.returns-then-r-eq-EXECUTING
unfolding depth_fit pick
returns-then-r-eq-EXECUTING c = rw (eq-eqb _ _ c.if-r-eq-EXECUTING.true)

pub returns-then-r-eq-STOPPED : goal.returns-then-r-eq-STOPPED
unfolding depth_fit pick
returns-then-r-eq-STOPPED c = rw (ne_eqb _ _ c.if-r-eq-EXECUTING.false, eq-eqb _ _ c.if-r-eq-STOPPED.true)

pub returns : goal.returns
unfolding depth_fit pick
returns c = rw (ne_eqb _ _ c.if-r-eq-EXECUTING.false, ne_eqb _ _ c.if-r-eq-STOPPED.false)
