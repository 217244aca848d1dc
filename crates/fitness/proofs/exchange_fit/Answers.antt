-- By the mode.
use borrow.Author.Tests.{eq-eqb, ne_eqb}
use Rattle.verdict.specs.Verdict.{pick}
use Rattle.states.specs.Fit.{exchange_fit}
use Rattle.fitness.proofs.exchange_fit.Goals as goal

pub returns-then-r-eq-READING : goal.returns-then-r-eq-READING
unfolding exchange_fit pick
returns-then-r-eq-READING c = rw (eq-eqb _ _ c.if-r-eq-READING.true)

pub returns-then-r-eq-WRITING : goal.returns-then-r-eq-WRITING
unfolding exchange_fit pick
returns-then-r-eq-WRITING c = rw (ne_eqb _ _ c.if-r-eq-READING.false, eq-eqb _ _ c.if-r-eq-WRITING.true)

pub returns : goal.returns
unfolding exchange_fit pick
returns c = rw (ne_eqb _ _ c.if-r-eq-READING.false, ne_eqb _ _ c.if-r-eq-WRITING.false)
