-- Each answer is what the tests before it leave. Assumes nothing.
use mathlib.Core.Bool.{true, false}
use borrow.Author.Tests.{eq-eqb, ne_eqb, lt-ltb, le-ltb}
use lib.Dec.{eqb}
use Rattle.verdict.specs.Verdict.{either}
use Rattle.verdict.proofs.Truth.{both-swap}
use Rattle.states.specs.Fit.{may_wait}
use Rattle.fitness.proofs.may_wait.Goals as goal

pub returns-then-r-eq-BETWEEN : goal.returns-then-r-eq-BETWEEN
unfolding may_wait
returns-then-r-eq-BETWEEN c = rw (eq-eqb _ _ c.if-r-eq-BETWEEN.true, lt-ltb _ _ c.if-r-count.true)

pub returns-then-r-count : goal.returns-then-r-count
unfolding may_wait
returns-then-r-count c = rw (ne_eqb _ _ c.if-r-eq-BETWEEN.false, lt-ltb _ _ c.if-r-count.true) (both-swap true _)

pub returns : goal.returns
unfolding may_wait
returns c = rw (le-ltb _ _ c.if-r-count.false) (both-swap false (either (eqb c.args.r.mode 0) (eqb c.args.r.mode 3)))
