-- By the mode.
use borrow.Author.Tests.{le-leb, lt-leb}
use Rattle.verdict.specs.Verdict.{pick}
use Rattle.states.specs.Fit.{cycles_fit}
use Rattle.fitness.proofs.cycles_fit.Goals as goal

pub returns-then-r-lt-READING : goal.returns-then-r-lt-READING
unfolding cycles_fit pick
returns-then-r-lt-READING c = rw (lt-leb _ _ c.if-r-lt-READING.true)

pub returns-then-r-gt-WRITING : goal.returns-then-r-gt-WRITING
unfolding cycles_fit pick
returns-then-r-gt-WRITING c = rw (le-leb _ _ c.if-r-lt-READING.false, lt-leb _ _ c.if-r-gt-WRITING.true)

pub returns : goal.returns
unfolding cycles_fit pick
returns c = rw (le-leb _ _ c.if-r-lt-READING.false, le-leb _ _ c.if-r-gt-WRITING.false)
