-- `steps::begin_writing` meets its contract. Assumes nothing.
use Rattle.verdict.specs.Verdict.{pick}
use Rattle.steps.proofs.begin_writing.Goals as goal

pub returns-then-not-turn : goal.returns-then-not-turn
unfolding pick
returns-then-not-turn c = rw (c.if-not-turn.true)

pub returns : goal.returns
unfolding pick
returns c = rw (c.if-not-turn.false)
