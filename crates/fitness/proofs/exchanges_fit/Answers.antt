-- The rules in their order.
use mathlib.Core.Path.{ap}
use mathlib.Core.Bool.{not}
use Rattle.states.specs.Fit.{exchanges_fit}
use Rattle.states.proofs.Says.{rejects, admits}
use Rattle.fitness.proofs.exchanges_fit.Goals as goal

pub returns-then-not-exchange_fit : goal.returns-then-not-exchange_fit
unfolding exchanges_fit
returns-then-not-exchange_fit c = rejects _ c.exchange_fit.ensures (ap not c.if-not-exchange_fit.true)

pub returns-then-not-cycles_fit : goal.returns-then-not-cycles_fit
unfolding exchanges_fit
returns-then-not-cycles_fit c = admits c.exchange_fit.ensures (ap not c.if-not-exchange_fit.false) (rejects _ c.cycles_fit.ensures (ap not c.if-not-cycles_fit.true))

pub returns : goal.returns
unfolding exchanges_fit
returns c = admits c.exchange_fit.ensures (ap not c.if-not-exchange_fit.false) (admits c.cycles_fit.ensures (ap not c.if-not-cycles_fit.false) c.holder_fit.ensures)
