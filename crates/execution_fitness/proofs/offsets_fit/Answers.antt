-- Every entry passed lies below the data size.
use mathlib.Core.Path.{sym, ◌∙◌}
use mathlib.Core.Path.{ap}
use mathlib.Core.Bool.{not}
use Rattle.states.specs.Fit.{offsets_fit}
use Rattle.states.proofs.Says.{passing-none, passing-more, passing-stop, passing-end, rejects, admits}
use Rattle.execution_fitness.proofs.offsets_fit.Goals as goal

pub returns-then-not-below : goal.returns-then-not-below
unfolding offsets_fit
returns-then-not-below c = rejects _ c.below.ensures (ap not c.if-not-below.true)

pub loop-i-init : goal.loop-i-init
loop-i-init c = passing-none _ _

pub returns-then-not-below-2 : goal.returns-then-not-below-2
unfolding offsets_fit
returns-then-not-below-2 c = admits c.below.ensures (ap not c.if-not-below.false)
    (passing-stop _ 16 _ c.loop-i.invariant c.loop-i-test.true (sym c.below-in-loop-i.ensures ∙ c.if-not-below-2.true))

pub loop-i-preserved : goal.loop-i-preserved
loop-i-preserved c = passing-more _ 16 _ c.loop-i.invariant c.loop-i-test.true (sym c.below-in-loop-i.ensures ∙ c.if-not-below-2.false)

pub returns : goal.returns
unfolding offsets_fit
returns c = admits c.below.ensures (ap not c.if-not-below.false) (passing-end _ 16 _ c.loop-i.invariant c.loop-i-test.false)
