-- The rules in their order.
use mathlib.Core.Path.{refl}
use borrow.Author.Tests.{le-leb, lt-leb}
use mathlib.Core.Path.{ap}
use mathlib.Core.Bool.{not}
use Rattle.states.specs.Fit.{execution_fit}
use Rattle.states.proofs.Says.{fails, passes, rejects, admits}
use Rattle.execution_fitness.proofs.execution_fit.Goals as goal

pub returns-then-r-gt-STOPPED : goal.returns-then-r-gt-STOPPED
unfolding execution_fit
returns-then-r-gt-STOPPED c = fails _ (lt-leb _ _ c.if-r-gt-STOPPED.true)

pub returns-then-not-places_fit : goal.returns-then-not-places_fit
unfolding execution_fit
returns-then-not-places_fit c = passes (le-leb _ _ c.if-r-gt-STOPPED.false) (rejects _ c.places_fit.ensures (ap not c.if-not-places_fit.true))

pub returns-then-not-offsets_fit : goal.returns-then-not-offsets_fit
unfolding execution_fit
returns-then-not-offsets_fit c = passes (le-leb _ _ c.if-r-gt-STOPPED.false) (admits c.places_fit.ensures (ap not c.if-not-places_fit.false) (rejects _ c.offsets_fit.ensures (ap not c.if-not-offsets_fit.true)))

pub returns-then-not-depth_fit : goal.returns-then-not-depth_fit
unfolding execution_fit
returns-then-not-depth_fit c = passes (le-leb _ _ c.if-r-gt-STOPPED.false) (admits c.places_fit.ensures (ap not c.if-not-places_fit.false)
    (admits c.offsets_fit.ensures (ap not c.if-not-offsets_fit.false) (rejects _ c.depth_fit.ensures (ap not c.if-not-depth_fit.true))))

pub returns : goal.returns
unfolding execution_fit
returns c = passes (le-leb _ _ c.if-r-gt-STOPPED.false) (admits c.places_fit.ensures (ap not c.if-not-places_fit.false)
    (admits c.offsets_fit.ensures (ap not c.if-not-offsets_fit.false)
    (admits c.depth_fit.ensures (ap not c.if-not-depth_fit.false) refl)))
