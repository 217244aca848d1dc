-- Every entry passed starts an instruction.
use mathlib.Core.Path.{sym, ◌∙◌}
use mathlib.Core.Path.{ap}
use mathlib.Core.Bool.{not}
use Rattle.states.specs.Fit.{places_fit}
use Rattle.states.proofs.Says.{passing-none, passing-more, passing-stop, passing-end, rejects, admits}
use Rattle.execution_fitness.proofs.places_start.Goals as goal

pub starts_at-requires : goal.starts_at-requires
starts_at-requires c = (c.requires.0, c.requires.1)

pub returns-then-not-starts_at : goal.returns-then-not-starts_at
unfolding places_fit
returns-then-not-starts_at c = rejects _ c.starts_at.ensures (ap not c.if-not-starts_at.true)

pub loop-i-init : goal.loop-i-init
loop-i-init c = passing-none _ _

pub starts_at-requires-in-loop-i : goal.starts_at-requires-in-loop-i
starts_at-requires-in-loop-i c = (c.requires.0, c.requires.1)

pub returns-then-not-starts_at-2 : goal.returns-then-not-starts_at-2
unfolding places_fit
returns-then-not-starts_at-2 c = admits c.starts_at.ensures (ap not c.if-not-starts_at.false)
    (passing-stop _ 16 _ c.loop-i.invariant c.loop-i-test.true (sym c.starts_at-in-loop-i.ensures ∙ c.if-not-starts_at-2.true))

pub loop-i-preserved : goal.loop-i-preserved
loop-i-preserved c = passing-more _ 16 _ c.loop-i.invariant c.loop-i-test.true (sym c.starts_at-in-loop-i.ensures ∙ c.if-not-starts_at-2.false)

pub returns : goal.returns
unfolding places_fit
returns c = admits c.starts_at.ensures (ap not c.if-not-starts_at.false) (passing-end _ 16 _ c.loop-i.invariant c.loop-i-test.false)
