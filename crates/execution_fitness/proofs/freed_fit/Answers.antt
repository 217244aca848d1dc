-- Every entry passed is below the depth or 0.
use mathlib.Core.Path.{sym, ◌∙◌}
use Rattle.states.specs.Fit.{freed_fit}
use Rattle.states.proofs.Says.{passing-none, passing-more, passing-stop, passing-end}
use Rattle.execution_fitness.proofs.freed_fit.Goals as goal

pub loop-i-init : goal.loop-i-init
loop-i-init c = passing-none _ _

pub returns-then-not-entry_freed : goal.returns-then-not-entry_freed
unfolding freed_fit
returns-then-not-entry_freed c = passing-stop _ 16 _ c.loop-i.invariant c.loop-i-test.true (sym c.entry_freed.ensures ∙ c.if-not-entry_freed.true)

pub loop-i-preserved : goal.loop-i-preserved
loop-i-preserved c = passing-more _ 16 _ c.loop-i.invariant c.loop-i-test.true (sym c.entry_freed.ensures ∙ c.if-not-entry_freed.false)

pub returns : goal.returns
unfolding freed_fit
returns c = passing-end _ 16 _ c.loop-i.invariant c.loop-i-test.false
