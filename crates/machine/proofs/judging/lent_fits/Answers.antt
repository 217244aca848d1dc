-- `machine::lent_fits` meets its contract. Assumes nothing.
use mathlib.Core.Path.{sym, ◌∙◌}
use borrow.Author.Tests.{eq-eqb, ne_eqb}
use Rattle.machine.specs.Calls.{lent_fits}
use Rattle.machine.proofs.judging.lent_fits.Goals as goal

pub returns-then-buffer-sum_of_sizes : goal.returns-then-buffer-sum_of_sizes
unfolding lent_fits
returns-then-buffer-sum_of_sizes c = rw (eq-eqb _ _ (c.if-buffer-sum_of_sizes.true ∙ c.sum_of_sizes.ensures.0))

pub returns : goal.returns
unfolding lent_fits
returns c = rw (ne_eqb _ _ (λ e. c.if-buffer-sum_of_sizes.false (e ∙ sym c.sum_of_sizes.ensures.0)))
