-- `machine::buffer_size` meets its contract: a file is loaded, or refused and has no buffer. Assumes nothing.
use mathlib.Core.Path.{refl, sym, ◌∙◌}
use native.Mathlib.Omega.{arith}
use borrow.Author.Tests.{eq-eqb, ne_eqb}
use Rattle.verdict.proofs.Verdict.{pick_true, pick-false}
use Rattle.verdict.proofs.Refusals.{refused}
use Rattle.machine.specs.Calls.{buffer_size}
use Rattle.taskset.proofs.Loading.{file-judged, file-accepted, file-laid}
use Rattle.machine.proofs.buffer_size.Goals as goal

pub sum_of_sizes-requires : goal.sum_of_sizes-requires
sum_of_sizes-requires c = (file-accepted c.args.file.now _ c.in-Ok.ensures refl, file-laid c.args.file.now _ c.in-Ok.ensures refl)

pub returns-in-Ok : goal.returns-in-Ok
unfolding buffer_size
returns-in-Ok c = (c.sum_of_sizes.ensures.0 ∙ sym (pick_true _ _ _ (eq-eqb _ _ (file-accepted c.args.file.now _ c.in-Ok.ensures refl))), c.sum_of_sizes.ensures.1)

pub returns-in-Err : goal.returns-in-Err
unfolding buffer_size
returns-in-Err c = (sym (pick-false _ _ _ (ne_eqb _ _ (λ e. refused _ (file-judged c.args.file.now _ c.in-Err.ensures ∙ e)))), omega arith)
