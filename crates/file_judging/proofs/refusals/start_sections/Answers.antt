-- All cores in the new form, none in the old.
use mathlib.Core.Path.{sym, ◌∙◌}
use native.Mathlib.Omega.{arith}
use Rattle.verdict.proofs.Verdict.{pick_true, pick-false}
use Rattle.file_judging.proofs.refusals.start_sections.Goals as goal

pub returns-then-is_new : goal.returns-then-is_new
returns-then-is_new c = (c.requires.1 ∙ sym (pick_true _ _ _ (sym c.is_new.ensures ∙ c.if-is_new.true)), omega arith)

pub returns : goal.returns
returns c = (sym (pick-false _ _ _ (sym c.is_new.ensures ∙ c.if-is_new.false)), omega arith)
