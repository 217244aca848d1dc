-- One of the two marks.
use mathlib.Core.Path.{sym, ◌∙◌}
use Rattle.file_judging.proofs.refusals.is_mark.Goals as goal

pub returns-then-is_old : goal.returns-then-is_old
returns-then-is_old c = rw (sym c.is_old.ensures ∙ c.if-is_old.true)

pub returns : goal.returns
returns c = rw (sym c.is_old.ensures ∙ c.if-is_old.false) c.is_new.ensures
