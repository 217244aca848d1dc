-- `cycles::line_between` meets its contract. Assumes nothing.
use mathlib.Core.Path.{sym, ◌∙◌}
use Rattle.verdict.proofs.Truth.{either-skip, either-stop}
use Rattle.cycles.proofs.line_between.Goals as goal

pub returns-then-reads_from : goal.returns-then-reads_from
returns-then-reads_from c = c.if-reads_from.true ∙ either-stop _ (sym c.reads_from.ensures ∙ c.if-reads_from.true)

pub returns-else-reads_from : goal.returns-else-reads_from
returns-else-reads_from c = either-skip (sym c.reads_from.ensures ∙ c.if-reads_from.false) c.reads_from-else-reads_from.ensures
