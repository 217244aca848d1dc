-- `cycles::each_other` meets its contract. Assumes nothing.
use mathlib.Core.Path.{sym, ◌∙◌}
use Rattle.verdict.proofs.Truth.{both-skip, both-stop}
use Rattle.cycles.proofs.each_other.Goals as goal

pub returns-then-reads_from : goal.returns-then-reads_from
returns-then-reads_from c = both-skip (sym c.reads_from.ensures ∙ c.if-reads_from.true) c.reads_from-then-reads_from.ensures

pub returns-else-reads_from : goal.returns-else-reads_from
returns-else-reads_from c = c.if-reads_from.false ∙ both-stop _ (sym c.reads_from.ensures ∙ c.if-reads_from.false)
