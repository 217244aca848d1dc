-- `cycles::passes` meets its contract. Assumes nothing.
use mathlib.Core.Path.{sym, ◌∙◌}
use Rattle.verdict.proofs.Truth.{both-skip, both-stop}
use Rattle.cycles.proofs.passes.Goals as goal

pub returns-then-reads : goal.returns-then-reads
returns-then-reads c = both-skip (sym c.reads.ensures ∙ c.if-reads.true) c.writes.ensures

pub returns-else-reads : goal.returns-else-reads
returns-else-reads c = c.if-reads.false ∙ both-stop _ (sym c.reads.ensures ∙ c.if-reads.false)
