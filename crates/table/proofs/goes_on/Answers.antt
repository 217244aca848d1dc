-- `table::goes_on` meets its contract. Assumes nothing.
use mathlib.Core.Path.{sym, ◌∙◌}
use Rattle.table.proofs.goes_on.Goals as goal

pub returns-then-turn : goal.returns-then-turn
returns-then-turn c = rw (sym c.turn.ensures ∙ c.if-turn.true)

pub returns : goal.returns
returns c = rw (sym c.turn.ensures ∙ c.if-turn.false, c.in_line.ensures)
