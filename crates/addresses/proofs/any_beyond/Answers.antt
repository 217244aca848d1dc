-- The first operand decides where it is beyond, else the second does.
use Rattle.std.proofs.Common.{sym, ◌∙◌}
use Rattle.addresses.proofs.any_beyond.Goals as goal

pub returns-then-is_beyond : goal.returns-then-is_beyond
returns-then-is_beyond c = rw (sym c.is_beyond.ensures ∙ c.if-is_beyond.true)

pub returns : goal.returns
returns c = rw (sym c.is_beyond.ensures ∙ c.if-is_beyond.false) c.is_beyond-2.ensures
