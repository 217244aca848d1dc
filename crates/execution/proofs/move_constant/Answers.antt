-- Each return is a way of MCD (proofs/Commands, `moves`); past the address test the copy lies inside the data.
use mathlib.Core.Path.{sym, ◌∙◌}
use native.Mathlib.Omega.{arith}
use Rattle.processor.proofs.Commands.{moves}
use Rattle.processor.proofs.Inside.{inside}
use Rattle.execution.proofs.move_constant.Goals as goal

pub returns-then-is_beyond : goal.returns-then-is_beyond
returns-then-is_beyond c = search moves

pub copy-requires : goal.copy-requires
copy-requires c = (inside _ _ _ (sym c.is_beyond.ensures ∙ c.if-is_beyond.false), omega arith)

pub returns : goal.returns
returns c = search moves
