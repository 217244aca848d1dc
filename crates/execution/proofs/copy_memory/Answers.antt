-- Each return is a way of MEMCP (proofs/Commands, `moves`); past the address test both stretches lie inside the data.
use mathlib.Core.Path.{sym, ◌∙◌}
use native.Mathlib.Omega.{arith}
use Rattle.processor.proofs.Commands.{moves}
use Rattle.processor.proofs.Inside.{both-inside}
use Rattle.execution.proofs.copy_memory.Goals as goal

pub returns-then-any_beyond : goal.returns-then-any_beyond
returns-then-any_beyond c = search moves

pub copy_within-requires : goal.copy_within-requires
copy_within-requires c = let z = both-inside _ _ _ _ _ (sym c.any_beyond.ensures ∙ c.if-any_beyond.false) in (z.0, z.1, omega arith)

pub returns : goal.returns
returns c = search moves
