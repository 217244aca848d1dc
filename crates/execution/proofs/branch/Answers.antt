-- Each return is a way of JZ and JNZ (proofs/Commands, `branches`); past the address test the byte lies inside the data.
use mathlib.Core.Path.{sym, ◌∙◌}
use native.Mathlib.Omega.{arith}
use Rattle.processor.proofs.Commands.{branches}
use Rattle.processor.proofs.Inside.{inside}
use Rattle.execution.proofs.branch.Goals as goal

pub returns-then-is_beyond : goal.returns-then-is_beyond
returns-then-is_beyond c = search branches

pub bounds-d-a : goal.bounds-d-a
bounds-d-a c = omega (arith, inside _ _ 1 (sym c.is_beyond.ensures ∙ c.if-is_beyond.false))

pub returns-then-zero-on_zero : goal.returns-then-zero-on_zero
returns-then-zero-on_zero c = search branches

pub returns : goal.returns
returns c = search branches
