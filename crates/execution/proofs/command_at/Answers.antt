-- `execution::command_at` meets its contract: an instruction of accepted code starts there. Assumes nothing.
use mathlib.Core.Path.{refl}
use native.Mathlib.Omega.{arith}
use Rattle.code.proofs.Sound.{inside-code}
use Rattle.processor.proofs.Accepted.{command-low}
use Rattle.execution.proofs.command_at.Goals as goal

pub bounds-code-counter : goal.bounds-code-counter
bounds-code-counter c = inside-code _ _ c.requires.1

pub returns : goal.returns
returns c = let given = c.requires in
    (refl, command-low _ _ given.0 given.1 (omega (arith, c.type_inv.code c.args.counter)))
