-- `execution::execute_typed` meets its contract: what accepted code says of a command with three addresses, and what it does. Assumes nothing.
use mathlib.Core.Path.{refl}
use Rattle.processor.proofs.Accepted.{three-here, three-inside, three-given, three-operands}
use Rattle.processor.proofs.Commands.{typed-done}
use Rattle.execution.proofs.execute_typed.Goals as goal

pub operands-requires : goal.operands-requires
operands-requires c = let given = c.requires in three-inside _ _ _ given.0 _ given.1 given.2

pub typed_at-requires : goal.typed_at-requires
typed_at-requires c = let given = c.requires in
    (three-operands _ given.2, three-given _ _ _ given.0 _ _ given.1 given.2 c.operands.ensures)

pub returns : goal.returns
returns c = let given = c.requires in
    typed-done _ _ _ _ 6 _ _ _ _ (three-here _ _ _ given.1 given.2) c.operands.ensures.0 c.typed_at.ensures refl
