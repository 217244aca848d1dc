-- `execution::execute_frequent` meets its contract: past the commands that say where control goes, a frequent one has three addresses. Assumes nothing.
use Rattle.processor.proofs.Accepted.{frequent-three, three-here, three-inside, three-given, three-operands, next_fits}
use Rattle.processor.proofs.Commands.{typed-done}
use Rattle.execution.proofs.execute_frequent.Goals as goal

pub operands-requires : goal.operands-requires
operands-requires c = let given = c.requires in
    three-inside _ _ _ given.0 _ given.1 (frequent-three _ given.2 c.if-op-lt-PAST_CONTROL.false)

pub typed_by_command-requires : goal.typed_by_command-requires
typed_by_command-requires c = let given = c.requires in
    let three = frequent-three _ given.2 c.if-op-lt-PAST_CONTROL.false in
    (three-operands _ three, three-given _ _ _ given.0 _ _ given.1 three c.operands.ensures)

pub overflow_add-r : goal.overflow_add-r
overflow_add-r c = next_fits _ _ _ c.requires.0

pub returns : goal.returns
returns c = let given = c.requires in
    typed-done _ _ _ _ 6 _ _ _ _ (three-here _ _ _ given.1 (frequent-three _ given.2 c.if-op-lt-PAST_CONTROL.false)) c.operands.ensures.0
    c.typed_by_command.ensures c.outcome.ensures
