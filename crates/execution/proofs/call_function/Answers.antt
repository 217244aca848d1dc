-- Each return is a way of CALF (proofs/Commands, `calls`).
use Rattle.processor.proofs.Commands.{calls}
use Rattle.execution.proofs.call_function.Goals as goal

pub returns-then-r-eq-DEEPEST : goal.returns-then-r-eq-DEEPEST
returns-then-r-eq-DEEPEST c = search calls

pub returns : goal.returns
returns c = search calls
