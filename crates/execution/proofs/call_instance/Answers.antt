-- Each return is a way of CALB (proofs/Commands, `calls`): the nested call is tried first, then the instance.
use Rattle.processor.proofs.Commands.{calls}
use Rattle.execution.proofs.call_instance.Goals as goal

pub returns-then-r-eq-DEEPEST : goal.returns-then-r-eq-DEEPEST
returns-then-r-eq-DEEPEST c = search calls

pub returns-then-d-instance : goal.returns-then-d-instance
returns-then-d-instance c = search calls

pub returns : goal.returns
returns c = search calls
