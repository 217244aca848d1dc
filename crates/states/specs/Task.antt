-- An accepted file on a sound trace as a task of crate protocol, with the instructions of crate processor.
use Rattle.std.specs.Prelude.{List, ℕ}
use Rattle.protocol.specs.State.{Task}
use Rattle.protocol.specs.Instruction.{instruction_by}
use Rattle.processor.specs.Processor.{executed}
use Rattle.records.specs.File.{limit}
use Rattle.taskset.specs.Judge.{code_of}
use Rattle.taskset.specs.Task.{task_with}

unfoldable pub task_of : List ℕ → List ℕ → Task
task_of f t = task_with f t (instruction_by (limit f) (λ k c. executed (code_of f k) c.registers c.memory))
