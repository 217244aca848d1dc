-- Demand 3 of the real machine. `interleaved-machine` of proofs/Interleaving proves `MachineInterleaved` of every accepted file, every trace and
-- every list of steps, core numbers of any size and idle steps included, from the fresh state.
--
-- `task_of f t` is the task that the contracts of the steps and of the run of an order cite (crates steps and order_runs): the input
-- records of the trace t, the byte moves of the file's variables, its limits, and document 01's instructions over its code. `Interleaved` has the
-- two claims, with each word of them in formulas (crate protocol, specs/Interleaving).
use Rattle.std.specs.Prelude.{List, ℕ}
use Rattle.protocol.specs.Interleaving.{Interleaved}
use Rattle.taskset.specs.Task.{variables_of}
use Rattle.taskset.specs.Fresh.{fresh_of}
use Rattle.states.specs.Task.{task_of}

-- The steps ks of the cores of the file f on the trace t
abbrev pub MachineInterleaved : List ℕ → List ℕ → List ℕ → Type 0
MachineInterleaved f t ks = Interleaved (task_of f t) (variables_of f) (fresh_of f) ks
