-- Demand 3 of the real machine: crate protocol's theorem, with its hypotheses met by acceptance and by document 01's instructions.
-- Assumes nothing.
use mathlib.Core.Path.{◌≡◌, refl}
use mathlib.Core.List.{List}
use Prim.Native.Nat.{ℕ}
use Rattle.protocol.proofs.Interleaving.{interleaved}
use Rattle.processor.proofs.Kept.{instruction-laws}
use Rattle.taskset.specs.Judge.{code_of, judge}
use Rattle.taskset.specs.Task.{variables_of}
use Rattle.taskset.specs.Fresh.{fresh_of}
use Rattle.taskset.proofs.Accepted.{variables-accepted, fresh-of}
use Rattle.states.specs.Task.{task_of}
use Rattle.calls.specs.Interleaving.{MachineInterleaved}

pub interleaved-machine : (f t : List ℕ) → judge f ≡ 0 → (ks : List ℕ) → MachineInterleaved f t ks
unfolding task_of
interleaved-machine f t accepted ks =
    interleaved (task_of f t) (variables_of f) (fresh_of f) refl refl (instruction-laws (task_of f t) (code_of f) refl) (fresh-of f) (variables-accepted f accepted) ks
