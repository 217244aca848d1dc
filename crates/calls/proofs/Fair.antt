-- The fair line of the real machine: crate protocol's theorem, with its hypotheses met by document 01's instructions, and calls as their steps.
-- Assumes nothing.
use mathlib.Core.Path.{◌≡◌, refl}
use mathlib.Core.List.{List}
use Prim.Native.Nat.{ℕ, ◌<◌}
use lib.ListN.{length, get_or}
use Rattle.protocol.proofs.Fair.{fair-holds}
use Rattle.processor.proofs.Kept.{instruction-laws}
use Rattle.taskset.specs.Judge.{code_of}
use Rattle.taskset.specs.Fresh.{fresh_of}
use Rattle.taskset.proofs.Accepted.{fresh-of, fresh-cores}
use Rattle.taskset.specs.Trace.{trace_refusal}
use Rattle.states.specs.Task.{task_of}
use Rattle.machine.specs.Calls.{fresh_refusal, fresh_call}
use Rattle.calls.specs.Calling.{Call, steps_of}
use Rattle.calls.specs.Fair.{MachineFair, CallsFair}
use Rattle.calls.proofs.Calling.{calls-interleaved}

pub fair-machine : (f t ks : List ℕ) → MachineFair f t ks
unfolding task_of
fair-machine f t ks = record {
  table = fresh-cores f;
  fair = fair-holds (task_of f t) (instruction-laws (task_of f t) (code_of f) refl) (fresh_of f) (fresh-of f) ks;
}

-- That f and t are bytes is known of the types
pub calls-fair : (f t : List ℕ) → ((i : ℕ) → get_or f i 0 < 256) → ((i : ℕ) → get_or t i 0 < 256) → (d sh : List ℕ) → fresh_refusal f (length d) (length sh) ≡ 0
    → trace_refusal f t ≡ 0 → (cs : List Call) → CallsFair f t d sh cs
calls-fair f t bytes trace-bytes d sh e sound cs = record {
  steps = (calls-interleaved f t bytes trace-bytes d sh e sound cs).steps;
  fair = fair-machine f t (steps_of f t cs (fresh_call f d sh));
}
