-- What a reader sees before the first writing: demand 3 says that it is what shared memory holds in the fresh state, and that holds the writer's start bytes.
-- Assumes nothing.
use mathlib.Core.Path.{◌≡◌, ap, ◌∙◌}
use mathlib.Core.List.{List}
use mathlib.Core.Option.{Option}
use Prim.Native.Nat.{ℕ, ◌<◌}
use lib.ListN.{length, get_or}
use Rattle.protocol.specs.Variables.{value_of}
use Rattle.taskset.specs.Judge.{judge}
use Rattle.taskset.specs.Trace.{trace_refusal}
use Rattle.taskset.specs.Fresh.{fresh_of}
use Rattle.taskset.proofs.Starts.{start-values}
use Rattle.verdict.proofs.Verdict.{next-zero}
use Rattle.machine.specs.Calls.{fresh_refusal, fresh_call}
use Rattle.calls.specs.Calling.{Call, steps_of}
use Rattle.calls.specs.Starts.{StartsSeen, CallsStartsSeen}
use Rattle.calls.proofs.Interleaving.{interleaved-machine}
use Rattle.calls.proofs.Calling.{calls-interleaved}

pub starts-seen : (f t : List ℕ) → judge f ≡ 0 → (ks : List ℕ) → StartsSeen f t ks
starts-seen f t accepted ks r x w none_yet v m reads writes =
    (interleaved-machine f t accepted ks).reads-published r x w v m reads writes
    ∙ ap (λ (o : Option (List ℕ)). value_of o (fresh_of f).plant.shared w v) none_yet
    ∙ (start-values f accepted).seen v m w writes

-- That f and t are bytes is known of the types
pub calls-starts-seen : (f t : List ℕ) → ((i : ℕ) → get_or f i 0 < 256) → ((i : ℕ) → get_or t i 0 < 256) → (d sh : List ℕ) → fresh_refusal f (length d) (length sh) ≡ 0
    → trace_refusal f t ≡ 0 → (cs : List Call) → CallsStartsSeen f t d sh cs
unfolding fresh_refusal
calls-starts-seen f t bytes trace-bytes d sh e sound cs = record {
  steps = (calls-interleaved f t bytes trace-bytes d sh e sound cs).steps;
  seen = starts-seen f t (next-zero (judge f) _ e).0 (steps_of f t cs (fresh_call f d sh));
}
