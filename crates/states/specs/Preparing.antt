-- What judging a trace and then a state finds, of an accepted file.
use Rattle.std.specs.Prelude.{ℕ, List}
use Rattle.verdict.specs.Verdict.{next}
use Rattle.taskset.specs.Trace.{trace_refusal}
use Rattle.states.specs.declared.Held.{Held}
use Rattle.states.specs.Fit.{state_refusal}

-- 22 of a trace, then 23 of a state
unfoldable pub held_refusal : List ℕ → List ℕ → Held → ℕ
held_refusal f t s = next (trace_refusal f t) (state_refusal f t s)
