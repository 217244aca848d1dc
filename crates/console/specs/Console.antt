-- Document 01, "`cores`": what the program prints, from the bytes of its three files.
-- In order: a longer file; the refusal; the run from the fresh state; the text.
-- Refusals 21 and 23 are not there: the memory that is lent has its sizes, and the fresh state is fit.
use Rattle.std.specs.Prelude.{ℕ, Bool, List, length, ltb, eqb}
use Rattle.verdict.specs.Numbers.{no_such_core}
use Rattle.verdict.specs.Verdict.{pick, either, next, unless}
use Rattle.protocol.specs.Fresh.{fresh_flags}
use Rattle.protocol.specs.Step.{run, order_list}
use Rattle.records.specs.File.{cores}
use Rattle.taskset.specs.Judge.{judge}
use Rattle.taskset.specs.Fresh.{fresh_of}
use Rattle.taskset.specs.Trace.{trace_refusal}
use Rattle.states.specs.declared.Held.{Held}
use Rattle.states.specs.Machine.{held_after}
use Rattle.states.specs.Task.{task_of}
use Rattle.runner.specs.Runs.{all_below}
use Rattle.machine.specs.Calls.{table_of}
use Rattle.listing.specs.Listing.{listing, refused_text, long_text}

-- ---- a longer file

-- the task set to 82,800 bytes (document 02, 2.12), trace and order to 4,096 each
unfoldable pub too_long : ℕ → ℕ → ℕ → Bool
too_long file trace order = either (ltb 82800 file) (either (ltb 4096 trace) (ltb 4096 order))

-- ---- the refusal of the task set, of the trace (22) and of the order (20)

unfoldable pub refusal_of : List ℕ → List ℕ → List ℕ → ℕ
refusal_of f t order = next (judge f) (next (trace_refusal f t) (unless (all_below (cores f) order) no_such_core))

-- ---- the run from the fresh state

-- the state after the steps of the order
unfoldable pub state_after : List ℕ → List ℕ → List ℕ → Held
state_after f t order = held_after (cores f) (table_of (cores f) fresh_flags) (run (task_of f t) order (fresh_of f))

-- the order list's bytes
unfoldable pub takings_of : List ℕ → List ℕ → List ℕ → List ℕ
takings_of f t order = order_list (task_of f t) order (fresh_of f)

-- ---- the text

-- "A refusal prints only `refused`, a space and the number."
unfoldable pub run_text : List ℕ → List ℕ → List ℕ → List ℕ
run_text f t order =
    pick (eqb (refusal_of f t order) 0)
    (listing (cores f) (state_after f t order) (takings_of f t order))
    (refused_text (refusal_of f t order))

-- "a longer file prints `long` and nothing else"
unfoldable pub cores_text : List ℕ → List ℕ → List ℕ → List ℕ
cores_text f t order = pick (too_long (length f) (length t) (length order)) long_text (run_text f t order)
