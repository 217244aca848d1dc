-- Document 02, 2.13, rerun from the order of takings, as a call: its answer and every lent byte, for every input. In order: the refusal; what is left.
use Rattle.std.specs.Prelude.{List, [], map, ℕ, eqb, length}
use Rattle.verdict.specs.Numbers.{bad_lengths, not_produced}
use Rattle.verdict.specs.Verdict.{pick, next, unless}
use Rattle.protocol.specs.State.{State}
use Rattle.protocol.specs.Fresh.{fresh_flags}
use Rattle.protocol.specs.Rerun.{legal, rerun_end, decoded}
use Rattle.records.specs.File.{cores}
use Rattle.taskset.specs.Judge.{judge}
use Rattle.taskset.specs.Trace.{trace_refusal}
use Rattle.taskset.specs.Fresh.{fresh_of}
use Rattle.states.specs.Task.{task_of}
use Rattle.states.specs.Machine.{held_after, data_of}
use Rattle.runner.specs.Runs.{Left, left_as}
use Rattle.machine.specs.Calls.{lent_fits, answer_of, table_of}

-- ---- the refusal: file, 21, 22, and last "33, a list that no order of steps produces (one with a byte that names no core included)"

-- the order list is one that the whole-exchange machine has to do; `rerun-machine` says that it is exactly if some order of steps produces it
unfoldable pub list_refusal : List ℕ → List ℕ → List ℕ → ℕ
list_refusal f t list = unless (legal (task_of f t) (map decoded list) (fresh_of f).plant) not_produced

-- data buffer and shared memory of these sizes are lent
unfoldable pub rerun_refusal : List ℕ → List ℕ → List ℕ → ℕ → ℕ → ℕ
rerun_refusal f t list buffer shared = next (judge f) (next (unless (lent_fits f buffer shared) bad_lengths) (next (trace_refusal f t) (list_refusal f t list)))

-- ---- what is left

-- where the rerun ends: the semaphore is free and nobody in line
abbrev pub reran : List ℕ → List ℕ → List ℕ → State
reran f t list = rerun_end (task_of f t) (map decoded list) (fresh_of f)

-- its answer and the memories d and sh afterwards; all of the list's takings are done
unfoldable pub rerun_left : List ℕ → List ℕ → List ℕ → Left
rerun_left f t list =
    left_as
    (record { refusal = 0; taken = length list; state = held_after (cores f) (table_of (cores f) fresh_flags) (reran f t list) })
    (data_of (reran f t list))
    (reran f t list).plant.shared
    []

-- a refused call changes no lent byte, and gives a table of no cores
unfoldable pub rerun_call : List ℕ → List ℕ → List ℕ → List ℕ → List ℕ → Left
rerun_call f t list d sh =
    pick (eqb (rerun_refusal f t list (length d) (length sh)) 0)
    (rerun_left f t list)
    (left_as (answer_of (rerun_refusal f t list (length d) (length sh)) (table_of 0 0)) d sh [])
