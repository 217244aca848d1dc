-- What a step needs of a core's task, from file and trace.
use Rattle.std.specs.Prelude.{ℕ, ◌+◌, List, [], ◌∷◌, ltb, length}
use Rattle.verdict.specs.Verdict.{pick}
use Rattle.protocol.specs.Variables.{reads_of, writes_of}
use Rattle.records.specs.File.{cores}
use Rattle.taskset.specs.Layout.{no_core, core_at}
use Rattle.taskset.specs.Trace.{trace_place, record_count}
use Rattle.taskset.specs.Task.{variables_of}
use Rattle.states.specs.declared.CoreTask.{CoreTask}

unfoldable pub core_task : List ℕ → List ℕ → ℕ → CoreTask
core_task f t k = record {
  reads = length (reads_of (variables_of f) k);
  writes = length (writes_of (variables_of f) k);
  records = trace_place f t k + 2;
  count = record_count f t k;
  layout = core_at f k;
}

abbrev pub no_task : CoreTask
no_task = record { reads = 0; writes = 0; records = 0; count = 0; layout = no_core }

-- zeros for a core number from n on
unfoldable pub task_at : List ℕ → List ℕ → ℕ → CoreTask
task_at f t k = pick (ltb k (cores f)) (core_task f t k) no_task

abbrev pub tasks_of : List ℕ → List ℕ → List CoreTask
tasks_of f t = task_at f t 0 ∷ task_at f t 1 ∷ task_at f t 2 ∷ task_at f t 3 ∷ []
