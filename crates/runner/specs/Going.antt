-- What a run is given: what the judging of file, trace, state, lent memory and order has shown.
use Rattle.std.specs.Prelude.{◌≡◌, true, List, ℕ, suc, ◌≤◌, ◌<◌, length, get_or}
use Rattle.memory.specs.Memory.{total}
use Rattle.exchange.specs.declared.Cursor.{Cursor}
use Rattle.records.specs.File.{cores, variables, record_place}
use Rattle.taskset.specs.Task.{sizes_of}
use Rattle.states.specs.declared.Held.{Held}
use Rattle.states.specs.declared.CoreTask.{CoreTask}
use Rattle.states.specs.Tasks.{core_task, no_task}
use Rattle.states.specs.Set.{AcceptedSet}
use Rattle.states.specs.Machine.{no_registers, state_of}
use Rattle.states.specs.Fit.{Fit}
use Rattle.steps.specs.Moving.{CursorAimed}
use Rattle.runner.specs.Runs.{all_below}

pub record RunGiven (f t : List ℕ) (tasks : List CoreTask) (first end : ℕ) (order : List ℕ) (s : Held) (cursor : Cursor) (d sh list : List ℕ) : Type 0 where
  pub accepted : AcceptedSet f t
  pub tasked : (k : ℕ) → k < cores f → get_or tasks k no_task ≡ core_task f t k
  pub from : first ≡ record_place f 0
  pub upto : end ≡ record_place f (variables f)
  pub below : all_below (cores f) order ≡ true
  pub room : length order ≤ length list
  pub buffer : length d ≡ total (sizes_of f)
  pub fit : Fit f t (state_of f s d sh)
  pub aimed : (k : ℕ) → k < cores f → s.semaphore.holder ≡ suc k → CursorAimed f k (get_or s.cores k no_registers) cursor
