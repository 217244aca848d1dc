-- Document 02, 2.12: "shared memory holds for each variable the writer's start bytes, which is what a reader sees before the first writing." Of every list of
-- steps from the fresh state, and of every list of calls: these are the start values of demand 3 (crate protocol, specs/Interleaving). `starts-seen` of
-- proofs/Starts proves `StartsSeen`, `calls-starts-seen` the same of calls. Not here: what the fresh state holds (crate taskset, specs/Fresh).
use Rattle.std.specs.Prelude.{◌≡◌, List, ℕ, T}
use Rattle.std.proofs.Math.Option.{none}
use Rattle.protocol.specs.State.{core}
use Rattle.protocol.specs.Step.{run}
use Rattle.protocol.specs.History.{Finished, brought, latest}
use Rattle.protocol.specs.Variables.{Variable, In, reads_it, writes_it, local, value}
use Rattle.taskset.specs.Task.{variables_of}
use Rattle.taskset.specs.Fresh.{fresh_of}
use Rattle.states.specs.Task.{task_of}
use Rattle.machine.specs.Calls.{fresh_call}
use Rattle.calls.specs.Calling.{Call, calls, whole_of, steps_of}

-- A reading of core r that the steps finished, where core w had finished no writing before it took the semaphore: every variable that it brought from w has
-- the bytes that w's data hold in the fresh state
abbrev pub StartsSeen : List ℕ → List ℕ → List ℕ → Type 0
StartsSeen f t ks =
    (r : ℕ) (x : Finished (task_of f t) (fresh_of f) ks r) (w : ℕ) → latest (task_of f t) w none x.before (fresh_of f) ≡ none
    → (v : Variable) → In v (variables_of f) → T (reads_it r v) → T (writes_it w v)
    → value (brought x) (local r v) v.width ≡ value (core (fresh_of f).plant w).memory (local w v) v.width

-- The calls cs, from the call for the fresh state that was lent the memories d and sh
pub record CallsStartsSeen (f t d sh : List ℕ) (cs : List Call) : Type 0 where
  pub steps : whole_of f (calls f t cs (fresh_call f d sh)) ≡ run (task_of f t) (steps_of f t cs (fresh_call f d sh)) (fresh_of f)
  pub seen : StartsSeen f t (steps_of f t cs (fresh_call f d sh))
