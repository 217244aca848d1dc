-- Demand 3, as one claim on a list of steps. Read with document 01, "One step of a core" (specs/Step) and "The whole-exchange machine"
-- (specs/Whole); `Finished`, `brought` and `latest` are in specs/History, variables and their values in specs/Variables.
--
-- `interleaved` of proofs/Interleaving proves `Interleaved` of every list of steps, with core numbers of any size, idle steps included.
use Rattle.std.specs.Prelude.{◌≡◌, List, ℕ, T}
use Rattle.std.proofs.Math.Option.{none}
use Rattle.protocol.specs.State.{State, Task}
use Rattle.protocol.specs.Step.{run, takings}
use Rattle.protocol.specs.Whole.{whole}
use Rattle.protocol.specs.Laws.{Between}
use Rattle.protocol.specs.History.{Finished, brought, latest}
use Rattle.protocol.specs.Variables.{Variable, In, reads_it, writes_it, local, value, value_of}

-- The steps ks from the fresh state s of the task t with the variables vs.
pub record Interleaved (t : Task) (vs : List Variable) (s : State) (ks : List ℕ) : Type 0 where
  -- Where every core ends between cycles or stopped, all of the state but the semaphore (every memory, mode, flag, register, call stack and
  -- cycle number) is what the whole-exchange machine makes of the takings alone: the order of all other steps left no trace.
  pub ends-whole : Between (run t ks s) → (run t ks s).plant ≡ whole t (takings t ks s) s.plant
  -- However the list ends: for every reading exchange of a core r that it finished, and every core w, all the variables that this reading
  -- brought from w have the bytes that stood in w's data at w's latest writing exchange finished before the reading took the semaphore, or
  -- the start values if there was none. `latest` is one list of data for all of w's variables: they are of one cycle of w.
  pub reads-published : (r : ℕ) (x : Finished t s ks r) (w : ℕ) (v : Variable) → In v vs → T (reads_it r v) → T (writes_it w v)
      → value (brought x) (local r v) v.width ≡ value_of (latest t w none x.before s) s.plant.shared w v
