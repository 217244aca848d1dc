-- Cores that truly run at once: no two steps meet but at the semaphore, of the real machine. In order: what a step touches; steps; calls; calls on a lent
-- core table. `footprint-right-machine`, `race-free-machine`, `steps-commute-machine`, `swaps-alike-machine`, `fit-race-free`, `calls-race-free`, `calls-alike`,
-- `lent-race-free` and `lent_Alike` of proofs/RealCores prove what their names say.
-- Not here: the places of a step, and what `FootprintRight`, `RaceFree`, `Independent`, `Swaps` and `Alike` mean (crate races); the data of each instruction
-- (crate operands).
use Rattle.std.specs.Prelude.{◌≡◌, List, [], ◌∷◌, ℕ}
use Rattle.protocol.specs.State.{State}
use Rattle.protocol.specs.Step.{run, takings}
use Rattle.races.specs.Footprint.{DataFootprints, FootprintRight, RaceFree, Independent, Alike, Swaps}
use Rattle.operands.specs.Operands.{data_footprints}
use Rattle.records.specs.File.{limit}
use Rattle.taskset.specs.Judge.{code_of}
use Rattle.taskset.specs.Fresh.{fresh_of}
use Rattle.semaphore.specs.declared.Semaphore.{Semaphore}
use Rattle.states.specs.Task.{task_of}
use Rattle.machine.specs.Calls.{fresh_call}
use Rattle.calls.specs.Calling.{Call, calls, steps_of, whole_of}
use Rattle.snapshot.specs.declared.CoreRecord.{CoreRecord}
use Rattle.rikzord.specs.Lent.{fresh_lent}
use Rattle.lent_calls.specs.Calling.{LentCall, lent_calls, lent_steps_of, whole_lent}

-- ---- what a step touches

-- the bytes of its data that the next instruction of each core of the file f reads and writes, by its operands
abbrev pub operands_in : List ℕ → DataFootprints
operands_in f = data_footprints (limit f) (code_of f)

-- in any state s, core k's step changes nothing but what its footprint says, and depends on nothing else
abbrev pub StepFootprint : List ℕ → List ℕ → ℕ → State → Type 0
StepFootprint f t k s = FootprintRight (task_of f t) (operands_in f) k s

-- ---- steps of the cores of the file f on the trace t, from the fresh state

-- after the steps ks: what the next step of one core writes, that of another neither reads nor writes, the semaphore aside
abbrev pub MachineRaceFree : List ℕ → List ℕ → List ℕ → Type 0
MachineRaceFree f t ks = RaceFree (task_of f t) (operands_in f) (run (task_of f t) ks (fresh_of f))

-- after the steps ks: the next steps of cores j and k can change places, unless both touch the semaphore
abbrev pub StepsCommute : List ℕ → List ℕ → List ℕ → ℕ → ℕ → Type 0
StepsCommute f t ks j k =
    Independent (task_of f t) (operands_in f) j k (run (task_of f t) ks (fresh_of f)) → Alike (task_of f t) (j ∷ k ∷ []) (k ∷ j ∷ []) (run (task_of f t) ks (fresh_of f))

-- steps that differ by such changes of places of neighbours end alike, with the same takings
abbrev pub StepsAlike : List ℕ → List ℕ → List ℕ → List ℕ → Type 0
StepsAlike f t js ks = Swaps (task_of f t) (operands_in f) (fresh_of f) js ks → Alike (task_of f t) js ks (fresh_of f)

-- ---- calls by value, from what the call for the fresh state left that was lent the memories d and sh

pub record CallsRaceFree (f t d sh : List ℕ) (cs : List Call) : Type 0 where
  -- what they leave is what the steps that they count as make of the fresh state
  pub steps : whole_of f (calls f t cs (fresh_call f d sh)) ≡ run (task_of f t) (steps_of f t cs (fresh_call f d sh)) (fresh_of f)
  -- and in what they leave the next steps of the cores do not race
  pub race-free : RaceFree (task_of f t) (operands_in f) (whole_of f (calls f t cs (fresh_call f d sh)))

-- Two lists of calls leave the same state, with the same takings
pub record CallsAlike (f t d sh : List ℕ) (bs cs : List Call) : Type 0 where
  pub whole : whole_of f (calls f t bs (fresh_call f d sh)) ≡ whole_of f (calls f t cs (fresh_call f d sh))
  pub takings-same : takings (task_of f t) (steps_of f t bs (fresh_call f d sh)) (fresh_of f) ≡ takings (task_of f t) (steps_of f t cs (fresh_call f d sh)) (fresh_of f)

-- ---- calls on a lent core table, from what `rikzord_fresh` left that was lent the table ys, the semaphore p and the memories d and sh

pub record LentRaceFree (f t : List ℕ) (ys : List CoreRecord) (p : Semaphore) (d sh : List ℕ) (cs : List LentCall) : Type 0 where
  pub steps : whole_lent f (lent_calls f t cs (fresh_lent f ys p d sh)) ≡ run (task_of f t) (lent_steps_of f t cs (fresh_lent f ys p d sh)) (fresh_of f)
  pub race-free : RaceFree (task_of f t) (operands_in f) (whole_lent f (lent_calls f t cs (fresh_lent f ys p d sh)))

pub record LentAlike (f t : List ℕ) (ys : List CoreRecord) (p : Semaphore) (d sh : List ℕ) (bs cs : List LentCall) : Type 0 where
  pub whole : whole_lent f (lent_calls f t bs (fresh_lent f ys p d sh)) ≡ whole_lent f (lent_calls f t cs (fresh_lent f ys p d sh))
  pub takings-same : takings (task_of f t) (lent_steps_of f t bs (fresh_lent f ys p d sh)) (fresh_of f) ≡ takings (task_of f t) (lent_steps_of f t cs (fresh_lent f ys p d sh)) (fresh_of f)
