-- Document 02, 2.4, of the real machine: "a core that has joined sees at most n - 1 exchanges of others end before it is first and the semaphore is free."
-- `fair-machine` of proofs/Fair proves `MachineFair` of every file, every trace and every list of steps, core numbers of any size and idle steps included, from
-- the fresh state; `calls-fair` proves `CallsFair`, which is the same of every list of calls. Not here: `Fair`, which has each word of the claim in formulas,
-- and that its bound is attained (crate protocol, specs/Fair); calls on a lent core table (crate rikzord).
use Rattle.std.specs.Prelude.{◌≡◌, List, ℕ, length}
use Rattle.protocol.specs.Step.{run}
use Rattle.protocol.specs.Fair.{Fair}
use Rattle.records.specs.File.{cores}
use Rattle.taskset.specs.Fresh.{fresh_of}
use Rattle.states.specs.Task.{task_of}
use Rattle.machine.specs.Calls.{fresh_call}
use Rattle.calls.specs.Calling.{Call, calls, steps_of, whole_of}

-- The steps ks of the cores of the file f on the trace t
pub record MachineFair (f t ks : List ℕ) : Type 0 where
  -- the n of the bound is the file's number of cores
  pub table : length (fresh_of f).plant.cores ≡ cores f
  pub fair : Fair (task_of f t) (fresh_of f) ks

-- The calls cs, each a step or a run, refused ones among them, from what the call for the fresh state left that was lent the memories d and sh
pub record CallsFair (f t d sh : List ℕ) (cs : List Call) : Type 0 where
  -- what they leave, the line too, is what the steps that they count as make of the fresh state
  pub steps : whole_of f (calls f t cs (fresh_call f d sh)) ≡ run (task_of f t) (steps_of f t cs (fresh_call f d sh)) (fresh_of f)
  -- and those steps are fair
  pub fair : MachineFair f t (steps_of f t cs (fresh_call f d sh))
