-- Document 02, 2.13, of the real machine: "The rerun shall end as every run with those takings ends once each core is between cycles, stopped, or waiting to
-- write. An empty list leaves the fresh state. Turned away: 33, a list that no order of steps produces ..; a list that some order produces is never met with it."
-- In order: of steps; of the call; of lists of calls.
--
-- `rerun-machine` of proofs/Claims proves `MachineRerun` of every accepted file, every trace and every list of bytes; `call-rerun` proves `CallRerun` of every
-- accepted file and sound trace, with memories of the right sizes; `calls-rerun` proves `CallsRerun` of every list of calls from the call for the fresh state.
-- `Rerun`, `Settled`, `Producing` and `unlined` are in specs/Rerun of crate protocol; what the call is for every input in specs/Calls.
use Rattle.std.specs.Prelude.{◌≡◌, List, [], ◌∷◌, ◌++◌, ℕ, take}
use Rattle.protocol.specs.Step.{run, order_list}
use Rattle.protocol.specs.Rerun.{Rerun, Settled, Producing, unlined}
use Rattle.taskset.specs.Fresh.{fresh_of}
use Rattle.states.specs.Task.{task_of}
use Rattle.runner.specs.Runs.{Left}
use Rattle.machine.specs.Calls.{fresh_call}
use Rattle.calls.specs.Calling.{Call, stepping, running, leaves, calls, whole_of, counts_as, steps_of}
use Rattle.rerun.specs.Calls.{rerun_call}

-- ---- of steps: the order list bs of the file f on the trace t

abbrev pub MachineRerun : List ℕ → List ℕ → List ℕ → Type 0
MachineRerun f t bs = Rerun (task_of f t) (fresh_of f) bs

-- ---- of the call, lent the memories d and sh, whatever bytes they hold

pub record CallRerun (f t list d sh : List ℕ) : Type 0 where
  -- every run that writes the list and ends settled ends as the rerun, semaphore included, the line put aside
  pub ends : (ks : List ℕ) → order_list (task_of f t) ks (fresh_of f) ≡ list → Settled (run (task_of f t) ks (fresh_of f)) → whole_of f (rerun_call f t list d sh) ≡ unlined (run (task_of f t) ks (fresh_of f))
  -- a list that some order of steps produces, wherever it stops, is not refused
  pub never-refused : (ks : List ℕ) → order_list (task_of f t) ks (fresh_of f) ≡ list → (rerun_call f t list d sh).answer.refusal ≡ 0
  -- a list that is not refused is produced by some order of steps of the n cores, and these end as the rerun
  pub produced : (rerun_call f t list d sh).answer.refusal ≡ 0 → Producing (task_of f t) (fresh_of f) list (whole_of f (rerun_call f t list d sh))
  -- an empty list leaves the fresh state
  pub empty : list ≡ [] → whole_of f (rerun_call f t list d sh) ≡ fresh_of f

-- ---- of lists of calls

-- the bytes that a call wrote to the order list: as many as it counts takings. A step call is lent no list; its byte is that of its taking.
abbrev pub written_by : List ℕ → List ℕ → Call → Left → List ℕ
written_by f t (stepping a b k) x = order_list (task_of f t) (counts_as f t (stepping a b k) x) (whole_of f x)
written_by f t (running a b order list) x = take (leaves f t (running a b order list) x).answer.taken (leaves f t (running a b order list) x).order

abbrev pub written_of : List ℕ → List ℕ → List Call → Left → List ℕ
written_of f t [] x = []
written_of f t (c ∷ cs) x = written_by f t c x ++ written_of f t cs (leaves f t c x)

-- The calls cs, from what the call for the fresh state left that was lent the memories d and sh: the rerun, lent d' and sh', takes what they wrote
pub record CallsRerun (f t d sh : List ℕ) (cs : List Call) (d' sh' : List ℕ) : Type 0 where
  pub wrote : written_of f t cs (fresh_call f d sh) ≡ order_list (task_of f t) (steps_of f t cs (fresh_call f d sh)) (fresh_of f)
  pub taken : (rerun_call f t (written_of f t cs (fresh_call f d sh)) d' sh').answer.refusal ≡ 0
  -- and, where they left each core between cycles, stopped or waiting to write, ends alike
  pub alike : Settled (whole_of f (calls f t cs (fresh_call f d sh))) → whole_of f (rerun_call f t (written_of f t cs (fresh_call f d sh)) d' sh') ≡ unlined (whole_of f (calls f t cs (fresh_call f d sh)))
