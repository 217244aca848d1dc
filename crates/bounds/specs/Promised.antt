-- Document 02, 2.7: what the numbers of a file say of the machine. "Each of the two numbers is attained by some choice. From the fresh state on, a limit at
-- or above the count is never hit, and a depth of at most 16 never raises bit 5." `promised` of proofs/Promised proves `Promised` of every file that the
-- call accepts, every trace and every list of steps, core numbers of any size and idle steps included; `calls-promised` proves `CallsPromised`, the same
-- of every list of calls. In order: what the call answers for a core; one core in one state; steps; calls.
-- Not here: paths and the greatest numbers (specs/Paths); the answer itself (specs/Bounds).
use Rattle.std.specs.Prelude.{◌≡◌, List, ℕ, ◌/◌, ◌%◌, ◌^◌, ◌≤◌, get_or}
use Rattle.verdict.specs.Numbers.{limit_bit, call_bit}
use Rattle.protocol.specs.State.{State, core}
use Rattle.protocol.specs.Step.{run}
use Rattle.records.specs.File.{limit}
use Rattle.taskset.specs.Judge.{code_of}
use Rattle.taskset.specs.Fresh.{fresh_of}
use Rattle.states.specs.Task.{task_of}
use Rattle.machine.specs.Calls.{fresh_call}
use Rattle.calls.specs.Calling.{Call, calls, steps_of, whole_of}
use Rattle.bounds.specs.Paths.{Greatest}
use Rattle.bounds.specs.Bounds.{takes_of}

-- ---- what the call answers for core k

abbrev pub count_in : List ℕ → ℕ → ℕ
count_in f k = get_or (takes_of f).count k 0

abbrev pub depth_in : List ℕ → ℕ → ℕ
depth_in f k = get_or (takes_of f).depth k 0

-- ---- core k in the state s

-- bit b of its flags
abbrev pub flag_of : State → ℕ → ℕ → ℕ
flag_of s k b = (core s.plant k).registers.flags / 2 ^ b % 2

pub record Spared (f : List ℕ) (k : ℕ) (s : State) : Type 0 where
  pub limit-not-hit : count_in f k ≤ limit f k → flag_of s k limit_bit ≡ 0
  pub calls-fit : depth_in f k ≤ 16 → flag_of s k call_bit ≡ 0

-- ---- the steps ks from the fresh state, on the trace t

pub record Promised (f t ks : List ℕ) (k : ℕ) : Type 0 where
  pub greatest : Greatest (code_of f k) (count_in f k) (depth_in f k)
  pub steps : Spared f k (run (task_of f t) ks (fresh_of f))

-- ---- the calls cs, each a step or a run, refused ones among them, from what the call for the fresh state left that was lent the memories d and sh

pub record CallsPromised (f t d sh : List ℕ) (cs : List Call) (k : ℕ) : Type 0 where
  -- what they leave is what the steps that they count as make of the fresh state
  pub steps : whole_of f (calls f t cs (fresh_call f d sh)) ≡ run (task_of f t) (steps_of f t cs (fresh_call f d sh)) (fresh_of f)
  pub spared : Spared f k (whole_of f (calls f t cs (fresh_call f d sh)))
