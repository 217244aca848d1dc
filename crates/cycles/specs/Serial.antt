-- Document 02, 2.9, of the real machine. `serial-machine` of proofs/Serial proves `MachineSerial` of every accepted file whose lines form no ring, every
-- trace and every list of steps that ends between cycles; `calls-serial` proves `CallsSerial`, which is the same of every list of calls; `step-by-step`
-- proves `StepByStep`: the order of whole cycles is itself a run of the machine.
-- In order: of steps; whole cycles as steps; of calls. Not here: lines, rings, whole cycles and `Serial`, which says what the end of a run is as an order of
-- them (crate protocol, specs/Cycles); the test of a file's lines (specs/Check); three cores in a ring (specs/Shown).
use Rattle.std.specs.Prelude.{◌≡◌, List, [], ◌∷◌, ◌++◌, ℕ, replicate}
use Rattle.protocol.specs.State.{State, Task, untaken}
use Rattle.protocol.specs.Step.{run}
use Rattle.protocol.specs.Laws.{Between}
use Rattle.protocol.specs.Cycles.{reads_from, line_between, OneWay, NoRing, cycle, Serial}
use Rattle.taskset.specs.Task.{variables_of}
use Rattle.taskset.specs.Fresh.{fresh_of}
use Rattle.states.specs.Task.{task_of}
use Rattle.machine.specs.Calls.{fresh_call}
use Rattle.calls.specs.Calling.{Call, calls, step_calls, steps_of, whole_of}

-- ---- of steps

-- what is asked of the variables of the file f
pub record Ringless (f : List ℕ) : Type 0 where
  -- no two cores read each other
  pub one_way : OneWay (reads_from (variables_of f))
  -- the lines, direction put aside, form no ring
  pub no-ring : NoRing (line_between (variables_of f))

-- The steps ks of the cores of the file f on the trace t
abbrev pub MachineSerial : List ℕ → List ℕ → List ℕ → Type 0
MachineSerial f t ks = Serial (task_of f t) (fresh_of f) ks

-- ---- whole cycles as steps

-- steps of the cores ks in turn, as many of each as ns says
abbrev pub turns_of : List ℕ → List ℕ → List ℕ
turns_of [] ns = []
turns_of (k ∷ ks) [] = []
turns_of (k ∷ ks) (n ∷ ns) = replicate n k ++ turns_of ks ns

-- each turn is a whole cycle, and leaves the semaphore free with nobody in line
abbrev pub Turns : Task → List ℕ → List ℕ → State → Type 0
Turns t [] [] s = Unit {0}
Turns t [] (n ∷ ns) s = ⊥
Turns t (k ∷ ks) [] s = ⊥
Turns t (k ∷ ks) (n ∷ ns) s = (run t (replicate n k) s ≡ record { plant = cycle t k s.plant; semaphore = untaken }) × Turns t ks ns (run t (replicate n k) s)

-- The order x that the steps ks end as, by steps of the machine: one core at a time, a whole cycle in each turn. Endings are compared without the
-- line, in which a core between cycles may stand (document 02, 2.4); the semaphore is free in both.
pub record StepByStep (f t ks : List ℕ) (x : MachineSerial f t ks) : Type 0 where
  pub lengths : List ℕ
  pub turns : Turns (task_of f t) x.order lengths (fresh_of f)
  pub same : (run (task_of f t) (turns_of x.order lengths) (fresh_of f)).plant ≡ (run (task_of f t) ks (fresh_of f)).plant

-- ---- of calls

-- The calls cs, each a step or a run, refused ones among them, from what the call for the fresh state left that was lent the memories d and sh
pub record CallsSerial (f t d sh : List ℕ) (cs : List Call) : Type 0 where
  -- what they leave is what the steps that they count as make of the fresh state
  pub steps : whole_of f (calls f t cs (fresh_call f d sh)) ≡ run (task_of f t) (steps_of f t cs (fresh_call f d sh)) (fresh_of f)
  -- and where they leave every core between cycles or stopped, those steps end as an order of whole cycles
  pub serial : Between (whole_of f (calls f t cs (fresh_call f d sh))) → MachineSerial f t (steps_of f t cs (fresh_call f d sh))
  -- the step calls of that order, one core at a time, leave the same but for the line
  pub in-turn : (x : MachineSerial f t (steps_of f t cs (fresh_call f d sh))) (y : StepByStep f t (steps_of f t cs (fresh_call f d sh)) x)
      → (whole_of f (step_calls f t (turns_of x.order y.lengths) (fresh_call f d sh))).plant ≡ (whole_of f (calls f t cs (fresh_call f d sh))).plant
