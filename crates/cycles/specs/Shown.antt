-- What is shown of the files of specs/Files: they are accepted, so that the theorems on accepted files say something; the ring, for which no order of
-- whole cycles does; and the open ring, for which one does. `shown` of proofs/Shown proves all three. Not here: the files
-- themselves (specs/Files), and the theorem on every file (specs/Serial).
use Rattle.std.specs.Prelude.{◌≡◌, ◌≢◌, List, [], ◌∷◌, map, ℕ}
use Rattle.protocol.specs.State.{State, core, mode}
use Rattle.protocol.specs.Step.{step, run, takings, reading, writing}
use Rattle.protocol.specs.Laws.{Between}
use Rattle.protocol.specs.Variables.{value}
use Rattle.protocol.specs.Cycles.{reads_from, line_between, OneWay, Ring, cycles}
use Rattle.taskset.specs.Judge.{judge}
use Rattle.taskset.specs.Trace.{trace_refusal}
use Rattle.taskset.specs.Task.{variables_of}
use Rattle.taskset.specs.Fresh.{fresh_of}
use Rattle.states.specs.Task.{task_of}
use Rattle.cycles.specs.Serial.{Ringless, MachineSerial}
use Rattle.cycles.specs.Files.{listing_file, listing_trace, listing_steps, ring_file, open_file, ring_trace, ring_steps, open_steps}

-- the state after the steps ks from the fresh state
abbrev pub after_steps : List ℕ → List ℕ → List ℕ → State
after_steps f t ks = run (task_of f t) ks (fresh_of f)

-- document 01's listing prints "0 0 1 0 1" and "order 0r 0w"
pub record Listing : Type 0 where
  pub accepted : judge listing_file ≡ 0
  pub sound : trace_refusal listing_file listing_trace ≡ 0
  pub between : Between (after_steps listing_file listing_trace listing_steps)
  pub cycles-done : (core (after_steps listing_file listing_trace listing_steps).plant 0).registers.cycles ≡ 1
  pub flags : (core (after_steps listing_file listing_trace listing_steps).plant 0).registers.flags ≡ 0
  pub counted : (core (after_steps listing_file listing_trace listing_steps).plant 0).registers.count ≡ 1
  pub taken : takings (task_of listing_file listing_trace) listing_steps (fresh_of listing_file) ≡ reading 0 ∷ writing 0 ∷ []

-- The same with no trace (document 02, 2.6): the first cycle runs through, on one record, and no step begins a second one
pub record FirstCycle : Type 0 where
  pub sound : trace_refusal listing_file [] ≡ 0
  pub between : Between (after_steps listing_file [] listing_steps)
  pub cycles-done : (core (after_steps listing_file [] listing_steps).plant 0).registers.cycles ≡ 1
  pub taken : takings (task_of listing_file []) listing_steps (fresh_of listing_file) ≡ reading 0 ∷ writing 0 ∷ []
  pub no_second : step (task_of listing_file []) 0 (after_steps listing_file [] listing_steps) ≡ after_steps listing_file [] listing_steps

-- Three cores in a ring, no two of which read each other, and a run that no order of whole cycles matches
pub record InRing : Type 0 where
  pub accepted : judge ring_file ≡ 0
  pub sound : trace_refusal ring_file ring_trace ≡ 0
  pub one_way : OneWay (reads_from (variables_of ring_file))
  pub ring : Ring (line_between (variables_of ring_file)) (0 ∷ 1 ∷ 2 ∷ [])
  -- every core ends between cycles, and has written NOT of a start value
  pub modes : map mode (after_steps ring_file ring_trace ring_steps).plant.cores ≡ 0 ∷ 0 ∷ 0 ∷ []
  pub between : Between (after_steps ring_file ring_trace ring_steps)
  pub wrote : value (after_steps ring_file ring_trace ring_steps).plant.shared 0 3 ≡ 1 ∷ 1 ∷ 1 ∷ []
  -- whole cycles in any order, as many as one likes, end differently
  pub no-order : (order : List ℕ) → cycles (task_of ring_file ring_trace) order (fresh_of ring_file).plant ≢ (after_steps ring_file ring_trace ring_steps).plant

-- The ring with one variable fewer: the same steps end as an order of whole cycles
pub record Open : Type 0 where
  pub accepted : judge open_file ≡ 0
  pub sound : trace_refusal open_file ring_trace ≡ 0
  pub ringless : Ringless open_file
  pub between : Between (after_steps open_file ring_trace ring_steps)
  pub serial : MachineSerial open_file ring_trace ring_steps
  -- such an order, step by step
  pub one_by_one : after_steps open_file ring_trace open_steps ≡ after_steps open_file ring_trace ring_steps

pub record Shown : Type 0 where
  pub listing : Listing
  pub first-cycle : FirstCycle
  pub in-ring : InRing
  pub opened : Open
