-- Document 01: "Fresh: memories zero, mode 0, all registers 0, flags 4, semaphore free." Document 02, 2.12: memories zero but for the start values.
-- The fresh state of a task set file: where every run starts; and what it holds, as a claim. `start-values` of proofs/Starts proves `StartValues` of
-- every accepted file.
use Rattle.std.specs.Prelude.{◌≡◌, true, ◌≢◌, List, ℕ, ◌+◌, ◌≤◌, ◌<◌, T}
use Rattle.memory.specs.Memory.{byte}
use Rattle.protocol.specs.State.{State, core}
use Rattle.protocol.specs.Variables.{Variable, In, local, writes_it, value}
use Rattle.protocol.specs.Fresh.{fresh, fresh_zero}
use Rattle.records.specs.File.{cores}
use Rattle.taskset.specs.Judge.{is_old}
use Rattle.taskset.specs.Task.{sizes_of, variables_of}
use Rattle.taskset.specs.Starts.{start_count, start_at, start_byte, start_shared, starts_of}

abbrev pub fresh_of : List ℕ → State
fresh_of f = fresh (starts_of f) (start_shared f)

-- place p belongs to none of these variables
abbrev pub Unused : List Variable → ℕ → Type 0
Unused vs p = (v : Variable) → In v vs → v.place ≤ p → p < v.place + v.width → ⊥

pub record StartValues (f : List ℕ) : Type 0 where
  -- "A fresh state holds these in the core's data": each start byte at its place, and zeros elsewhere
  pub holds : (k : ℕ) → k < cores f → (i : ℕ) → i < start_count f k → byte (core (fresh_of f).plant k).memory (start_at f k i) ≡ start_byte f k i
  pub else-zero : (k : ℕ) → k < cores f → (p : ℕ) → ((i : ℕ) → i < start_count f k → start_at f k i ≢ p) → byte (core (fresh_of f).plant k).memory p ≡ 0
  -- "and shared memory holds for each variable the writer's start bytes", and zeros elsewhere
  pub seen : (v : Variable) → In v (variables_of f) → (w : ℕ) → T (writes_it w v)
      → value (fresh_of f).plant.shared v.place v.width ≡ value (core (fresh_of f).plant w).memory (local w v) v.width
  pub shared-zero : (p : ℕ) → Unused (variables_of f) p → byte (fresh_of f).plant.shared p ≡ 0
  -- a file of the old form has none: memories zero
  pub old : is_old f ≡ true → fresh_of f ≡ fresh_zero (sizes_of f)
