-- One core executing by itself while the semaphore is free: what its instructions, up to the one by which it leaves mode 2, are as steps. In order: what
-- is asked of it; what they make of a state; what is promised.
use Rattle.std.specs.Prelude.{◌≡◌, List, [], ℕ, ◌≤◌, ◌<◌, length, get_or, set, replicate}
use Rattle.memory.specs.Memory.{total}
use Rattle.protocol.specs.declared.Registers.{Registers}
use Rattle.protocol.specs.State.{untaken}
use Rattle.protocol.specs.Step.{run, takings}
use Rattle.records.specs.File.{cores}
use Rattle.taskset.specs.Task.{sizes_of}
use Rattle.states.specs.Task.{task_of}
use Rattle.states.specs.Machine.{no_registers, stack_in, state_in}
use Rattle.states.specs.Fit.{Fit}
use Rattle.states.specs.Set.{AcceptedSet}

-- the state of these parts, with the semaphore untaken, is one that steps may start from
pub record Standing (f t : List ℕ) (cs : List Registers) (places offsets d sh : List ℕ) : Type 0 where
  pub four : length cs ≡ 4
  pub entries : (length places ≡ 64) × (length offsets ≡ 64)
  pub buffer : length d ≡ total (sizes_of f)
  pub fit : Fit f t (state_in f cs places offsets untaken d sh)

-- ---- what is asked: some such state has a core k with the registers r

pub record ExecutionGiven (f t : List ℕ) (k : ℕ) (r : Registers) (places offsets d : List ℕ) : Type 0 where
  pub accepted : AcceptedSet f t
  pub known : k < cores f
  pub cs : List Registers
  pub sh : List ℕ
  pub here : get_or cs k no_registers ≡ r
  pub stands : Standing f t cs places offsets d sh

-- ---- what they make of a state: steps of core k alone, with no taking among them

pub record Stretch (f t : List ℕ) (k : ℕ) (cs : List Registers) (places offsets d sh : List ℕ) (r' : Registers) (places' offsets' d' : List ℕ) : Type 0 where
  pub steps : ℕ
  pub moved : run (task_of f t) (replicate steps k) (state_in f cs places offsets untaken d sh) ≡ state_in f (set cs k r') places' offsets' untaken d' sh
  pub none-taken : takings (task_of f t) (replicate steps k) (state_in f cs places offsets untaken d sh) ≡ []
  pub stands : Standing f t (set cs k r') places' offsets' d' sh
  pub spare : (j : ℕ) → cores f ≤ j → stack_in places' offsets' j ≡ stack_in places offsets j

-- ---- what is promised: in every such state with the registers r of core k

abbrev pub Executes : List ℕ → List ℕ → ℕ → Registers → List ℕ → List ℕ → List ℕ → Registers → List ℕ → List ℕ → List ℕ → Type 0
Executes f t k r places offsets d r' places' offsets' d' =
    (cs : List Registers) (sh : List ℕ) → get_or cs k no_registers ≡ r → Standing f t cs places offsets d sh → Stretch f t k cs places offsets d sh r' places' offsets' d'
