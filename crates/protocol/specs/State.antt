-- The state of the machine, and what a task set and a trace say of each core. In order: cores, the plant, the state; the task.
use Rattle.std.specs.Prelude.{List, [], ℕ, get_or, set}
use Rattle.protocol.specs.Modes.{stopped}
use Rattle.protocol.specs.declared.Registers.{Registers}
use Rattle.protocol.specs.declared.Stack.{Stack}

-- ---- the state

-- A core: its registers, its call stack and its own data
pub record Core : Type 0 where
  pub registers : Registers
  pub stack : Stack
  pub memory : List ℕ

-- All of the state but the semaphore
pub record Plant : Type 0 where
  pub cores : List Core
  pub shared : List ℕ

-- holder: 0 where the semaphore is free, k + 1 where core k holds it; line: the cores that wait for it, the first one first
pub record Semaphore : Type 0 where
  pub holder : ℕ
  pub line : List ℕ

-- nobody holds it, and nobody waits for it
abbrev pub untaken : Semaphore
untaken = record { holder = 0; line = [] }

pub record State : Type 0 where
  pub plant : Plant
  pub semaphore : Semaphore

-- registers that are all 0, in a mode
abbrev pub cleared : ℕ → ℕ → Registers
cleared mode flags = record { mode = mode; counter = 0; offset = 0; depth = 0; count = 0; exchange = 0; cycles = 0; flags = flags; time = 0 }

-- what a core number from n on finds: a stopped core, so that its step changes nothing
abbrev pub absent : Core
absent = record { registers = cleared stopped 0; stack = record { places = []; offsets = [] }; memory = [] }

abbrev pub core : Plant → ℕ → Core
core p k = get_or p.cores k absent

abbrev pub mode : Core → ℕ
mode c = c.registers.mode

-- the plant with c as core k
abbrev pub put : Plant → ℕ → Core → Plant
put p k c = record { cores = set p.cores k c; shared = p.shared }

-- ---- the task: an accepted task set on a sound trace

-- One byte of an exchange
pub record Move : Type 0 where
  pub source : ℕ
  pub target : ℕ

-- One input record of the trace
pub record Sample : Type 0 where
  pub time : ℕ
  pub input : List ℕ

-- For each core: its input records; the bytes that it reads (shared place to local place) and writes (local place to shared place),
-- in file order; its instruction limit; what one instruction does to it
pub record Task : Type 0 where
  pub samples : ℕ → List Sample
  pub reads : ℕ → List Move
  pub writes : ℕ → List Move
  pub limit : ℕ → ℕ
  pub instruction : ℕ → Core → Core
