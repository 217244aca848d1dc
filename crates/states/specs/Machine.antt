-- The state that a caller holds and lends, as the state of crate protocol, and back.
use Rattle.std.specs.Prelude.{ℕ, ◌*◌, ◌/◌, ◌%◌, ◌≡◌, List, [], map, get_or, length, ltb}
use Rattle.verdict.specs.Verdict.{pick}
use Rattle.memory.specs.Memory.{part, total, split, flat}
use Rattle.protocol.specs.declared.Registers.{Registers}
use Rattle.protocol.specs.declared.Stack.{Stack}
use Rattle.protocol.specs.State.{Core, Semaphore, State, core, cleared}
use Rattle.semaphore.specs.Line.{semaphore_of, semaphore_back}
use Rattle.records.specs.File.{cores}
use Rattle.taskset.specs.Task.{listed, sizes_of}
use Rattle.states.specs.declared.Held.{Held}

-- registers past the table: never reached
abbrev pub no_registers : Registers
no_registers = cleared 0 0

-- the sixteen entries of core k's call stack
abbrev pub stack_in : List ℕ → List ℕ → ℕ → Stack
stack_in places offsets k = record { places = part places (16 * k) 16; offsets = part offsets (16 * k) 16 }

-- core k: its record, its stack and its stretch of the data buffer
abbrev pub core_in : List ℕ → List Registers → List ℕ → List ℕ → List ℕ → ℕ → Core
core_in f cs places offsets d k = record { registers = get_or cs k no_registers; stack = stack_in places offsets k; memory = get_or (split (sizes_of f) d) k [] }

-- the state of the n cores of the file f, from its parts
unfoldable pub state_in : List ℕ → List Registers → List ℕ → List ℕ → Semaphore → List ℕ → List ℕ → State
state_in f cs places offsets m d sh =
    record { plant = record { cores = listed (core_in f cs places offsets d) (cores f) 0; shared = sh }; semaphore = m }

abbrev pub state_of : List ℕ → Held → List ℕ → List ℕ → State
state_of f h d sh = state_in f h.cores h.places h.offsets (semaphore_of h.semaphore) d sh

-- lent memory of the right sizes, and the entries of four call stacks
pub record Sized (f : List ℕ) (h : Held) (d sh : List ℕ) : Type 0 where
  pub memory : length d ≡ total (sizes_of f)
  pub shared : length sh ≡ 1024
  pub places : length h.places ≡ 64
  pub offsets : length h.offsets ≡ 64

-- ---- back: a caller's state after h, with s for its n cores; entries of no core stay

abbrev pub registers_back : ℕ → List Registers → State → ℕ → Registers
registers_back n old s k = pick (ltb k n) (core s.plant k).registers (get_or old k no_registers)

-- entry i of all call stacks, which is entry i % 16 of core i / 16
abbrev pub entry_back : (Stack → List ℕ) → ℕ → List ℕ → State → ℕ → ℕ
entry_back part n old s i = pick (ltb (i / 16) n) (get_or (part (core s.plant (i / 16)).stack) (i % 16) 0) (get_or old i 0)

unfoldable pub held_after : ℕ → Held → State → Held
held_after n h s = record {
  count = h.count;
  semaphore = semaphore_back s.semaphore;
  cores = listed (registers_back n h.cores s) 4 0;
  places = listed (entry_back (λ k. k.places) n h.places s) 64 0;
  offsets = listed (entry_back (λ k. k.offsets) n h.offsets s) 64 0;
}

-- the data buffer: the cores' data end to end
unfoldable pub data_of : State → List ℕ
data_of s = flat (map (λ c. c.memory) s.plant.cores)
