-- One step as an effect: what it does to a core's registers and call stack, to the semaphore and to the order list. Its memory is written at
-- once, so an effect comes with the data and the shared memory afterwards. In order: the effects, and what answers them; the parts; the whole;
-- what a step's function promises.
use Rattle.std.specs.Prelude.{◌≡◌, List, [], ◌∷◌, Bool, true, false, ℕ, zero, suc, ◌+◌, ◌<◌, length, set, get_or}
use Rattle.protocol.specs.Modes.{reading_exchange, writing_exchange}
use Rattle.protocol.specs.declared.Registers.{Registers}
use Rattle.protocol.specs.declared.Stack.{Stack}
use Rattle.protocol.specs.declared.Outcome.{Outcome}
use Rattle.protocol.specs.declared.Outcome.TheVariants.{Fault as Failed, Next as Onward, Call as Calls, Return as Returns}
use Rattle.protocol.specs.Registers.{read_acquired, byte_copied, read_released, write_acquired, write_released, advanced, called, returned, cycle_ended, faulted, pushed, popped}
use Rattle.protocol.specs.State.{Core, Semaphore, State, Task, core}
use Rattle.protocol.specs.Step.{turn, acquired_by, released, joined_by, step, Taking, reading, writing, taking_of}
use Rattle.memory.specs.Memory.{split}
use Rattle.taskset.specs.Task.{sizes_of}
use Rattle.exchange.specs.Exchange.{At}
use Rattle.states.specs.Task.{task_of}
use Rattle.steps.specs.declared.Exchange.{Exchange}
use Rattle.steps.specs.declared.Exchange.TheVariants.{Rests, Joins, ReadBegun, ReadOn, ReadEnded, WriteBegun, WriteOn, WriteEnded}

-- ---- the effects

pub data Effect : Type 0 where
  Idle : Effect
  -- the core waits for the semaphore, in line
  Joined : Effect
  -- a reading takes the semaphore, with the time of its record; one byte of it; its release
  ReadAcquired : ℕ → Effect
  ByteRead : Effect
  ReadReleased : Effect
  -- the same of a writing
  WriteAcquired : Effect
  ByteWritten : Effect
  WriteReleased : Effect
  -- the outcomes of an instruction; RETURN goes to the entry of the call stack with this number, or ends the cycle
  Fault : ℕ → Effect
  Next : ℕ → Effect
  Call : ℕ → ℕ → ℕ → Effect
  Return : ℕ → Effect
  CycleEnded : Effect

-- RETURN at a depth
abbrev pub back_at : ℕ → Effect
back_at zero = CycleEnded
back_at (suc d) = Return d

-- what an instruction answers at a depth, as an effect
abbrev pub effect_of : ℕ → Outcome → Effect
effect_of depth (Failed b) = Fault b
effect_of depth (Onward p) = Next p
effect_of depth (Calls next target offset) = Call next target offset
effect_of depth Returns = back_at depth

-- what a step between two instructions answers
abbrev pub exchanged : Exchange → Effect
exchanged Rests = Idle
exchanged Joins = Joined
exchanged (ReadBegun time) = ReadAcquired time
exchanged (ReadOn cursor) = ByteRead
exchanged ReadEnded = ReadReleased
exchanged WriteBegun = WriteAcquired
exchanged (WriteOn cursor) = ByteWritten
exchanged WriteEnded = WriteReleased

-- ---- the parts

abbrev pub registers_by : Effect → Core → Registers
registers_by Idle c = c.registers
registers_by Joined c = c.registers
registers_by (ReadAcquired time) c = read_acquired time c.registers
registers_by ByteRead c = byte_copied c.registers
registers_by ReadReleased c = read_released c.registers
registers_by WriteAcquired c = write_acquired c.registers
registers_by ByteWritten c = byte_copied c.registers
registers_by WriteReleased c = write_released c.registers
registers_by (Fault b) c = faulted b c.registers
registers_by (Next p) c = advanced p c.registers
registers_by (Call next target offset) c = called target offset c.registers
registers_by (Return d) c = returned (get_or c.stack.places d 0) (get_or c.stack.offsets d 0) c.registers
registers_by CycleEnded c = cycle_ended c.registers

abbrev pub stack_by : Effect → Core → Stack
stack_by Idle c = c.stack
stack_by Joined c = c.stack
stack_by (ReadAcquired time) c = c.stack
stack_by ByteRead c = c.stack
stack_by ReadReleased c = c.stack
stack_by WriteAcquired c = c.stack
stack_by ByteWritten c = c.stack
stack_by WriteReleased c = c.stack
stack_by (Fault b) c = c.stack
stack_by (Next p) c = c.stack
stack_by (Call next target offset) c = pushed c.registers.depth next c.registers.offset c.stack
stack_by (Return d) c = popped d c.stack
stack_by CycleEnded c = c.stack

-- the semaphore afterwards, by core k
abbrev pub semaphore_by : Effect → ℕ → Semaphore → Semaphore
semaphore_by Idle k m = m
semaphore_by Joined k m = joined_by k m
semaphore_by (ReadAcquired time) k m = acquired_by k m
semaphore_by ByteRead k m = m
semaphore_by ReadReleased k m = released m
semaphore_by WriteAcquired k m = acquired_by k m
semaphore_by ByteWritten k m = m
semaphore_by WriteReleased k m = released m
semaphore_by (Fault b) k m = m
semaphore_by (Next p) k m = m
semaphore_by (Call next target offset) k m = m
semaphore_by (Return d) k m = m
semaphore_by CycleEnded k m = m

abbrev pub taken_by : Effect → ℕ → List Taking
taken_by Idle k = []
taken_by Joined k = []
taken_by (ReadAcquired time) k = reading k ∷ []
taken_by ByteRead k = []
taken_by ReadReleased k = []
taken_by WriteAcquired k = writing k ∷ []
taken_by ByteWritten k = []
taken_by WriteReleased k = []
taken_by (Fault b) k = []
taken_by (Next p) k = []
taken_by (Call next target offset) k = []
taken_by (Return d) k = []
taken_by CycleEnded k = []

-- ---- the whole

-- the state s after an effect of core k, with the data m of core k and the shared memory sh
unfoldable pub effected : Effect → ℕ → List ℕ → List ℕ → State → State
effected z k m sh s = record {
  plant = record {
    cores = set s.plant.cores k record { registers = registers_by z (core s.plant k); stack = stack_by z (core s.plant k); memory = m };
    shared = sh;
  };
  semaphore = semaphore_by z k s.semaphore;
}

-- ---- what a step's function promises

-- the registers can take the effect: no number passes its width
abbrev pub Takes : Registers → Effect → Type 0
Takes r Idle = Unit {0}
Takes r Joined = Unit {0}
Takes r (ReadAcquired time) = Unit {0}
Takes r ByteRead = r.exchange < 65535
Takes r ReadReleased = Unit {0}
Takes r WriteAcquired = Unit {0}
Takes r ByteWritten = r.exchange < 65535
Takes r WriteReleased = r.cycles < 65535
Takes r (Fault b) = b < 8
Takes r (Next p) = r.count < 65535
Takes r (Call next target offset) = (r.count < 65535) × (r.depth < 16)
Takes r (Return d) = (r.count < 65535) × (0 < r.depth) × (d < 16)
Takes r CycleEnded = r.count < 65535

-- In a state whose core k has the registers r and the data d, with this shared memory and semaphore, the effect z with the data and shared memory
-- afterwards is the step of core k, and its taking is z's
pub record Does (t : Task) (k : ℕ) (r : Registers) (d sh : List ℕ) (m : Semaphore) (z : Effect) (d' sh' : List ℕ) : Type 0 where
  pub moves : (s : State) → k < length s.plant.cores → (core s.plant k).registers ≡ r → (core s.plant k).memory ≡ d → s.plant.shared ≡ sh → s.semaphore ≡ m
      → effected z k d' sh' s ≡ step t k s
  pub takes : (s : State) → k < length s.plant.cores → (core s.plant k).registers ≡ r → (core s.plant k).memory ≡ d → s.plant.shared ≡ sh → s.semaphore ≡ m
      → taking_of t k s ≡ taken_by z k
  pub ready : Takes r z

-- The same of a step that leaves shared memory alone
abbrev pub Alone : List ℕ → List ℕ → ℕ → Registers → List ℕ → Semaphore → Effect → List ℕ → Type 0
Alone f t k r d m z d' = (sh : List ℕ) → Does (task_of f t) k r d sh m z d' sh

-- what goes with an answer: the semaphore is taken in the core's turn, and the line joined out of it; where a byte was copied and others are left, the core is
-- in that exchange, and the cursor stands at the next byte
abbrev pub More : List ℕ → ℕ → Registers → Bool → Exchange → Type 0
More f k r turns Rests = Unit {0}
More f k r turns Joins = turns ≡ false
More f k r turns (ReadBegun time) = turns ≡ true
More f k r turns (ReadOn cursor) = (r.mode ≡ reading_exchange) × At f (4 + k) (r.exchange + 1) cursor
More f k r turns ReadEnded = Unit {0}
More f k r turns WriteBegun = turns ≡ true
More f k r turns (WriteOn cursor) = (r.mode ≡ writing_exchange) × At f k (r.exchange + 1) cursor
More f k r turns WriteEnded = Unit {0}

-- another step that answers z, at a semaphore that the core may take or not
abbrev pub Exchanges : List ℕ → List ℕ → ℕ → Registers → List ℕ → List ℕ → Bool → Exchange → List ℕ → List ℕ → Type 0
Exchanges f t k r d sh turns z d' sh' = ((m : Semaphore) → turn m k ≡ turns → Does (task_of f t) k r d sh m (exchanged z) d' sh') × More f k r turns z

-- the same whatever shared memory is, and in turn or out of it
abbrev pub ExchangesAlone : List ℕ → List ℕ → ℕ → Registers → List ℕ → Bool → Exchange → List ℕ → Type 0
ExchangesAlone f t k r d turns z d' = (sh : List ℕ) → Exchanges f t k r d sh turns z d' sh

abbrev pub ExchangesOn : List ℕ → List ℕ → ℕ → Registers → List ℕ → List ℕ → Exchange → List ℕ → List ℕ → Type 0
ExchangesOn f t k r d sh z d' sh' = (turns : Bool) → Exchanges f t k r d sh turns z d' sh'

-- The same in the data buffer of all cores: the data of core k change, those of the others stay
pub record Steps (f t : List ℕ) (k : ℕ) (r : Registers) (d sh : List ℕ) (m : Semaphore) (z : Effect) (d' sh' : List ℕ) : Type 0 where
  pub memory : List ℕ
  pub does : Does (task_of f t) k r (get_or (split (sizes_of f) d) k []) sh m z memory sh'
  pub kept : split (sizes_of f) d' ≡ set (split (sizes_of f) d) k memory

-- an instruction that answers o, whatever the semaphore
abbrev pub InstructsIn : List ℕ → List ℕ → ℕ → Registers → List ℕ → Outcome → List ℕ → Type 0
InstructsIn f t k r d o d' = (m : Semaphore) (sh : List ℕ) → Steps f t k r d sh m (effect_of r.depth o) d' sh

abbrev pub ExchangesIn : List ℕ → List ℕ → ℕ → Registers → List ℕ → List ℕ → Bool → Exchange → List ℕ → List ℕ → Type 0
ExchangesIn f t k r d sh turns z d' sh' = ((m : Semaphore) → turn m k ≡ turns → Steps f t k r d sh m (exchanged z) d' sh') × More f k r turns z
