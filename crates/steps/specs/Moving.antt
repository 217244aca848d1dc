-- What the functions of a step are given: what the judging of file, trace and state has shown of core k.
use Rattle.std.specs.Prelude.{◌≡◌, true, ◌≢◌, List, [], ℕ, ◌+◌, ◌<◌, length, get_or}
use Rattle.memory.specs.Memory.{byte, total, split}
use Rattle.protocol.specs.Modes.{reading_exchange, executing, writing_exchange}
use Rattle.protocol.specs.declared.Registers.{Registers}
use Rattle.protocol.specs.declared.Stack.{Stack}
use Rattle.code.specs.Code.{is_start}
use Rattle.exchange.specs.declared.Cursor.{Cursor}
use Rattle.exchange.specs.Exchange.{At}
use Rattle.records.specs.File.{cores, variables, record_place}
use Rattle.taskset.specs.Judge.{code_of}
use Rattle.taskset.specs.Task.{sizes_of}
use Rattle.states.specs.declared.CoreTask.{CoreTask}
use Rattle.states.specs.Tasks.{core_task}
use Rattle.states.specs.Set.{AcceptedSet}
use Rattle.states.specs.Fit.{FitCore}

-- ---- a step

-- core k of the file, with its task c, the registers r and the data d
pub record StepGiven (f t : List ℕ) (k : ℕ) (c : CoreTask) (r : Registers) (d : List ℕ) : Type 0 where
  pub accepted : AcceptedSet f t
  pub known : k < cores f
  pub task : c ≡ core_task f t k
  pub stack : Stack
  pub fit : FitCore f t k record { registers = r; stack = stack; memory = d }

-- ---- an instruction

-- core k, with its task c, stands at one
pub record AtInstruction (f t : List ℕ) (k : ℕ) (c : CoreTask) (counter : ℕ) : Type 0 where
  pub accepted : AcceptedSet f t
  pub known : k < cores f
  pub task : c ≡ core_task f t k
  pub start : is_start (code_of f k) counter ≡ true

-- the core executes below its limit, and stands at a command with this code byte; d is the data buffer of all cores
pub record InstructionGiven (f t : List ℕ) (k : ℕ) (c : CoreTask) (r : Registers) (d : List ℕ) (op : ℕ) : Type 0 where
  pub ready : StepGiven f t k c r (get_or (split (sizes_of f) d) k [])
  pub buffer : length d ≡ total (sizes_of f)
  pub executes : r.mode ≡ executing
  pub below-limit : r.count ≢ c.layout.limit
  pub command : byte (code_of f k) r.counter ≡ op

-- ---- an exchange

-- where that of core k with the registers r stands
pub record CursorAimed (f : List ℕ) (k : ℕ) (r : Registers) (cursor : Cursor) : Type 0 where
  pub reading : r.mode ≡ reading_exchange → At f (4 + k) r.exchange cursor
  pub writing : r.mode ≡ writing_exchange → At f k r.exchange cursor

-- core k, its exchange, and the data buffer d of all cores
pub record ExchangeGiven (f t : List ℕ) (k : ℕ) (c : CoreTask) (r : Registers) (d sh : List ℕ) (end : ℕ) (cursor : Cursor) : Type 0 where
  pub ready : StepGiven f t k c r (get_or (split (sizes_of f) d) k [])
  pub buffer : length d ≡ total (sizes_of f)
  pub shared : length sh ≡ 1024
  pub aimed : CursorAimed f k r cursor
  pub upto : end ≡ record_place f (variables f)
