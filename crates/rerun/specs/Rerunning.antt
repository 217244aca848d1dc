-- What the functions of a rerun are given and what they promise. In order: a state at rest; an exchange; a reading; a taking; the whole list.
use Rattle.std.specs.Prelude.{◌≡◌, ◌≢◌, true, List, [], map, ℕ, ◌≤◌, ◌<◌, length, get_or, set, take}
use Rattle.memory.specs.Memory.{splice, total, split}
use Rattle.protocol.specs.Modes.{between_cycles}
use Rattle.protocol.specs.declared.Registers.{Registers}
use Rattle.protocol.specs.State.{core, untaken}
use Rattle.protocol.specs.Step.{copy, reading}
use Rattle.protocol.specs.Whole.{whole_one, whole}
use Rattle.protocol.specs.Laws.{Still}
use Rattle.protocol.specs.Variables.{reads_of, writes_of}
use Rattle.protocol.specs.Registers.{write_released}
use Rattle.protocol.specs.Rerun.{legal, decoded}
use Rattle.records.specs.File.{cores, variables, record_place}
use Rattle.taskset.specs.declared.Layout.{Layout}
use Rattle.taskset.specs.Layout.{layout_of}
use Rattle.taskset.specs.Task.{sizes_of, variables_of, sample_at}
use Rattle.taskset.specs.Trace.{record_count}
use Rattle.taskset.specs.Fresh.{fresh_of}
use Rattle.states.specs.declared.Held.{Held}
use Rattle.states.specs.declared.CoreTask.{CoreTask}
use Rattle.states.specs.Task.{task_of}
use Rattle.states.specs.Tasks.{core_task, tasks_of}
use Rattle.states.specs.Machine.{no_registers, stack_in, state_in}
use Rattle.states.specs.Set.{AcceptedSet}
use Rattle.steps.specs.Moving.{StepGiven}
use Rattle.runner.specs.declared.RunAnswer.{RunAnswer}
use Rattle.runner.specs.Runs.{left_as}
use Rattle.runner.specs.Executing.{Standing}
use Rattle.machine.specs.Calls.{lent_fits, answer_of, table_of}
use Rattle.takings.specs.Takings.{due_by}
use Rattle.rerun.specs.Calls.{list_refusal, rerun_left}

-- ---- a state at rest: no exchange, no execution

pub record Resting (f t : List ℕ) (cs : List Registers) (places offsets d sh : List ℕ) : Type 0 where
  pub stands : Standing f t cs places offsets d sh
  pub still : (j : ℕ) → Still (core (state_in f cs places offsets untaken d sh).plant j)

-- ---- an exchange

-- the data of core k in the data buffer d
abbrev pub data_in : List ℕ → ℕ → List ℕ → List ℕ
data_in f k d = get_or (split (sizes_of f) d) k []

-- core k with the registers r and the data d may move bytes between d and shared memory
pub record Exchanging (f t : List ℕ) (k : ℕ) (c : CoreTask) (first end : ℕ) (r : Registers) (d sh : List ℕ) : Type 0 where
  pub ready : StepGiven f t k c r d
  pub from : first ≡ record_place f 0
  pub upto : end ≡ record_place f (variables f)
  pub shared : length sh ≡ 1024

-- ---- a reading

-- the data of a core after it: input bytes, then all read variables
abbrev pub brought_to : List ℕ → List ℕ → ℕ → Registers → List ℕ → List ℕ → List ℕ
brought_to f t k r sh d = copy (reads_of (variables_of f) k) sh (splice d 0 (sample_at f t k r.cycles).input)

-- what it leaves: the record's time x, and the data d'
abbrev pub BroughtTo : List ℕ → List ℕ → ℕ → Registers → List ℕ → List ℕ → ℕ → List ℕ → Type 0
BroughtTo f t k r sh d x d' = (x ≡ (sample_at f t k r.cycles).time) × (d' ≡ brought_to f t k r sh d)

-- the same of the data buffer, where the data of other cores stay
abbrev pub BroughtIn : List ℕ → List ℕ → ℕ → Registers → List ℕ → List ℕ → ℕ → List ℕ → Type 0
BroughtIn f t k r sh d x d' = (x ≡ (sample_at f t k r.cycles).time) × (split (sizes_of f) d' ≡ set (split (sizes_of f) d) k (brought_to f t k r sh (data_in f k d)))

-- a core k with the registers r that has a reading to do, in some state at rest
pub record Reading (f t : List ℕ) (k : ℕ) (c : CoreTask) (first end : ℕ) (r : Registers) (places offsets d sh : List ℕ) : Type 0 where
  pub accepted : AcceptedSet f t
  pub known : k < cores f
  pub task : c ≡ core_task f t k
  pub from : first ≡ record_place f 0
  pub upto : end ≡ record_place f (variables f)
  pub idle : r.mode ≡ between_cycles
  pub due : r.cycles < record_count f t k
  pub cs : List Registers
  pub here : get_or cs k no_registers ≡ r
  pub rests : Resting f t cs places offsets d sh

-- what it makes of a state: what the whole-exchange machine does
pub record Reread (f t : List ℕ) (k : ℕ) (cs : List Registers) (places offsets d sh : List ℕ) (r' : Registers) (places' offsets' d' : List ℕ) : Type 0 where
  pub plant : (state_in f (set cs k r') places' offsets' untaken d' sh).plant ≡ whole_one (task_of f t) (reading k) (state_in f cs places offsets untaken d sh).plant
  pub entries : (length places' ≡ 64) × (length offsets' ≡ 64)
  pub buffer : length d' ≡ total (sizes_of f)
  pub spare : (j : ℕ) → cores f ≤ j → stack_in places' offsets' j ≡ stack_in places offsets j

-- in every state at rest with the registers r of core k
abbrev pub ReadsWhole : List ℕ → List ℕ → ℕ → Registers → List ℕ → List ℕ → List ℕ → List ℕ → Registers → List ℕ → List ℕ → List ℕ → Type 0
ReadsWhole f t k r places offsets d sh r' places' offsets' d' =
    (cs : List Registers) → get_or cs k no_registers ≡ r → Resting f t cs places offsets d sh → Reread f t k cs places offsets d sh r' places' offsets' d'

-- ---- a taking

-- core k with the registers r has the byte b of the list to do, in some state at rest
pub record Due (f t : List ℕ) (b k : ℕ) (c : CoreTask) (first end : ℕ) (r : Registers) (places offsets d sh : List ℕ) : Type 0 where
  pub accepted : AcceptedSet f t
  pub known : k < cores f
  pub task : c ≡ core_task f t k
  pub from : first ≡ record_place f 0
  pub upto : end ≡ record_place f (variables f)
  pub due : due_by b r c.count ≡ true
  pub cs : List Registers
  pub here : get_or cs k no_registers ≡ r
  pub rests : Resting f t cs places offsets d sh

-- what it leaves: a reading leaves shared memory, a writing everything else
pub record Took (f t : List ℕ) (b k : ℕ) (r : Registers) (places offsets d sh : List ℕ) (r' : Registers) (places' offsets' d' sh' : List ℕ) : Type 0 where
  pub reads : b < 16 → ReadsWhole f t k r places offsets d sh r' places' offsets' d' × (sh' ≡ sh)
  pub writes : 16 ≤ b → (r' ≡ write_released r) × (sh' ≡ copy (writes_of (variables_of f) k) (data_in f k d) sh) × (places' ≡ places) × (offsets' ≡ offsets) × (d' ≡ d)

-- ---- the whole list

-- the answer where all of it is taken, from the fresh table h
abbrev pub reran_answer : Held → List Registers → List ℕ → List ℕ → ℕ → RunAnswer
reran_answer h cs places offsets taken = record { refusal = 0; taken = taken; state = record { count = h.count; semaphore = h.semaphore; cores = cs; places = places; offsets = offsets } }

-- an accepted set that is laid out, and lent memories of its sizes
pub record RerunGiven (f t : List ℕ) (layout : Layout) (tasks : List CoreTask) (d sh : List ℕ) : Type 0 where
  pub accepted : AcceptedSet f t
  pub laid : layout ≡ layout_of f
  pub tasked : tasks ≡ tasks_of f t
  pub fits : lent_fits f (length d) (length sh) ≡ true

-- before byte i of the list: the takings so far are legal, and made the state now; cores from n on are as in the fresh table h
pub record Rerunning (f t list : List ℕ) (h : Held) (i : ℕ) (cs : List Registers) (places offsets d sh : List ℕ) : Type 0 where
  pub within : i ≤ length list
  pub lawful : legal (task_of f t) (map decoded (take i list)) (fresh_of f).plant ≡ true
  pub plant : (state_in f cs places offsets untaken d sh).plant ≡ whole (task_of f t) (map decoded (take i list)) (fresh_of f).plant
  pub four : length cs ≡ 4
  pub entries : (length places ≡ 64) × (length offsets ≡ 64)
  pub buffer : length d ≡ total (sizes_of f)
  pub shared : length sh ≡ 1024
  pub spare : (j : ℕ) → cores f ≤ j → (get_or cs j no_registers ≡ get_or h.cores j no_registers) × (stack_in places offsets j ≡ stack_in h.places h.offsets j)

-- in memories of its own, whose bytes are d and sh afterwards
pub record Reran (f t list : List ℕ) (r : RunAnswer) (d sh : List ℕ) : Type 0 where
  pub number : r.refusal ≡ list_refusal f t list
  pub done : r.refusal ≡ 0 → left_as r d sh [] ≡ rerun_left f t list
  pub refused : r.refusal ≢ 0 → r ≡ answer_of r.refusal (table_of 0 0)
