-- Document 01: "A state is unfit if ..": refusal 23. In order: the test, rule by rule in the document's order; the same as properties of the
-- state, which every step keeps (`fit-kept`) and which hold exactly where the test does (`fit-exactly`).
use Rattle.std.specs.Prelude.{◌≡◌, ◌≢◌, ℕ, ◌+◌, ◌*◌, ◌≤◌, ◌<◌, Bool, true, false, not, List, [], ◌∷◌, get_or, length, ltb, leb, eqb}
use Rattle.verdict.specs.Numbers.{unfit_state}
use Rattle.verdict.specs.Verdict.{pick, both, either, within, upto, unless}
use Rattle.code.specs.Code.{is_start}
use Rattle.protocol.specs.Modes.{between_cycles, reading_exchange, executing, waiting_to_write, writing_exchange, stopped}
use Rattle.protocol.specs.Registers.{flag_bound}
use Rattle.protocol.specs.declared.Registers.{Registers}
use Rattle.protocol.specs.State.{Core, State, core, mode}
use Rattle.protocol.specs.Variables.{reads_of, writes_of}
use Rattle.protocol.specs.Step.{in_line}
use Rattle.protocol.specs.Laws.{SemaphoreHeld}
use Rattle.protocol.specs.Fair.{FitLine}
use Rattle.semaphore.specs.Line.{semaphore_of}
use Rattle.processor.specs.Placed.{Placed}
use Rattle.records.specs.File.{cores, data_size, limit}
use Rattle.taskset.specs.Judge.{code_of}
use Rattle.taskset.specs.Task.{variables_of}
use Rattle.taskset.specs.Trace.{record_count}
use Rattle.states.specs.declared.Held.{Held}
use Rattle.states.specs.Task.{task_of}
use Rattle.states.specs.Machine.{no_registers}

-- two tests agree
abbrev pub agree : Bool → Bool → Bool
agree true b = b
agree false true = false
agree false false = true

-- entry i of core k's call stack, among the return places or the offsets of all
abbrev pub entry : List ℕ → ℕ → ℕ → ℕ
entry l k i = get_or l (16 * k + i) 0

-- program counter and return places start instructions
unfoldable pub places_fit : List ℕ → Registers → (ℕ → ℕ) → Bool
places_fit c r place = both (is_start c r.counter) (upto (λ i. is_start c (place i)) 16)

-- no offset reaches the data size
unfoldable pub offsets_fit : ℕ → Registers → (ℕ → ℕ) → Bool
offsets_fit size r offset = both (ltb r.offset size) (upto (λ i. ltb (offset i) size) 16)

-- the depth is at most 16, and 0 outside modes 2 and 5
unfoldable pub depth_fit : Registers → Bool
depth_fit r = pick (either (eqb r.mode executing) (eqb r.mode stopped)) (leb r.depth 16) (eqb r.depth 0)

-- the exchange number doesn't pass its exchange's bytes, and is 0 outside modes 1 and 4
unfoldable pub exchange_fit : ℕ → ℕ → Registers → Bool
exchange_fit reads writes r =
    pick (eqb r.mode reading_exchange) (leb r.exchange reads) (pick (eqb r.mode writing_exchange) (leb r.exchange writes) (eqb r.exchange 0))

-- cycles don't exceed the trace's count, nor equal it in modes 1 to 4
unfoldable pub cycles_fit : ℕ → Registers → Bool
cycles_fit count r = pick (within 1 4 r.mode) (ltb r.cycles count) (leb r.cycles count)

-- a core is in mode 1 or 4 exactly if it is the semaphore's holder: so no two cores are, and the semaphore is free exactly if none is
unfoldable pub holder_fit : ℕ → ℕ → Registers → Bool
holder_fit holder k r = agree (either (eqb r.mode reading_exchange) (eqb r.mode writing_exchange)) (eqb holder (k + 1))

-- a stack entry above the depth is 0
abbrev pub freed_at : ℕ → ℕ → ℕ → ℕ → Bool
freed_at depth i place offset = either (ltb i depth) (both (eqb place 0) (eqb offset 0))

unfoldable pub freed_fit : Registers → (ℕ → ℕ) → (ℕ → ℕ) → Bool
freed_fit r place offset = upto (λ i. freed_at r.depth i (place i) (offset i)) 16

-- the rules of execution: mode, places, offsets, depth, count
unfoldable pub execution_fit : List ℕ → ℕ → ℕ → Registers → (ℕ → ℕ) → (ℕ → ℕ) → Bool
execution_fit c size most r place offset =
    both (leb r.mode stopped) (both (places_fit c r place) (both (offsets_fit size r offset) (both (depth_fit r) (leb r.count most))))

-- the rules of exchanges: exchange number, cycles, semaphore
unfoldable pub exchanges_fit : ℕ → ℕ → ℕ → ℕ → ℕ → Registers → Bool
exchanges_fit reads writes count holder k r = both (exchange_fit reads writes r) (both (cycles_fit count r) (holder_fit holder k r))

-- all rules; flag bit 7 is not set
unfoldable pub core_fit : List ℕ → List ℕ → ℕ → ℕ → Registers → (ℕ → ℕ) → (ℕ → ℕ) → Bool
core_fit f t holder k r place offset =
    both (execution_fit (code_of f k) (data_size f k) (limit f k) r place offset)
    (both (exchanges_fit (length (reads_of (variables_of f) k)) (length (writes_of (variables_of f) k)) (record_count f t k) holder k r)
    (both (freed_fit r place offset) (ltb r.flags flag_bound)))

-- core k of a state
unfoldable pub fit_at : List ℕ → List ℕ → Held → ℕ → Bool
fit_at f t s k = core_fit f t s.semaphore.holder k (get_or s.cores k no_registers) (entry s.places k) (entry s.offsets k)

-- a core with these registers and so many input records is in mode 0 or 3, and has records left
unfoldable pub may_wait : ℕ → Registers → Bool
may_wait count r = both (either (eqb r.mode between_cycles) (eqb r.mode waiting_to_write)) (ltb r.cycles count)

-- document 02, 2.4: the line names no core twice, none from n on, none that is not in mode 0 or 3, and none that is out of records
abbrev pub line_fit_in : List ℕ → List ℕ → Held → List ℕ → Bool
line_fit_in f t s [] = true
line_fit_in f t s (k ∷ ks) =
    both (not (in_line k ks)) (both (ltb k (cores f)) (both (may_wait (record_count f t k) (get_or s.cores k no_registers)) (line_fit_in f t s ks)))

-- a line has at most four entries
unfoldable pub line_fit : List ℕ → List ℕ → Held → Bool
line_fit f t s = both (leb s.semaphore.waiting 4) (line_fit_in f t s (semaphore_of s.semaphore).line)

-- the table has n records, the semaphore names one of them or is free, each core is fit, and so is the line
unfoldable pub state_fit : List ℕ → List ℕ → Held → Bool
state_fit f t s = both (eqb s.count (cores f)) (both (leb s.semaphore.holder (cores f)) (both (upto (fit_at f t s) (cores f)) (line_fit f t s)))

unfoldable pub state_refusal : List ℕ → List ℕ → Held → ℕ
state_refusal f t s = unless (state_fit f t s) unfit_state

-- ---- the same as properties

-- Core k of the file f on the trace t
pub record FitCore (f t : List ℕ) (k : ℕ) (c : Core) : Type 0 where
  pub modes : mode c ≤ stopped
  pub placed : Placed (code_of f k) (data_size f k) c.registers c.stack
  pub shallow : mode c ≢ executing → mode c ≢ stopped → c.registers.depth ≡ 0
  pub counts : c.registers.count ≤ limit f k
  pub reading : mode c ≡ reading_exchange → c.registers.exchange ≤ length (reads_of (variables_of f) k)
  pub writing : mode c ≡ writing_exchange → c.registers.exchange ≤ length (writes_of (variables_of f) k)
  pub outside : mode c ≢ reading_exchange → mode c ≢ writing_exchange → c.registers.exchange ≡ 0
  pub cycles : c.registers.cycles ≤ record_count f t k
  pub under-way : reading_exchange ≤ mode c → mode c ≤ writing_exchange → c.registers.cycles < record_count f t k
  pub flags : c.registers.flags < flag_bound
  pub size : length c.memory ≡ data_size f k

-- The state: its n cores, the semaphore and its line, and lent memory of the right size
pub record Fit (f t : List ℕ) (s : State) : Type 0 where
  pub table : length s.plant.cores ≡ cores f
  pub each : (k : ℕ) → k < cores f → FitCore f t k (core s.plant k)
  pub held : SemaphoreHeld s
  pub line : FitLine (task_of f t) s
  pub shared : length s.plant.shared ≡ 1024
