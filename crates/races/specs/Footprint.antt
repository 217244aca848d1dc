-- What a step touches: the places that a step of a core reads and writes, mode by mode, after document 01, "One step of a core"; and
-- which neighbouring steps can change places: those of different cores that do not both touch the semaphore.
-- In order: places; the data of an instruction, over any instruction; the places of a step; what makes them right; no races; changing places.
-- The claims, of every list of steps, are proved in proofs/: `footprint-right` in Footprint, `race-free` in RaceFree, `steps-commute` and `swaps-alike` in Swaps.
-- Not here: which data document 01's instructions read and write (crate operands).
use Rattle.std.specs.Prelude.{◌≡◌, ◌≢◌, ◌⊎◌, Bool, true, false, List, [], ◌∷◌, ◌++◌, map, ℕ, zero, suc, length, get_or, take, drop, eqb}
use Rattle.verdict.specs.Verdict.{pick}
use Rattle.protocol.specs.Modes.{between_cycles, reading_exchange, executing, waiting_to_write, writing_exchange}
use Rattle.protocol.specs.declared.Registers.{Registers}
use Rattle.protocol.specs.declared.Stack.{Stack}
use Rattle.protocol.specs.State.{Core, Semaphore, State, Move, Sample, Task, core, mode}
use Rattle.protocol.specs.Step.{uncopied, turn, step, run, taking_of, takings}
use Rattle.protocol.specs.Variables.{In}

-- ---- places. The file and the trace, which no step writes, are none.

-- core k's registers with its call stack; byte i of its data; byte i of shared memory; the semaphore, its line included
pub data Place : Type 0 where
  control : ℕ → Place
  local : ℕ → ℕ → Place
  byte : ℕ → Place
  semaphore : Place

pub record Control : Type 0 where
  pub registers : Registers
  pub stack : Stack

abbrev pub control_of : Core → Control
control_of c = record { registers = c.registers; stack = c.stack }

-- what stands at a place
abbrev pub What : Place → Type 0
What (control k) = Control
What (local k i) = ℕ
What (byte i) = ℕ
What semaphore = Semaphore

abbrev pub content : (p : Place) → State → What p
content (control k) s = control_of (core s.plant k)
content (local k i) s = get_or (core s.plant k).memory i 0
content (byte i) s = get_or s.plant.shared i 0
content semaphore s = s.semaphore

-- the same stands there in both states
abbrev pub SameAt : Place → State → State → Type 0
SameAt p s s' = content p s ≡ content p s'

-- the n bytes from byte i on
abbrev pub stretch : ℕ → ℕ → List ℕ
stretch i zero = []
stretch i (suc n) = i ∷ stretch (suc i) n

-- ---- the data of an instruction

-- the bytes of its core's data that an instruction reads and writes
pub record DataFootprint : Type 0 where
  pub reads : List ℕ
  pub writes : List ℕ

-- of the next instruction of each core
abbrev pub DataFootprints : Type 0
DataFootprints = ℕ → Core → DataFootprint

-- c and c' have the same registers, the same call stack, the same in all that core k's instruction in c reads, and data of one size
pub record SameSources (o : DataFootprints) (k : ℕ) (c c' : Core) : Type 0 where
  pub same-control : control_of c ≡ control_of c'
  pub size : length c.memory ≡ length c'.memory
  pub read : (i : ℕ) → In i (o k c).reads → get_or c.memory i 0 ≡ get_or c'.memory i 0

-- The instructions of a task: each changes no other data, and depends on no other
pub record DataFootprintsRight (t : Task) (o : DataFootprints) : Type 0 where
  pub changes : (k : ℕ) (c : Core) (i : ℕ) → (In i (o k c).writes → ⊥) → get_or c.memory i 0 ≡ get_or (t.instruction k c).memory i 0
  pub bytes : (k : ℕ) (c c' : Core) → SameSources o k c c' → o k c ≡ o k c'
  pub control-after : (k : ℕ) (c c' : Core) → SameSources o k c c' → control_of (t.instruction k c) ≡ control_of (t.instruction k c')
  pub written : (k : ℕ) (c c' : Core) → SameSources o k c c' → (i : ℕ) → In i (o k c).writes
      → get_or (t.instruction k c).memory i 0 ≡ get_or (t.instruction k c').memory i 0

-- ---- the places of a step

pub record Footprint : Type 0 where
  pub reads : List Place
  pub writes : List Place

-- bytes of core k's data
abbrev pub locals : ℕ → List ℕ → List Place
locals k is = map (local k) is

-- the input bytes of core k's next record: its first data bytes
abbrev pub inputs : ℕ → List Sample → List Place
inputs k [] = []
inputs k (r ∷ rs) = locals k (stretch 0 (length r.input))

-- these places, unless the input records are spent
abbrev pub unspent : List Sample → List Place → List Place
unspent [] ps = []
unspent (r ∷ rs) ps = ps

-- what core k writes with a taking in its turn; out of it, it writes the line alone
abbrev pub taking_writes : Bool → ℕ → List Place → List Place
taking_writes true k ps = control k ∷ semaphore ∷ ps
taking_writes false k ps = semaphore ∷ []

-- the byte that is copied, if any is left: where it comes from, where it goes; of shared memory (`byte`) or of core k's data (`local k`)
abbrev pub sources : (ℕ → Place) → List Move → List Place
sources place ms = map (λ m. place m.source) (take 1 ms)

abbrev pub targets : (ℕ → Place) → List Move → List Place
targets place ms = map (λ m. place m.target) (take 1 ms)

-- the semaphore, if no bytes are left after this one: the step that releases
abbrev pub release : List Move → List Place
release [] = semaphore ∷ []
release (m ∷ ms) = []

-- a step of core k, which is c, by its mode; b says whether it is its turn to take the semaphore. A stopped core reads its mode only
abbrev pub footprint_in : ℕ → Task → DataFootprints → ℕ → Core → Bool → Footprint
footprint_in m t o k c b =
    pick (eqb m between_cycles)
    (record {
      reads = control k ∷ unspent (drop c.registers.cycles (t.samples k)) (semaphore ∷ []);
      writes = unspent (drop c.registers.cycles (t.samples k)) (taking_writes b k (inputs k (drop c.registers.cycles (t.samples k))));
    })
    (pick (eqb m reading_exchange)
    (record {
      reads = control k ∷ release (drop 1 (uncopied c (t.reads k))) ++ sources byte (uncopied c (t.reads k));
      writes = control k ∷ release (drop 1 (uncopied c (t.reads k))) ++ targets (local k) (uncopied c (t.reads k));
    })
    (pick (eqb m executing)
    (record { reads = control k ∷ locals k (o k c).reads; writes = control k ∷ locals k (o k c).writes })
    (pick (eqb m waiting_to_write)
    (record { reads = control k ∷ semaphore ∷ []; writes = taking_writes b k [] })
    (pick (eqb m writing_exchange)
    (record {
      reads = control k ∷ release (drop 1 (uncopied c (t.writes k))) ++ sources (local k) (uncopied c (t.writes k));
      writes = control k ∷ release (drop 1 (uncopied c (t.writes k))) ++ targets byte (uncopied c (t.writes k));
    })
    (record { reads = control k ∷ []; writes = [] })))))

-- of core k's step in state s
unfoldable pub footprint : Task → DataFootprints → ℕ → State → Footprint
footprint t o k s = footprint_in (mode (core s.plant k)) t o k (core s.plant k) (turn s.semaphore k)

abbrev pub Reads : Task → DataFootprints → ℕ → State → Place → Type 0
Reads t o k s p = In p (footprint t o k s).reads

abbrev pub Writes : Task → DataFootprints → ℕ → State → Place → Type 0
Writes t o k s p = In p (footprint t o k s).writes

abbrev pub Touches : Task → DataFootprints → ℕ → State → Place → Type 0
Touches t o k s p = Reads t o k s p ⊎ Writes t o k s p

-- ---- footprints are right

-- s and s' have the same in all that core k's step from s reads, shared memory of one size, and data of core k of one size
pub record SameRead (t : Task) (o : DataFootprints) (k : ℕ) (s s' : State) : Type 0 where
  pub size : length s.plant.shared ≡ length s'.plant.shared
  pub data-size : length (core s.plant k).memory ≡ length (core s'.plant k).memory
  pub read : (p : Place) → Reads t o k s p → SameAt p s s'

-- The step of core k from s
pub record FootprintRight (t : Task) (o : DataFootprints) (k : ℕ) (s : State) : Type 0 where
  -- it changes nothing but what it writes; no cores, no data and no shared bytes come or go
  pub changes : (p : Place) → (Writes t o k s p → ⊥) → SameAt p s (step t k s)
  pub cores-number : length (step t k s).plant.cores ≡ length s.plant.cores
  pub data-sizes : (j : ℕ) → length (core (step t k s).plant j).memory ≡ length (core s.plant j).memory
  pub shared-size : length (step t k s).plant.shared ≡ length s.plant.shared
  -- it depends on nothing but what it reads: the places, what it writes there, and its taking
  pub places : (s' : State) → SameRead t o k s s' → footprint t o k s ≡ footprint t o k s'
  pub written : (s' : State) → SameRead t o k s s' → (p : Place) → Writes t o k s p → SameAt p (step t k s) (step t k s')
  pub taking : (s' : State) → SameRead t o k s s' → taking_of t k s ≡ taking_of t k s'

-- ---- no races

-- The next steps of all cores in s
pub record RaceFree (t : Task) (o : DataFootprints) (s : State) : Type 0 where
  -- what one core writes, no other core reads or writes, the semaphore aside
  pub no_race : (j k : ℕ) → j ≢ k → (p : Place) → Writes t o j s p → Touches t o k s p → p ≡ semaphore
  -- shared memory is touched by the holder alone
  pub by-holder : (k i : ℕ) → Touches t o k s (byte i) → s.semaphore.holder ≡ suc k
  -- a core's registers, call stack and data by no other core
  pub control-alone : (j k : ℕ) → Touches t o k s (control j) → j ≡ k
  pub local-alone : (j i k : ℕ) → Touches t o k s (local j i) → j ≡ k

-- ---- changing places

-- steps of different cores that do not both touch the semaphore
pub record Independent (t : Task) (o : DataFootprints) (j k : ℕ) (s : State) : Type 0 where
  pub different : j ≢ k
  pub not-both : Touches t o j s semaphore → Touches t o k s semaphore → ⊥

-- two lists of steps from s that end alike, with the same takings
pub record Alike (t : Task) (js ks : List ℕ) (s : State) : Type 0 where
  pub end : run t js s ≡ run t ks s
  pub takings-same : takings t js s ≡ takings t ks s

-- lists of steps that differ by changes of places of such neighbours, each in the state where it stands
pub data Swaps (t : Task) (o : DataFootprints) : State → List ℕ → List ℕ → Type 0 where
  none : {s : State} {ks : List ℕ} → Swaps t o s ks ks
  swap : {s : State} {j k : ℕ} {ks : List ℕ} → Independent t o j k s → Swaps t o s (j ∷ k ∷ ks) (k ∷ j ∷ ks)
  later : {s : State} {k : ℕ} {is js : List ℕ} → Swaps t o (step t k s) is js → Swaps t o s (k ∷ is) (k ∷ js)
  more : {s : State} {is js ks : List ℕ} → Swaps t o s is js → Swaps t o s js ks → Swaps t o s is ks
