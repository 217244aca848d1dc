-- What the answer on the next core to move says of steps. Read with document 01, "One step of a core" (crate protocol, specs/Step) and the
-- core table (specs/Table). `next-core` of proofs/Next proves `NextCore` of every fit state.
use Rattle.std.specs.Prelude.{◌≡◌, ◌≢◌, ◌⊎◌, ◌↔◌, true, List, ℕ, ◌≤◌, ◌<◌, Some, None}
use Rattle.protocol.specs.Modes.{between_cycles, stopped}
use Rattle.protocol.specs.State.{State, Task, core, mode}
use Rattle.protocol.specs.Step.{step}
use Rattle.records.specs.File.{cores}
use Rattle.taskset.specs.Trace.{record_count}
use Rattle.states.specs.Task.{task_of}
use Rattle.states.specs.declared.Held.{Held}
use Rattle.table.specs.Table.{can_move_at, round_from, next_moving}

-- Of n cores, j is the first after the given one, round the ring and that one last, whose step changes the state s
pub record FirstToMove (t : Task) (n : ℕ) (s : State) (given j : ℕ) : Type 0 where
  pub inside : j < n
  pub changes : step t j s ≢ s
  -- so many cores on from the given one; the steps of those before change nothing
  pub distance : ℕ
  pub least : 1 ≤ distance
  pub most : distance ≤ n
  pub there : j ≡ round_from n given distance
  pub passed : (i : ℕ) → 1 ≤ i → i < distance → step t (round_from n given i) s ≡ s
  -- the given one comes last: it is named only where all others are passed
  pub given-last : j ≡ given → distance ≡ n

-- No step of any of n cores changes anything
abbrev pub AtRest : Task → ℕ → State → Type 0
AtRest t n s = (k : ℕ) → k < n → step t k s ≡ s

-- Core k is stopped or out of records
abbrev pub DoneAt : List ℕ → List ℕ → State → ℕ → Type 0
DoneAt f t s k = (mode (core s.plant k) ≡ stopped) ⊎ ((mode (core s.plant k) ≡ between_cycles) × ((core s.plant k).registers.cycles ≡ record_count f t k))

-- Every core is
abbrev pub Done : List ℕ → List ℕ → State → Type 0
Done f t s = (k : ℕ) → k < cores f → DoneAt f t s k

-- The file f on the trace t, a caller's state h, which is s with the lent memories, and a given core.
pub record NextCore (f t : List ℕ) (h : Held) (s : State) (given : ℕ) : Type 0 where
  -- A core counts as moving exactly if its step changes something.
  pub moves-exactly : (k : ℕ) → k < cores f → (can_move_at f t h k ≡ true) ↔ (step (task_of f t) k s ≢ s)
  -- A core that is named is the first.
  pub next-is-first : (j : ℕ) → next_moving f t h given ≡ Some j → FirstToMove (task_of f t) (cores f) s given j
  -- "None" says that no step changes anything, and that every core is stopped or out of records: these three are the same.
  pub none-means-rest : (next_moving f t h given ≡ None) ↔ AtRest (task_of f t) (cores f) s
  pub none-means-done : (next_moving f t h given ≡ None) ↔ Done f t s
  pub rest-means-done : AtRest (task_of f t) (cores f) s ↔ Done f t s
