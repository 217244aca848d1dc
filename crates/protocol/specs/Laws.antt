-- What the result on interleaving asks of an instruction and of a start state; and names for what a core has left to do.
use Rattle.std.specs.Prelude.{◌≡◌, ◌≢◌, ◌⊎◌, [], ℕ, suc, ◌+◌, ◌≤◌, length}
use Rattle.protocol.specs.Modes.{between_cycles, reading_exchange, executing, writing_exchange, stopped}
use Rattle.protocol.specs.State.{Core, State, Task, core, mode}

-- An instruction of a core in mode 2 leads to mode 2, 3 or 5, keeps the length of the data and the cycles; where mode 2 goes on, it is
-- counted, and the count was not the limit.
pub record Laws (t : Task) : Type 0 where
  pub no-idle : (k : ℕ) (c : Core) → mode c ≡ executing → mode (t.instruction k c) ≢ between_cycles
  pub no_read : (k : ℕ) (c : Core) → mode c ≡ executing → mode (t.instruction k c) ≢ reading_exchange
  pub no_write : (k : ℕ) (c : Core) → mode c ≡ executing → mode (t.instruction k c) ≢ writing_exchange
  pub modes : (k : ℕ) (c : Core) → mode c ≡ executing → mode (t.instruction k c) ≤ stopped
  pub keeps : (k : ℕ) (c : Core) → mode c ≡ executing → length (t.instruction k c).memory ≡ length c.memory
  pub cycles : (k : ℕ) (c : Core) → mode c ≡ executing → (t.instruction k c).registers.cycles ≡ c.registers.cycles
  pub counted : (k : ℕ) (c : Core) → mode c ≡ executing → mode (t.instruction k c) ≡ executing → (t.instruction k c).registers.count ≡ c.registers.count + 1
  pub limited : (k : ℕ) (c : Core) → mode c ≡ executing → mode (t.instruction k c) ≡ executing → c.registers.count ≢ t.limit k

-- Each core is between cycles or stopped
abbrev pub Between : State → Type 0
Between s = (k : ℕ) → (mode (core s.plant k) ≡ between_cycles) ⊎ (mode (core s.plant k) ≡ stopped)

pub record FreshStart (s : State) : Type 0 where
  pub free : s.semaphore.holder ≡ 0
  pub between : Between s
  pub empty : s.semaphore.line ≡ []

-- Nothing is left to do: no exchange, no execution
abbrev pub Still : Core → Type 0
Still c = (mode c ≢ reading_exchange) × (mode c ≢ executing) × (mode c ≢ writing_exchange)

-- In an exchange
abbrev pub Holding : Core → Type 0
Holding c = (mode c ≡ reading_exchange) ⊎ (mode c ≡ writing_exchange)

-- The semaphore: a core in an exchange holds it, and a holder is in an exchange; so at most one core is
pub record SemaphoreHeld (s : State) : Type 0 where
  pub held : (k : ℕ) → Holding (core s.plant k) → s.semaphore.holder ≡ suc k
  pub holding : (k : ℕ) → s.semaphore.holder ≡ suc k → Holding (core s.plant k)
