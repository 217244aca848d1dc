-- Several bytes of an exchange, none of them its last: when there are so many, and what their copy leaves.
use Rattle.std.specs.Prelude.{◌≡◌, ◌⊎◌, List, [], ℕ, ◌+◌, ◌<◌, get_or, set, take, drop}
use Rattle.memory.specs.Memory.{split}
use Rattle.protocol.specs.declared.Registers.{Registers}
use Rattle.protocol.specs.Step.{copy}
use Rattle.protocol.specs.Variables.{reads_of, writes_of}
use Rattle.exchange.specs.declared.Cursor.{Cursor}
use Rattle.exchange.specs.Exchange.{At}
use Rattle.taskset.specs.Task.{sizes_of, variables_of}
use Rattle.states.specs.declared.CoreTask.{CoreTask}

-- a core with the task c and the registers r is in an exchange, and after `count` more bytes one is left
abbrev pub Ahead : CoreTask → Registers → ℕ → Type 0
Ahead c r count = ((r.mode ≡ 1) × (r.exchange + count < c.reads)) ⊎ ((r.mode ≡ 4) × (r.exchange + count < c.writes))

-- `count` bytes of core k's reading from number x on, in the data buffer d of all cores
abbrev pub BytesRead : List ℕ → ℕ → ℕ → ℕ → List ℕ → List ℕ → List ℕ → Type 0
BytesRead f k x count sh d d' =
    split (sizes_of f) d' ≡ set (split (sizes_of f) d) k (copy (take count (drop x (reads_of (variables_of f) k))) sh (get_or (split (sizes_of f) d) k []))

-- the same of its writing, in shared memory
abbrev pub BytesWritten : List ℕ → ℕ → ℕ → ℕ → List ℕ → List ℕ → List ℕ → Type 0
BytesWritten f k x count d sh sh' = sh' ≡ copy (take count (drop x (writes_of (variables_of f) k))) (get_or (split (sizes_of f) d) k []) sh

-- by the mode, with where the next byte stands
pub record BytesMoved (f : List ℕ) (k : ℕ) (r : Registers) (count : ℕ) (next : Cursor) (d sh d' sh' : List ℕ) : Type 0 where
  pub reading : r.mode ≡ 1 → At f (4 + k) (r.exchange + count) next × BytesRead f k r.exchange count sh d d' × (sh' ≡ sh)
  pub writing : r.mode ≡ 4 → At f k (r.exchange + count) next × BytesWritten f k r.exchange count d sh sh' × (d' ≡ d)
