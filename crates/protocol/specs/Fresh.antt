-- Document 01: "Fresh: memories zero, mode 0, all registers 0, flags 4, semaphore free." Document 02, 2.12: the memories may hold start values.
-- In order: a fresh core's flags; the fresh state whatever its memories hold; with memories of zeros. Not here: what a task set file has in them (crate taskset).
use Rattle.std.specs.Prelude.{List, [], map, ℕ, ◌^◌, replicate}
use Rattle.verdict.specs.Numbers.{cold_start_bit}
use Rattle.protocol.specs.Modes.{between_cycles}
use Rattle.protocol.specs.State.{Core, State, cleared}

-- flags 4: the cold-start bit alone
abbrev pub fresh_flags : ℕ
fresh_flags = 2 ^ cold_start_bit

-- a core with these data
abbrev pub fresh_core : List ℕ → Core
fresh_core memory = record { registers = cleared between_cycles fresh_flags; stack = record { places = replicate 16 0; offsets = replicate 16 0 }; memory = memory }

-- the cores' data and shared memory give the state
abbrev pub fresh : List (List ℕ) → List ℕ → State
fresh memories shared = record { plant = record { cores = map fresh_core memories; shared = shared }; semaphore = record { holder = 0; line = [] } }

abbrev pub zeros : ℕ → List ℕ
zeros n = replicate n 0

-- memories zero: the cores' data sizes give the state; shared memory has 1,024 bytes
abbrev pub fresh_zero : List ℕ → State
fresh_zero sizes = fresh (map zeros sizes) (zeros 1024)
