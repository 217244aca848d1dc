-- Document 01, the core table: "the next core to move is the first after a given one, round the ring and that one last, whose step would
-- change something". In order: whether a core can move, by its mode; the order round the ring; the first core that moves.
use Rattle.std.specs.Prelude.{ℕ, ◌+◌, ◌%◌, Option, Some, None, Bool, not, List, [], ◌∷◌, ltb, eqb, get_or}
use Rattle.protocol.specs.Modes.{between_cycles, waiting_to_write, stopped}
use Rattle.verdict.specs.Verdict.{pick, both, either}
use Rattle.protocol.specs.declared.Registers.{Registers}
use Rattle.protocol.specs.State.{Semaphore}
use Rattle.protocol.specs.Step.{in_line, turn}
use Rattle.semaphore.specs.Line.{semaphore_of}
use Rattle.records.specs.File.{cores}
use Rattle.taskset.specs.Task.{listed}
use Rattle.taskset.specs.Trace.{record_count}
use Rattle.states.specs.declared.Held.{Held}
use Rattle.states.specs.Machine.{no_registers}

-- ---- a core

-- document 02, 2.4: a step of core k that would have the semaphore changes something if it is its turn, and also if it is not in line yet: joining is a change
abbrev pub served_or_joins : Semaphore → ℕ → Bool
served_or_joins m k = either (turn m k) (not (in_line k m.line))

-- by the mode: between cycles where that is so and records are left, waiting to write where that is so, in every other mode until it is stopped
abbrev pub can_move_in : ℕ → Bool → ℕ → ℕ → Bool
can_move_in m goes count cycles =
    pick (eqb m between_cycles) (both goes (ltb cycles count)) (pick (eqb m waiting_to_write) goes (ltb m stopped))

-- core k with these registers and so many input records, at a semaphore
unfoldable pub can_move : Semaphore → ℕ → ℕ → Registers → Bool
can_move m k count r = can_move_in r.mode (served_or_joins m k) count r.cycles

-- core k of a state
unfoldable pub can_move_at : List ℕ → List ℕ → Held → ℕ → Bool
can_move_at f t s k = can_move (semaphore_of s.semaphore) k (record_count f t k) (get_or s.cores k no_registers)

-- ---- the table

-- core number i after a given one, round the ring of n cores: the given one itself for n
abbrev pub round_from : ℕ → ℕ → ℕ → ℕ
round_from n given i = (given + i) % n

-- the first core of a list that moves
abbrev pub first_moving : (ℕ → Bool) → List ℕ → Option ℕ
first_moving moving [] = None
first_moving moving (k ∷ ks) = pick (moving k) (Some k) (first_moving moving ks)

-- the cores from the first after the given one to the given one itself
unfoldable pub next_moving : List ℕ → List ℕ → Held → ℕ → Option ℕ
next_moving f t s given = first_moving (can_move_at f t s) (listed (round_from (cores f) given) (cores f) 1)
