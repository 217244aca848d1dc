-- Document 01, "One step of a core": the machine that moves one core by one step, over any instruction, with the line of document 02, 2.4; runs and their
-- takings.
use Rattle.std.specs.Prelude.{Bool, true, false, List, [], ◌∷◌, ◌++◌, map, ℕ, zero, suc, ◌+◌, eqb, get_or, set, take, drop}
use Rattle.verdict.specs.Verdict.{pick, both}
use Rattle.memory.specs.Memory.{splice}
use Rattle.protocol.specs.Modes.{between_cycles, reading_exchange, executing, waiting_to_write, writing_exchange}
use Rattle.protocol.specs.Registers.{read_acquired, byte_copied, read_released, write_acquired, write_released}
use Rattle.protocol.specs.State.{Core, Semaphore, State, Move, Sample, Task, core, mode, put}

-- ---- exchanges

-- the bytes ms copied from one memory to another, the first one first
abbrev pub copy : List Move → List ℕ → List ℕ → List ℕ
copy [] from to = to
copy (m ∷ ms) from to = copy ms from (set to m.target (get_or from m.source 0))

-- the bytes of core c's exchange that are not copied yet, of all its bytes ms
abbrev pub uncopied : Core → List Move → List Move
uncopied c ms = drop c.registers.exchange ms

-- mode 0 to 1: the time and the input bytes of a record
unfoldable pub read_taken : Sample → Core → Core
read_taken r c = record { registers = read_acquired r.time c.registers; stack = c.stack; memory = splice c.memory 0 r.input }

-- within mode 1: d is the data with one byte more
unfoldable pub read_next : List ℕ → Core → Core
read_next d c = record { registers = byte_copied c.registers; stack = c.stack; memory = d }

-- mode 1 to 2: d is the data with all bytes
unfoldable pub read_done : List ℕ → Core → Core
read_done d c = record { registers = read_released c.registers; stack = c.stack; memory = d }

-- mode 3 to 4
unfoldable pub write_taken : Core → Core
write_taken c = record { registers = write_acquired c.registers; stack = c.stack; memory = c.memory }

-- within mode 4
unfoldable pub write_next : Core → Core
write_next c = record { registers = byte_copied c.registers; stack = c.stack; memory = c.memory }

-- mode 4 to 0
unfoldable pub write_done : Core → Core
write_done c = record { registers = write_released c.registers; stack = c.stack; memory = c.memory }

-- ---- the semaphore and its line

-- core k stands in the line
abbrev pub in_line : ℕ → List ℕ → Bool
in_line k [] = false
in_line k (x ∷ xs) = pick (eqb x k) true (in_line k xs)

-- the line that core k has joined: at its end, once
abbrev pub joined : ℕ → List ℕ → List ℕ
joined k xs = pick (in_line k xs) xs (xs ++ (k ∷ []))

-- core k may take the semaphore: it is free, and the line is empty or k is the first in it
abbrev pub turn_in : ℕ → List ℕ → ℕ → Bool
turn_in zero [] k = true
turn_in zero (x ∷ xs) k = eqb x k
turn_in (suc h) xs k = false

abbrev pub turn : Semaphore → ℕ → Bool
turn m k = turn_in m.holder m.line k

-- taken by core k in its turn, which leaves the line by that; released, the line kept; with core k in line
abbrev pub acquired_by : ℕ → Semaphore → Semaphore
acquired_by k m = record { holder = suc k; line = drop 1 m.line }

abbrev pub released : Semaphore → Semaphore
released m = record { holder = 0; line = m.line }

abbrev pub joined_by : ℕ → Semaphore → Semaphore
joined_by k m = record { holder = m.holder; line = joined k m.line }

-- a step of core k that waits for the semaphore: it joins the line, and changes nothing if it stands there
abbrev pub wait : ℕ → State → State
wait k s = record { plant = s.plant; semaphore = joined_by k s.semaphore }

-- ---- one step of core k, which is c, in state s

-- mode 0: nothing, if no input records are left; else take the semaphore in core k's turn, and wait out of it
abbrev pub take_read : List Sample → Bool → ℕ → Core → State → State
take_read [] b k c s = s
take_read (r ∷ rs) true k c s = record { plant = put s.plant k (read_taken r c); semaphore = acquired_by k s.semaphore }
take_read (r ∷ rs) false k c s = wait k s

-- mode 1: d is the data with this step's byte; where no bytes are left after it, release
abbrev pub read_on : List Move → List ℕ → ℕ → Core → State → State
read_on [] d k c s = record { plant = put s.plant k (read_done d c); semaphore = released s.semaphore }
read_on (m ∷ ms) d k c s = record { plant = put s.plant k (read_next d c); semaphore = s.semaphore }

-- mode 3: take the semaphore in core k's turn, and wait out of it
abbrev pub take_write : Bool → ℕ → Core → State → State
take_write true k c s = record { plant = put s.plant k (write_taken c); semaphore = acquired_by k s.semaphore }
take_write false k c s = wait k s

-- mode 4: sh is shared memory with this step's byte; where no bytes are left after it, release
abbrev pub write_on : List Move → List ℕ → ℕ → Core → State → State
write_on [] sh k c s = record { plant = record { cores = set s.plant.cores k (write_done c); shared = sh }; semaphore = released s.semaphore }
write_on (m ∷ ms) sh k c s = record { plant = record { cores = set s.plant.cores k (write_next c); shared = sh }; semaphore = s.semaphore }

-- by the mode
abbrev pub step_in : ℕ → Task → ℕ → Core → State → State
step_in m t k c s =
    pick (eqb m between_cycles) (take_read (drop c.registers.cycles (t.samples k)) (turn s.semaphore k) k c s)
    (pick (eqb m reading_exchange) (read_on (drop 1 (uncopied c (t.reads k))) (copy (take 1 (uncopied c (t.reads k))) s.plant.shared c.memory) k c s)
    (pick (eqb m executing) (record { plant = put s.plant k (t.instruction k c); semaphore = s.semaphore })
    (pick (eqb m waiting_to_write) (take_write (turn s.semaphore k) k c s)
    (pick (eqb m writing_exchange) (write_on (drop 1 (uncopied c (t.writes k))) (copy (take 1 (uncopied c (t.writes k))) c.memory s.plant.shared) k c s)
    s))))

unfoldable pub step : Task → ℕ → State → State
step t k s = step_in (mode (core s.plant k)) t k (core s.plant k) s

-- a list of steps, the first one first
abbrev pub run : Task → List ℕ → State → State
run t [] s = s
run t (k ∷ ks) s = run t ks (step t k s)

-- ---- takings

pub data Taking : Type 0 where
  reading : ℕ → Taking
  writing : ℕ → Taking

-- core k's mode was m and is m': 0 to 1 is a reading, 3 to 4 a writing, all else no taking
abbrev pub taken : ℕ → ℕ → ℕ → List Taking
taken m m' k =
    pick (both (eqb m between_cycles) (eqb m' reading_exchange)) (reading k ∷ []) (pick (both (eqb m waiting_to_write) (eqb m' writing_exchange)) (writing k ∷ []) [])

unfoldable pub taking_of : Task → ℕ → State → List Taking
taking_of t k s = taken (mode (core s.plant k)) (mode (core (step t k s).plant k)) k

abbrev pub takings : Task → List ℕ → State → List Taking
takings t [] s = []
takings t (k ∷ ks) s = taking_of t k s ++ takings t ks (step t k s)

-- the byte of a taking in the order list: the core, plus 16 for a writing
unfoldable pub encoded : Taking → ℕ
encoded (reading k) = k
encoded (writing k) = 16 + k

-- the bytes that a run writes to the order list
abbrev pub order_list : Task → List ℕ → State → List ℕ
order_list t ks s = map encoded (takings t ks s)
