-- The machine's calls on a snapshot of the core table: its count and its first four records, copied out. Each call is the one by value (crate
-- machine, specs/Calls) on the state that the table holds; of a call that isn't refused the records become those of the state it leaves.
-- In order: a table as a state, and back; what a call leaves; the calls; the next core to move; the registers of one core. Not here: the lent
-- table that is copied out and written back (crate rikzord).
use Rattle.std.specs.Prelude.{ℕ, ◌+◌, ◌*◌, Bool, List, [], ◌∷◌, get_or, set, replicate, ltb, leb, eqb}
use Rattle.verdict.specs.Verdict.{pick, next}
use Rattle.verdict.specs.Numbers.{bad_lengths}
use Rattle.memory.specs.Memory.{splice, part}
use Rattle.protocol.specs.Modes.{between_cycles}
use Rattle.protocol.specs.declared.Registers.{Registers}
use Rattle.records.specs.File.{cores}
use Rattle.code.specs.declared.Profile.{Profile}
use Rattle.taskset.specs.Judge.{judge_for, judge}
use Rattle.semaphore.specs.declared.Semaphore.{Semaphore}
use Rattle.semaphore.specs.Line.{semaphore_of}
use Rattle.states.specs.declared.Held.{Held}
use Rattle.states.specs.Machine.{no_registers}
use Rattle.states.specs.Tasks.{task_at}
use Rattle.runner.specs.declared.RunAnswer.{RunAnswer}
use Rattle.runner.specs.Runs.{Left, left_as}
use Rattle.table.specs.Table.{can_move, round_from}
use Rattle.machine.specs.Calls.{answer_of, table_of, fresh_call_for, fresh_call, run_call, step_call, next_refusal}
use Rattle.rerun.specs.Calls.{rerun_call}
use Rattle.snapshot.specs.declared.CoreRecord.{CoreRecord}
use Rattle.snapshot.specs.declared.Table.{Table}
use Rattle.snapshot.specs.declared.After.{After}
use Rattle.snapshot.specs.declared.Ring.{Ring}

-- ---- a table as a state, and back

-- the registers of a record
abbrev pub registers_in : CoreRecord → Registers
registers_in c = record {
  mode = c.mode;
  counter = c.counter;
  offset = c.offset;
  depth = c.depth;
  count = c.count;
  exchange = c.exchange;
  cycles = c.cycles;
  flags = c.flags;
  time = c.time;
}

-- the record of these registers and this call stack, with zeros in its spare bytes
abbrev pub record_with : Registers → List ℕ → List ℕ → CoreRecord
record_with r places offsets = record {
  time = r.time;
  counter = r.counter;
  offset = r.offset;
  count = r.count;
  exchange = r.exchange;
  cycles = r.cycles;
  mode = r.mode;
  depth = r.depth;
  flags = r.flags;
  spare = replicate 3 0;
  places = places;
  offsets = offsets;
}

-- a record past the end of a table
abbrev pub no_record : CoreRecord
no_record = record_with no_registers (replicate 16 0) (replicate 16 0)

-- record k of a table copied out, which has four; no other is ever read
abbrev pub record_of : Table → ℕ → CoreRecord
record_of t k = get_or t.cores k record {
  time = 0;
  counter = 0;
  offset = 0;
  count = 0;
  exchange = 0;
  cycles = 0;
  mode = between_cycles;
  depth = 0;
  flags = 0;
  spare = [];
  places = [];
  offsets = [];
}

-- how many records a table has, in one byte: 255 stands for more, and is no number of cores
abbrev pub counted : ℕ → ℕ
counted n = pick (ltb n 255) n 255

-- a table copied out: its count, and its first four records
abbrev pub table_from : CoreRecord → CoreRecord → CoreRecord → CoreRecord → ℕ → Table
table_from a b c d n = record { count = counted n; cores = a ∷ b ∷ c ∷ d ∷ [] }

-- the entries of four call stacks, sixteen each, end to end
unfoldable pub entries : List ℕ → List ℕ → List ℕ → List ℕ → List ℕ
entries a b c d = splice (splice (splice (splice (replicate 64 0) 0 a) 16 b) 32 c) 48 d

unfoldable pub held_places : Table → List ℕ
held_places t = entries (record_of t 0).places (record_of t 1).places (record_of t 2).places (record_of t 3).places

unfoldable pub held_offsets : Table → List ℕ
held_offsets t = entries (record_of t 0).offsets (record_of t 1).offsets (record_of t 2).offsets (record_of t 3).offsets

-- the state that a table holds
unfoldable pub held : Table → Semaphore → Held
held t p = record {
  count = t.count;
  semaphore = p;
  cores = registers_in (record_of t 0) ∷ registers_in (record_of t 1) ∷ registers_in (record_of t 2) ∷ registers_in (record_of t 3) ∷ [];
  places = held_places t;
  offsets = held_offsets t;
}

-- the record of core k of a state
unfoldable pub core_of : Held → ℕ → CoreRecord
core_of s k = record_with (get_or s.cores k no_registers) (part s.places (16 * k) 16) (part s.offsets (16 * k) 16)

-- ---- what a call leaves

-- record k after a call that isn't refused: that of the state it leaves; the one on entry where the state has no core k
unfoldable pub record_after : Table → Held → ℕ → CoreRecord
record_after t s k = pick (ltb k s.count) (core_of s k) (record_of t k)

abbrev pub accepted_of : Table → Held → After
accepted_of t s = record { refusal = 0; a = record_after t s 0; b = record_after t s 1; c = record_after t s 2; d = record_after t s 3; semaphore = s.semaphore }

-- a refused call's number, with the semaphore and the records on entry
abbrev pub refused_of : Table → Semaphore → ℕ → After
refused_of t p n = record { refusal = n; a = record_of t 0; b = record_of t 1; c = record_of t 2; d = record_of t 3; semaphore = p }

abbrev pub after_of : Table → Semaphore → RunAnswer → After
after_of t p r = pick (eqb r.refusal 0) (accepted_of t r.state) (refused_of t p r.refusal)

-- the count of takings after a call; a refused one leaves it
abbrev pub taken_after : ℕ → RunAnswer → ℕ
taken_after taken r = pick (eqb r.refusal 0) r.taken taken

-- of a call on a table copied out: refusal number, semaphore and records, and every lent byte
pub record TableLeft : Type 0 where
  pub after : After
  pub memory : List ℕ
  pub shared : List ℕ
  pub order : List ℕ

abbrev pub table_left : After → List ℕ → List ℕ → List ℕ → TableLeft
table_left x d sh list = record { after = x; memory = d; shared = sh; order = list }

abbrev pub on_table : Table → Semaphore → Left → TableLeft
on_table t p l = table_left (after_of t p l.answer) l.memory l.shared l.order

-- ---- the calls

unfoldable pub step_table : List ℕ → List ℕ → Table → Semaphore → List ℕ → List ℕ → ℕ → TableLeft
step_table f t x p d sh k = on_table x p (step_call f t (held x p) d sh k)

unfoldable pub run_table : List ℕ → List ℕ → Table → Semaphore → List ℕ → List ℕ → List ℕ → List ℕ → TableLeft
run_table f t x p d sh order list = on_table x p (run_call f t (held x p) d sh order list)

-- how many takings a run has written to the order list
unfoldable pub taken_table : List ℕ → List ℕ → Table → Semaphore → List ℕ → List ℕ → List ℕ → List ℕ → ℕ → ℕ
taken_table f t x p d sh order list taken = taken_after taken (run_call f t (held x p) d sh order list).answer

-- the fresh state and a rerun from it need a table of at least n records (21, after the file's number), and write the first n of what the call by
-- value makes
abbrev pub made_on : ℕ → Left → List ℕ → Table → Semaphore → List ℕ → List ℕ → TableLeft
made_on judged made f x p d sh =
    on_table x p (pick (leb (cores f) x.count) made (left_as (answer_of (next judged bad_lengths) (table_of 0 0)) d sh []))

unfoldable pub fresh_table_for : Profile → List ℕ → Table → Semaphore → List ℕ → List ℕ → TableLeft
fresh_table_for profile f x p d sh = made_on (judge_for profile f) (fresh_call_for profile f d sh) f x p d sh

-- under the full profile
unfoldable pub fresh_table : List ℕ → Table → Semaphore → List ℕ → List ℕ → TableLeft
fresh_table f x p d sh = made_on (judge f) (fresh_call f d sh) f x p d sh

-- document 02, 2.13: the order list, rerun on a trace
unfoldable pub rerun_table : List ℕ → List ℕ → List ℕ → Table → Semaphore → List ℕ → List ℕ → TableLeft
rerun_table f t list x p d sh = made_on (judge f) (rerun_call f t list d sh) f x p d sh

-- ---- the next core to move: what a scan of the records round the ring needs, each tested as by value (crate table, specs/Table)

-- the input records of the four places
abbrev pub counts_of : List ℕ → List ℕ → List ℕ
counts_of f t = (task_at f t 0).count ∷ (task_at f t 1).count ∷ (task_at f t 2).count ∷ (task_at f t 3).count ∷ []

abbrev pub refused_ring : ℕ → ℕ → Semaphore → Ring
refused_ring number given p = record { refusal = number; cores = 0; given = given; semaphore = p; counts = replicate 4 0 }

-- what the scan needs beside the records
unfoldable pub ring_of : List ℕ → List ℕ → Table → Semaphore → ℕ → Ring
ring_of f t x p given =
    pick (eqb (next_refusal f t (held x p) given) 0)
    (record { refusal = 0; cores = cores f; given = given; semaphore = p; counts = counts_of f t })
    (refused_ring (next_refusal f t (held x p) given) given p)

-- core number i + 1 after the given one
abbrev pub place_after : Ring → ℕ → ℕ
place_after r i = pick (eqb r.cores 0) 0 (round_from r.cores r.given (i + 1))

-- core k with this record can move
abbrev pub record_moves : Ring → ℕ → CoreRecord → Bool
record_moves r k c = can_move (semaphore_of r.semaphore) k (pick (ltb k 4) (get_or r.counts k 0) 0) (registers_in c)

-- the refusal number, and the byte that takes the core's number; a refused call leaves it
pub record Answered : Type 0 where
  pub refusal : ℕ
  pub found : ℕ

abbrev pub answered : ℕ → ℕ → Answered
answered r found = record { refusal = r; found = found }

abbrev pub ring_answer : Ring → ℕ → ℕ → Answered
ring_answer r k found = pick (eqb r.refusal 0) (answered 0 k) (answered r.refusal found)

-- ---- the registers of one core, lent to its step beside the rest of the state

-- the state with these registers for core k
unfoldable pub with_registers : Held → ℕ → Registers → Held
with_registers s k r = record { count = s.count; semaphore = s.semaphore; cores = set s.cores k r; places = s.places; offsets = s.offsets }

-- the lent registers after a call that left this state; those on entry where it names no core
abbrev pub registers_after : Held → ℕ → Registers → Registers
registers_after s k r = pick (ltb k 4) (get_or s.cores k no_registers) r

unfoldable pub step_registers : List ℕ → List ℕ → Held → Registers → List ℕ → List ℕ → ℕ → Left
step_registers f t s r d sh k = step_call f t (with_registers s k r) d sh k
