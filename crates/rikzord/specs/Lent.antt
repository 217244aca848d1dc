-- The lent forms of the machine's calls: the core table is a lent list of records, and the semaphore a lent record beside it. Each call is the
-- one on a snapshot of the table (crate snapshot, specs/Snapshot); of a call that isn't refused the table's records are written back.
-- In order: a table copied out; what a call leaves; the calls; the next core to move. Not here: calls one after another (crate lent_calls).
use Rattle.std.specs.Prelude.{ℕ, zero, suc, ◌+◌, List, length, get_or, set, eqb, Option, Some, None}
use Rattle.verdict.specs.Verdict.{pick}
use Rattle.semaphore.specs.declared.Semaphore.{Semaphore}
use Rattle.table.specs.Table.{next_moving}
use Rattle.machine.specs.Calls.{next_refusal}
use Rattle.code.specs.declared.Profile.{Profile}
use Rattle.snapshot.specs.declared.CoreRecord.{CoreRecord}
use Rattle.snapshot.specs.declared.Table.{Table}
use Rattle.snapshot.specs.declared.After.{After}
use Rattle.snapshot.specs.declared.Ring.{Ring}
use Rattle.snapshot.specs.Snapshot.{no_record, table_from, held, TableLeft, step_table, run_table, taken_table, fresh_table_for, fresh_table, rerun_table, place_after, record_moves, Answered, answered}

-- ---- a table copied out

-- record k of a lent table
abbrev pub record_at : List CoreRecord → ℕ → CoreRecord
record_at ys k = get_or ys k no_record

abbrev pub loaded : List CoreRecord → Table
loaded ys = table_from (record_at ys 0) (record_at ys 1) (record_at ys 2) (record_at ys 3) (length ys)

-- ---- what a call leaves

-- of a call on a lent table: refusal number, every record, semaphore, and every lent byte
pub record Lent : Type 0 where
  pub refusal : ℕ
  pub table : List CoreRecord
  pub semaphore : Semaphore
  pub memory : List ℕ
  pub shared : List ℕ
  pub order : List ℕ

abbrev pub lent : ℕ → List CoreRecord → Semaphore → List ℕ → List ℕ → List ℕ → Lent
lent r ys p d sh list = record { refusal = r; table = ys; semaphore = p; memory = d; shared = sh; order = list }

-- the records that a table has are written back; of a refused call none
abbrev pub stored_records : List CoreRecord → After → List CoreRecord
stored_records ys x = set (set (set (set ys 0 x.a) 1 x.b) 2 x.c) 3 x.d

abbrev pub saved : List CoreRecord → After → List CoreRecord
saved ys x = pick (eqb x.refusal 0) (stored_records ys x) ys

-- so is the answer's semaphore; of a refused call the one on entry stays
abbrev pub saved_semaphore : Semaphore → After → Semaphore
saved_semaphore p x = pick (eqb x.refusal 0) x.semaphore p

abbrev pub written_back : List CoreRecord → TableLeft → Lent
written_back ys l = lent l.after.refusal (saved ys l.after) l.after.semaphore l.memory l.shared l.order

-- ---- the calls: on the snapshot, which is written back

unfoldable pub step_lent : List ℕ → List ℕ → List CoreRecord → Semaphore → List ℕ → List ℕ → ℕ → Lent
step_lent f t ys p d sh k = written_back ys (step_table f t (loaded ys) p d sh k)

unfoldable pub run_lent : List ℕ → List ℕ → List CoreRecord → Semaphore → List ℕ → List ℕ → List ℕ → List ℕ → Lent
run_lent f t ys p d sh order list = written_back ys (run_table f t (loaded ys) p d sh order list)

unfoldable pub taken_lent : List ℕ → List ℕ → List CoreRecord → Semaphore → List ℕ → List ℕ → List ℕ → List ℕ → ℕ → ℕ
taken_lent f t ys p d sh order list taken = taken_table f t (loaded ys) p d sh order list taken

unfoldable pub fresh_lent : List ℕ → List CoreRecord → Semaphore → List ℕ → List ℕ → Lent
fresh_lent f ys p d sh = written_back ys (fresh_table f (loaded ys) p d sh)

-- the same under the profile that the caller names
unfoldable pub fresh_lent_for : Profile → List ℕ → List CoreRecord → Semaphore → List ℕ → List ℕ → Lent
fresh_lent_for profile f ys p d sh = written_back ys (fresh_table_for profile f (loaded ys) p d sh)

-- an order list, rerun from the fresh state
unfoldable pub rerun_lent : List ℕ → List ℕ → List ℕ → List CoreRecord → Semaphore → List ℕ → List ℕ → Lent
rerun_lent f t list ys p d sh = written_back ys (rerun_table f t list (loaded ys) p d sh)

-- ---- the next core to move: the lent records are scanned round the ring

-- the number of the first core, of so many from number i + 1 after the given one on, whose record says that it can move; 255 for none
abbrev pub scan_from : List CoreRecord → Ring → ℕ → ℕ → ℕ
scan_from ys r zero i = 255
scan_from ys r (suc m) i = pick (record_moves r (place_after r i) (record_at ys (place_after r i))) (place_after r i) (scan_from ys r m (i + 1))

abbrev pub scanned : List CoreRecord → Ring → ℕ
scanned ys r = scan_from ys r r.cores 0

-- its number for C: 255 stands for none
abbrev pub core_number : Option ℕ → ℕ
core_number (Some k) = k
core_number None = 255

-- the call: what the one by value answers (crate machine, specs/Calls) of the state that the table holds
unfoldable pub next_lent : List ℕ → List ℕ → List CoreRecord → Semaphore → ℕ → ℕ → Answered
next_lent f t ys p given found =
    pick (eqb (next_refusal f t (held (loaded ys) p) given) 0)
    (answered 0 (core_number (next_moving f t (held (loaded ys) p) given)))
    (answered (next_refusal f t (held (loaded ys) p) given) found)
