-- Document 02, 2.12: "A fresh state holds these in the core's data, and shared memory holds for each variable the writer's start bytes, which is what
-- a reader sees before the first writing." In order: a core's start values; its data; shared memory; the data buffer.
-- Not here: where they stand in the file, and their refusals (`Judge`); the fresh state itself (`Fresh`); what it says of reading (crate calls).
use Rattle.std.specs.Prelude.{ℕ, zero, suc, ◌+◌, List, [], ◌∷◌, set}
use Rattle.verdict.specs.Verdict.{pick}
use Rattle.memory.specs.Memory.{splice, part, byte, word, flat}
use Rattle.protocol.specs.Variables.{Variable, local, writes_it}
use Rattle.protocol.specs.Fresh.{zeros}
use Rattle.records.specs.File.{cores, data_size}
use Rattle.taskset.specs.Judge.{is_new, start_place, start_in, start_byte_in}
use Rattle.taskset.specs.Task.{listed, variables_of}

-- ---- the start values of core k: how many there are, none in a file of the old form; the data place and the byte of number i

abbrev pub start_count : List ℕ → ℕ → ℕ
start_count f k = pick (is_new f) (word f (start_place f k)) 0

abbrev pub start_at : List ℕ → ℕ → ℕ → ℕ
start_at f k i = start_in f (start_place f k) i

abbrev pub start_byte : List ℕ → ℕ → ℕ → ℕ
start_byte f k i = start_byte_in f (start_place f k) i

-- ---- its data

-- d with the n pairs written into it that stand from place q of the file on
unfoldable pub with_pairs : List ℕ → ℕ → ℕ → List ℕ → List ℕ
with_pairs f q zero d = d
with_pairs f q (suc n) d = with_pairs f (q + 3) n (set d (word f q) (byte f (q + 2)))

unfoldable pub start_data : List ℕ → ℕ → List ℕ
start_data f k = with_pairs f (start_place f k + 2) (start_count f k) (zeros (data_size f k))

-- ---- shared memory

-- the core that writes v
unfoldable pub writer_of : Variable → ℕ
writer_of v = pick (writes_it 0 v) 0 (pick (writes_it 1 v) 1 (pick (writes_it 2 v) 2 3))

-- s with the bytes of each variable that stand in its writer's data
unfoldable pub with_written : (ℕ → List ℕ) → List Variable → List ℕ → List ℕ
with_written data_of [] s = s
with_written data_of (v ∷ vs) s = with_written data_of vs (splice s v.place (part (data_of (writer_of v)) (local (writer_of v) v) v.width))

unfoldable pub start_shared : List ℕ → List ℕ
start_shared f = with_written (start_data f) (variables_of f) (zeros 1024)

-- ---- the data buffer: the cores' data end to end

abbrev pub starts_of : List ℕ → List (List ℕ)
starts_of f = listed (start_data f) (cores f) 0

unfoldable pub start_buffer : List ℕ → List ℕ
start_buffer f = flat (starts_of f)
