-- Document 01, "The task set file": what stands where. Every reader is total, so what a cut file lacks reads as 0.
-- In order: the cores; the variables.
use Rattle.std.specs.Prelude.{ℕ, ◌+◌, ◌*◌, List, [], ◌∷◌}
use Rattle.memory.specs.Memory.{byte, word}
use Rattle.protocol.specs.Variables.{Variable}

-- ---- cores: one byte n after the four of the mark; then for each core its data size, input size and instruction limit

abbrev pub cores : List ℕ → ℕ
cores f = byte f 4

-- where the record of core k stands
abbrev pub core_place : ℕ → ℕ
core_place k = 5 + 6 * k

abbrev pub data_size : List ℕ → ℕ → ℕ
data_size f k = word f (core_place k)

abbrev pub input_size : List ℕ → ℕ → ℕ
input_size f k = word f (core_place k + 2)

abbrev pub limit : List ℕ → ℕ → ℕ
limit f k = word f (core_place k + 4)

-- ---- variables: one byte, then for each variable its shared place, width byte, attribute byte and four local places

-- where their number stands
abbrev pub count_place : List ℕ → ℕ
count_place f = core_place (cores f)

abbrev pub variables : List ℕ → ℕ
variables f = byte f (count_place f)

-- where the record of variable i stands
abbrev pub record_place : List ℕ → ℕ → ℕ
record_place f i = count_place f + 1 + 12 * i

-- the record at place p
abbrev pub variable_in : List ℕ → ℕ → Variable
variable_in f p = record {
  place = word f p;
  width = byte f (p + 2);
  attribute = byte f (p + 3);
  locals = word f (p + 4) ∷ word f (p + 6) ∷ word f (p + 8) ∷ word f (p + 10) ∷ [];
}

abbrev pub variable_at : List ℕ → ℕ → Variable
variable_at f i = variable_in f (record_place f i)
