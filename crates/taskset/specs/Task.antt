-- The decoded task set and trace in the terms of crate `protocol`: variables in file order, input records, and the task of a machine.
use Rattle.std.specs.Prelude.{ℕ, zero, suc, ◌+◌, List, [], ◌∷◌, replicate}
use Rattle.verdict.specs.Verdict.{pick}
use Rattle.memory.specs.Memory.{read_le, part}
use Rattle.protocol.specs.State.{Core, Sample, Task}
use Rattle.protocol.specs.Variables.{Variable, reads_of, writes_of}
use Rattle.records.specs.File.{cores, data_size, input_size, limit, variables, variable_at}
use Rattle.taskset.specs.Trace.{blank, record_count, sample_place}

-- n items of g, from number i on
unfoldable pub listed : {A : Type 0} → (ℕ → A) → ℕ → ℕ → List A
listed g zero i = []
listed g (suc n) i = g i ∷ listed g n (suc i)

-- the data sizes, core 0 first
unfoldable pub sizes_of : List ℕ → List ℕ
sizes_of f = listed (data_size f) (cores f) 0

unfoldable pub variables_of : List ℕ → List Variable
variables_of f = listed (variable_at f) (variables f) 0

-- record i of core k as it stands in the trace, and the one that a trace of no bytes means
abbrev pub stored_sample : List ℕ → List ℕ → ℕ → ℕ → Sample
stored_sample f t k i = record { time = read_le t (sample_place f t k i) 4; input = part t (sample_place f t k i + 4) (input_size f k) }

abbrev pub blank_sample : List ℕ → ℕ → Sample
blank_sample f k = record { time = 0; input = replicate (input_size f k) 0 }

unfoldable pub sample_at : List ℕ → List ℕ → ℕ → ℕ → Sample
sample_at f t k i = pick (blank t) (blank_sample f k) (stored_sample f t k i)

unfoldable pub samples_of : List ℕ → List ℕ → ℕ → List Sample
samples_of f t k = listed (sample_at f t k) (record_count f t k) 0

-- the task, with what one instruction does to a core
abbrev pub task_with : List ℕ → List ℕ → (ℕ → Core → Core) → Task
task_with f t instruction = record {
  samples = samples_of f t;
  reads = reads_of (variables_of f);
  writes = writes_of (variables_of f);
  limit = limit f;
  instruction = instruction;
}
