-- What the acceptance of a file and of a trace says of them, as far as states and steps need it.
use Rattle.std.specs.Prelude.{◌≡◌, true, false, List, ℕ, ◌+◌, ◌≤◌, ◌<◌, length}
use Rattle.memory.specs.Memory.{word}
use Rattle.code.specs.Code.{judge_code, is_start}
use Rattle.records.specs.File.{cores, data_size, input_size, limit}
use Rattle.taskset.specs.Judge.{code_place, code_of, judge}
use Rattle.taskset.specs.Trace.{blank, record_size, record_count, sample_place, trace_refusal}
use Rattle.exchange.specs.Laid.{Laid}

pub record AcceptedSet (f t : List ℕ) : Type 0 where
  pub file : judge f ≡ 0
  pub trace : trace_refusal f t ≡ 0
  pub few : cores f ≤ 4
  -- the cores' records
  pub data-size : (k : ℕ) → k < cores f → (1 ≤ data_size f k) × (data_size f k ≤ 4096)
  pub inputs : (k : ℕ) → k < cores f → input_size f k ≤ data_size f k
  pub limits : (k : ℕ) → k < cores f → (1 ≤ limit f k) × (limit f k ≤ 65535)
  -- the variables' records
  pub laid : Laid f
  -- the code
  pub code-length : (k : ℕ) → k < cores f → word f (code_place f k) ≤ 8192
  pub code_inside : (k : ℕ) → k < cores f → code_place f k + 2 + word f (code_place f k) ≤ length f
  pub code : (k : ℕ) → k < cores f → judge_code (code_of f k) ≡ 0
  pub start : (k : ℕ) → k < cores f → is_start (code_of f k) 0 ≡ true
  -- the trace
  pub counts : (k : ℕ) → record_count f t k ≤ 65535
  pub records : blank t ≡ false → (k : ℕ) → k < cores f → (i : ℕ) → i < record_count f t k → sample_place f t k i + record_size f k ≤ length t
