-- Document 01: "The trace holds for each core a 16-bit count, then records of 4 time bytes and the input bytes." Core 0 comes first.
-- Document 02, 2.6: "A trace of zero length shall mean one record for every core, with time 0 and all input bytes 0."
-- In order: places; records; the refusal; what loading a trace answers. Not here: what a record holds (specs/Task).
use Rattle.std.specs.Prelude.{ℕ, zero, suc, ◌+◌, ◌*◌, Bool, List, [], ◌∷◌, Result, Ok, Err, ltb, eqb, length}
use Rattle.verdict.specs.Numbers.{bad_trace}
use Rattle.verdict.specs.Verdict.{pick, either, unless}
use Rattle.verdict.specs.Refusals.{number_of}
use Rattle.verdict.specs.declared.Refusal.{Refusal}
use Rattle.memory.specs.Memory.{word}
use Rattle.records.specs.File.{cores, input_size}
use Rattle.taskset.specs.declared.TraceLayout.{TraceLayout}

-- ---- places, of the trace t of the task set file f

-- the bytes of a record of core k
abbrev pub record_size : List ℕ → ℕ → ℕ
record_size f k = 4 + input_size f k

-- where core k's count stands; at the number of cores, where the trace has to end
unfoldable pub trace_place : List ℕ → List ℕ → ℕ → ℕ
trace_place f t zero = 0
trace_place f t (suc k) = trace_place f t k + 2 + word t (trace_place f t k) * record_size f k

-- ---- records

-- the trace has no bytes
abbrev pub blank : List ℕ → Bool
blank t = eqb (length t) 0

-- how many core k has: one, where the trace has no bytes
abbrev pub record_count : List ℕ → List ℕ → ℕ → ℕ
record_count f t k = pick (blank t) 1 (word t (trace_place f t k))

-- where record i of core k stands
abbrev pub sample_place : List ℕ → List ℕ → ℕ → ℕ → ℕ
sample_place f t k i = trace_place f t k + 2 + i * record_size f k

-- ---- cut or too long, unless it has no bytes: what a cut trace lacks reads as 0, so its parts end past its own end

unfoldable pub trace_refusal : List ℕ → List ℕ → ℕ
trace_refusal f t = unless (either (blank t) (eqb (trace_place f t (cores f)) (length t))) bad_trace

-- ---- what loading answers: the refusal with zeros, or 0 with each core's count and the place of its first record

-- zeros for a core number from n on
unfoldable pub count_of : List ℕ → List ℕ → ℕ → ℕ
count_of f t k = pick (ltb k (cores f)) (record_count f t k) 0

unfoldable pub first_of : List ℕ → List ℕ → ℕ → ℕ
first_of f t k = pick (ltb k (cores f)) (sample_place f t k 0) 0

abbrev pub no_trace : TraceLayout
no_trace = record { count = 0 ∷ 0 ∷ 0 ∷ 0 ∷ []; first = 0 ∷ 0 ∷ 0 ∷ 0 ∷ [] }

abbrev pub trace_layout : List ℕ → List ℕ → TraceLayout
trace_layout f t = record {
  count = count_of f t 0 ∷ count_of f t 1 ∷ count_of f t 2 ∷ count_of f t 3 ∷ [];
  first = first_of f t 0 ∷ first_of f t 1 ∷ first_of f t 2 ∷ first_of f t 3 ∷ [];
}

pub record LoadedTrace : Type 0 where
  pub refusal : ℕ
  pub layout : TraceLayout

unfoldable pub load_trace_of : List ℕ → List ℕ → LoadedTrace
load_trace_of f t = record { refusal = trace_refusal f t; layout = pick (eqb (trace_refusal f t) 0) (trace_layout f t) no_trace }

-- an answer of the code: a refusal with zeros, or the layout
abbrev pub loaded_trace : Result TraceLayout Refusal → LoadedTrace
loaded_trace (Ok layout) = record { refusal = 0; layout = layout }
loaded_trace (Err r) = record { refusal = number_of r; layout = no_trace }
