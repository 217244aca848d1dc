-- Document 02, 2.6, as a claim: "A trace of zero length shall mean one record for every core, with time 0 and all input bytes 0." It is accepted, it
-- has these records, and they are those of the trace that writes them out. `blank-trace` of proofs/Blank proves `BlankTrace` of every file.
use Rattle.std.specs.Prelude.{ℕ, zero, suc, ◌<◌, ◌≡◌, List, [], ◌∷◌, ◌++◌, replicate}
use Rattle.records.specs.File.{cores}
use Rattle.taskset.specs.Trace.{record_size, trace_refusal}
use Rattle.taskset.specs.Task.{blank_sample, samples_of}

-- the parts of n cores, core k first: a count of one, and a record of zeros
unfoldable pub written_from : List ℕ → ℕ → ℕ → List ℕ
written_from f zero k = []
written_from f (suc n) k = 1 ∷ 0 ∷ (replicate (record_size f k) 0 ++ written_from f n (suc k))

-- the trace that writes them out
abbrev pub written_trace : List ℕ → List ℕ
written_trace f = written_from f (cores f) 0

pub record BlankTrace (f : List ℕ) : Type 0 where
  -- no longer met with 22
  pub sound : trace_refusal f [] ≡ 0
  -- one record for every core, with time 0 and all input bytes 0
  pub means : (k : ℕ) → samples_of f [] k ≡ blank_sample f k ∷ []
  -- the trace that writes them out is accepted too, and has the same records
  pub written-sound : trace_refusal f (written_trace f) ≡ 0
  pub alike : (k : ℕ) → k < cores f → samples_of f (written_trace f) k ≡ samples_of f [] k
