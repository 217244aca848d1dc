-- Document 01's rules of a task set file and of a trace as rules, whatever order they are judged in. In order: the file; the trace.
-- Not here: the rules of a core's, a variable's record and of two variables (crate `records`), of a core's code (crate `code`); the numbers.
use Rattle.std.specs.Prelude.{ℕ, suc, ◌+◌, ◌*◌, ◌≤◌, ◌<◌, ◌≡◌, ◌⊎◌, List, [], ◌∷◌, ◌++◌, length, take}
use Rattle.memory.specs.Memory.{word}
use Rattle.code.specs.declared.Profile.{Profile}
use Rattle.code.specs.declared.Profile.TheVariants.{Full}
use Rattle.code.specs.Rules.{WellFormedCodeFor}
use Rattle.records.specs.File.{cores, data_size, input_size, variables, variable_at}
use Rattle.records.specs.Rules.{CoreRulesFor, VariableRules, Apart}
use Rattle.taskset.specs.Judge.{old_mark, new_mark, code_place, code_of, start_sections, start_place, start_in, file_end}

-- ---- the file. `ends` says that every section is there and that nothing follows: the places of the sections, by their counts, are those of `specs/Judge`.

-- 4D 43 53 31 hex, or in the new form (document 02, 2.12) 4D 43 53 32 hex
abbrev pub Mark : List ℕ → Type 0
Mark f = (take 4 f ≡ old_mark) ⊎ (take 4 f ≡ new_mark)

-- "Two variables share no byte": each against each after it
abbrev pub NoOverlap : List ℕ → Type 0
NoOverlap f = (i j : ℕ) → i < j → j < variables f → Apart (variable_at f i) (variable_at f j)

-- the start value number i after the count at p, in data of this size: "a start place beyond the data or not rising" breaks it
pub record PairRules (f : List ℕ) (size p i : ℕ) : Type 0 where
  pub in-data : start_in f p i < size
  pub rising : (j : ℕ) → i ≡ suc j → start_in f p j < start_in f p i

pub record WellFormedFor (profile : Profile) (f : List ℕ) : Type 0 where
  pub mark : Mark f
  pub some-core : 1 ≤ cores f
  pub most-cores : cores f ≤ 4
  pub core-rules : (k : ℕ) → k < cores f → CoreRulesFor profile f k
  pub most-variables : variables f ≤ 64
  pub variable-rules : (i : ℕ) → i < variables f → VariableRules f (variable_at f i)
  pub no-overlap : NoOverlap f
  pub some-code : (k : ℕ) → k < cores f → 1 ≤ word f (code_place f k)
  pub most-code : (k : ℕ) → k < cores f → word f (code_place f k) ≤ 8192
  pub code-rules : (k : ℕ) → k < cores f → WellFormedCodeFor profile (code_of f k)
  pub start-rules : (k : ℕ) → k < start_sections f → (i : ℕ) → i < word f (start_place f k) → PairRules f (data_size f k) (start_place f k) i
  pub ends : file_end f ≡ length f

abbrev pub WellFormed : List ℕ → Type 0
WellFormed f = WellFormedFor Full f

-- ---- the trace of a file

-- so many "records of 4 time bytes and the input bytes", end to end
pub data Records (inputs : ℕ) : ℕ → List ℕ → Type 0 where
  none : Records inputs 0 []
  one : {n : ℕ} (time input : List ℕ) {rest : List ℕ} → length time ≡ 4 → length input ≡ inputs → Records inputs n rest
      → Records inputs (suc n) (time ++ (input ++ rest))

-- "for each core a 16-bit count, then records": of n cores, the first of them core k, and nothing after the last
pub data Parts (f : List ℕ) : ℕ → ℕ → List ℕ → Type 0 where
  end : {k : ℕ} → Parts f k 0 []
  core : {k n : ℕ} (low high : ℕ) (records : List ℕ) {rest : List ℕ} → Records (input_size f k) (low + 256 * high) records → Parts f (suc k) n rest
      → Parts f k (suc n) (low ∷ high ∷ (records ++ rest))

-- no bytes at all, or the parts of all cores
abbrev pub Traced : List ℕ → List ℕ → Type 0
Traced f t = (length t ≡ 0) ⊎ Parts f 0 (cores f) t
