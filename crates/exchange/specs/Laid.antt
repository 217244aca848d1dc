-- The variables of a file as a walk over their records sees them. In order: what the loader has accepted of them; the bytes of an
-- exchange; the place of a record, and the records that a search has passed.
use Rattle.std.specs.Prelude.{◌≡◌, ◌⊎◌, Bool, true, false, List, [], ◌∷◌, ℕ, ◌+◌, ◌≤◌, ◌<◌, length}
use Rattle.verdict.specs.Verdict.{pick}
use Rattle.protocol.specs.Variables.{Variable, local}
use Rattle.records.specs.File.{cores, data_size, variables, record_place, variable_in, variable_at}
use Rattle.taskset.specs.Task.{variables_of}
use Rattle.exchange.specs.Exchange.{has_bit}

-- ---- what the loader has accepted

-- the bit of the record at place p
abbrev pub takes_part : List ℕ → ℕ → ℕ → Bool
takes_part f bit p = has_bit bit (variable_in f p)

-- every record is there; a variable has 1 to 8 bytes, which lie within shared memory and within the data of each core that it names
pub record Laid (f : List ℕ) : Type 0 where
  pub few-cores : cores f ≤ 4
  pub few : variables f ≤ 64
  pub there : record_place f (variables f) ≤ length f
  pub width : (i : ℕ) → i < variables f → (1 ≤ (variable_at f i).width) × ((variable_at f i).width ≤ 8)
  pub in-shared : (i : ℕ) → i < variables f → (variable_at f i).place + (variable_at f i).width ≤ 1024
  pub in-data : (i k : ℕ) → i < variables f → k < cores f → (has_bit k (variable_at f i) ≡ true) ⊎ (has_bit (4 + k) (variable_at f i) ≡ true)
      → local k (variable_at f i) + (variable_at f i).width ≤ data_size f k

-- ---- the bytes of an exchange

-- the widths of the named variables, added up
unfoldable pub widths : (Variable → Bool) → List Variable → ℕ
widths takes_part [] = 0
widths takes_part (v ∷ vs) = pick (takes_part v) v.width 0 + widths takes_part vs

-- how many bytes the exchange of this bit has
unfoldable pub exchange_bytes : List ℕ → ℕ → ℕ
exchange_bytes f bit = widths (has_bit bit) (variables_of f)

-- ---- places

-- p is the place of record `index`, or the end of the records
pub record RecordAt (f : List ℕ) (p : ℕ) : Type 0 where
  pub index : ℕ
  pub is : p ≡ record_place f index
  pub inside : index ≤ variables f

-- from place p up to place q no record has the bit
pub record Passed (f : List ℕ) (bit p q : ℕ) : Type 0 where
  pub place : RecordAt f q
  pub from : p ≤ q
  pub unnamed : (i : ℕ) → p ≤ record_place f i → record_place f i < q → takes_part f bit (record_place f i) ≡ false
