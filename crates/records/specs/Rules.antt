-- Document 01's rules of the records of a task set file as rules, whatever order they are judged in.
use Rattle.std.specs.Prelude.{ℕ, ◌+◌, ◌≤◌, ◌<◌, ◌≡◌, List, [], ◌∷◌, T}
use Rattle.verdict.specs.Items.{OneOf}
use Rattle.protocol.specs.Variables.{Variable, local, reads_it, writes_it, Clear}
use Rattle.code.specs.declared.Profile.{Profile}
use Rattle.code.specs.declared.Profile.TheVariants.{Full}
use Rattle.code.specs.Profiles.{most_data}
use Rattle.records.specs.File.{cores, data_size, input_size, limit}
use Rattle.records.specs.Records.{used_by}

-- "data size 1..4,096; input size, at most the data size; instruction limit of a cycle, at least 1"; of the small profile "a data size of at most 1,024"
pub record CoreRulesFor (profile : Profile) (f : List ℕ) (k : ℕ) : Type 0 where
  pub some-data : 1 ≤ data_size f k
  pub most-data : data_size f k ≤ most_data profile
  pub inputs : input_size f k ≤ data_size f k
  pub some-limit : 1 ≤ limit f k

abbrev pub CoreRules : List ℕ → ℕ → Type 0
CoreRules f k = CoreRulesFor Full f k

-- "the write half of its attribute byte has exactly one bit set"
pub record Writer (v : Variable) : Type 0 where
  pub core : ℕ
  pub writes : T (writes_it core v)
  pub only : (k : ℕ) → T (writes_it k v) → k ≡ core

pub record VariableRules (f : List ℕ) (v : Variable) : Type 0 where
  -- "width byte 1, 2, 4 or 8"
  pub width : OneOf (1 ∷ 2 ∷ 4 ∷ 8 ∷ []) v.width
  pub writer : Writer v
  -- "No core both reads and writes a variable."
  pub one_way : (k : ℕ) → T (reads_it k v) → T (writes_it k v) → ⊥
  -- "No bit names a core from n on."
  pub known : (k : ℕ) → T (used_by k v) → k < cores f
  -- "Place plus width stays within shared memory and within the data of each named core."
  pub in-shared : v.place + v.width ≤ 1024
  pub in-data : (k : ℕ) → T (used_by k v) → local k v + v.width ≤ data_size f k
  -- "No local place of a named core touches that core's input bytes, its first ones."
  pub past-inputs : (k : ℕ) → T (used_by k v) → input_size f k ≤ local k v
  -- "An unnamed core's local place is 0."
  pub unnamed : (k : ℕ) → k < 4 → (T (used_by k v) → ⊥) → local k v ≡ 0

-- "Two variables share no byte in shared memory, nor in the data of one core that both name."
pub record Apart (v u : Variable) : Type 0 where
  pub in-shared : Clear v.place v.width u.place u.width
  pub in-data : (k : ℕ) → T (used_by k v) → T (used_by k u) → Clear (local k v) v.width (local k u) u.width
