-- What loading a file answers: the refusal number with an empty layout, or 0 with the layout.
use Rattle.std.specs.Prelude.{ℕ, zero, suc, ◌+◌, List, [], ◌∷◌, Result, Ok, Err, ltb, eqb}
use Rattle.verdict.specs.Verdict.{pick}
use Rattle.verdict.specs.Refusals.{number_of}
use Rattle.verdict.specs.declared.Refusal.{Refusal}
use Rattle.memory.specs.Memory.{word}
use Rattle.records.specs.File.{cores, data_size, input_size, limit, variables, record_place}
use Rattle.code.specs.declared.Profile.{Profile}
use Rattle.code.specs.declared.Profile.TheVariants.{Full}
use Rattle.taskset.specs.Judge.{code_place, judge_for}
use Rattle.taskset.specs.declared.CoreLayout.{CoreLayout}
use Rattle.taskset.specs.declared.Layout.{Layout}

-- the data of core k stand after those of the cores before it
unfoldable pub base_place : List ℕ → ℕ → ℕ
base_place f zero = 0
base_place f (suc k) = base_place f k + data_size f k

abbrev pub no_core : CoreLayout
no_core = record { size = 0; inputs = 0; limit = 0; base = 0; code = 0; length = 0 }

abbrev pub core_at : List ℕ → ℕ → CoreLayout
core_at f k = record {
  size = data_size f k;
  inputs = input_size f k;
  limit = limit f k;
  base = base_place f k;
  code = code_place f k + 2;
  length = word f (code_place f k);
}

-- zeros for a core number from n on
unfoldable pub core_layout : List ℕ → ℕ → CoreLayout
core_layout f k = pick (ltb k (cores f)) (core_at f k) no_core

abbrev pub layout_of : List ℕ → Layout
layout_of f = record {
  cores = cores f;
  variables = variables f;
  first = record_place f 0;
  core = core_layout f 0 ∷ core_layout f 1 ∷ core_layout f 2 ∷ core_layout f 3 ∷ [];
}

abbrev pub no_layout : Layout
no_layout = record { cores = 0; variables = 0; first = 0; core = no_core ∷ no_core ∷ no_core ∷ no_core ∷ [] }

pub record Loaded : Type 0 where
  pub refusal : ℕ
  pub layout : Layout

unfoldable pub load_for : Profile → List ℕ → Loaded
load_for profile f = record { refusal = judge_for profile f; layout = pick (eqb (judge_for profile f) 0) (layout_of f) no_layout }

abbrev pub load_of : List ℕ → Loaded
load_of f = load_for Full f

-- an answer of the code: a refusal with an empty layout, or the layout
abbrev pub loaded_as : Result Layout Refusal → Loaded
loaded_as (Ok layout) = record { refusal = 0; layout = layout }
loaded_as (Err r) = record { refusal = number_of r; layout = no_layout }
