-- Document 02, 2.10: "The caller names the full or the small profile when loading." A file's number under the small profile beside that under the full one.
-- `small-profile` of proofs/Narrowed proves `SmallProfile` of every file. Not here: the numbers themselves (`Judge`, `Items`); what a file accepted as small
-- does when it runs (crate `machine`).
use Rattle.std.specs.Prelude.{ℕ, ◌≤◌, ◌<◌, ◌≡◌, List}
use Rattle.verdict.specs.Numbers.{wide_type_code}
use Rattle.code.specs.declared.Profile.TheVariants.{Small}
use Rattle.code.specs.Rules.{Start, NoWide}
use Rattle.records.specs.File.{cores, data_size}
use Rattle.taskset.specs.Judge.{code_of, judge_for, judge}

-- "Small means a data size of at most 1,024 and no instruction naming types 7 to 10."
pub record SmallRules (f : List ℕ) : Type 0 where
  pub most-data : (k : ℕ) → k < cores f → data_size f k ≤ 1024
  pub types : (k : ℕ) → k < cores f → (p : ℕ) → Start (code_of f k) p → NoWide (code_of f k) p

-- the small profile's number: the full one's, or one of the two that it adds
pub data Narrowed (small full : ℕ) : Type 0 where
  alike : small ≡ full → Narrowed small full
  much-data : small ≡ 3 → Narrowed small full
  wide_type : small ≡ wide_type_code → Narrowed small full

pub record SmallProfile (f : List ℕ) : Type 0 where
  pub full : judge_for Small f ≡ 0 → judge f ≡ 0
  pub rules : judge_for Small f ≡ 0 → SmallRules f
  pub accepted : judge f ≡ 0 → SmallRules f → judge_for Small f ≡ 0
  pub number : Narrowed (judge_for Small f) (judge f)
