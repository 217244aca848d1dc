-- Document 02, 2.12: "An old file becomes new with counts of 0. A new file goes back exactly if all its counts are 0, and both ways together return the first
-- file." As claims of every accepted file, proved in proofs/BothWays (`becomes-new`, `goes_Back`). In order: what two files share; an old file; a new file.
-- Not here: what the calls do for every input (`Forms`); that both files run alike (`Alike`).
use Rattle.std.specs.Prelude.{ℕ, ◌<◌, ◌≡◌, true, List}
use Rattle.records.specs.File.{cores, data_size, input_size, limit}
use Rattle.taskset.specs.Judge.{is_old, is_new, code_of, judge}
use Rattle.taskset.specs.Task.{variables_of}
use Rattle.taskset.specs.Starts.{start_count}
use Rattle.forms.specs.Forms.{to_new, to_old, to_old_refusal}

-- the same cores, variables and code
pub record SameTask (f g : List ℕ) : Type 0 where
  pub number : cores f ≡ cores g
  pub data-size : (k : ℕ) → data_size f k ≡ data_size g k
  pub input-size : (k : ℕ) → input_size f k ≡ input_size g k
  pub limits : (k : ℕ) → limit f k ≡ limit g k
  pub all-variables : variables_of f ≡ variables_of g
  pub code : (k : ℕ) → code_of f k ≡ code_of g k

-- every count is 0
abbrev pub NoStarts : List ℕ → Type 0
NoStarts f = (k : ℕ) → k < cores f → start_count f k ≡ 0

-- an accepted file of the old form
pub record BecomesNew (f : List ℕ) : Type 0 where
  pub accepted : judge (to_new f) ≡ 0
  pub new : is_new (to_new f) ≡ true
  pub counts : NoStarts (to_new f)
  pub same : SameTask f (to_new f)
  pub back : to_old (to_new f) ≡ f

-- an accepted file of the new form, with an output that is long enough
pub record GoesBack (f : List ℕ) (room : ℕ) : Type 0 where
  pub exactly : to_old_refusal f room ≡ 0 → NoStarts f
  pub if_none : NoStarts f → to_old_refusal f room ≡ 0

-- and what it goes back to, where all its counts are 0
pub record BecomesOld (f : List ℕ) : Type 0 where
  pub accepted : judge (to_old f) ≡ 0
  pub old : is_old (to_old f) ≡ true
  pub same : SameTask f (to_old f)
  pub back : to_new (to_old f) ≡ f
