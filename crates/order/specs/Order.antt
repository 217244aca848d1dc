-- The order of a run: which core a step is of, and steps that follow one another.
use Rattle.std.specs.Prelude.{◌≡◌, Bool, true, List, ℕ, ◌+◌, ◌≤◌, ◌<◌, ltb, eqb, length, get_or}
use Rattle.verdict.specs.Verdict.{both}
use Rattle.protocol.specs.State.{Semaphore}
use Rattle.semaphore.specs.Line.{waits_at}

-- step i is one of core k
abbrev pub steps_on : List ℕ → ℕ → ℕ → Bool
steps_on order i k = both (ltb i (length order)) (eqb (get_or order i 0) k)

-- the m steps from i on are of core k
abbrev pub AllOn : List ℕ → ℕ → ℕ → ℕ → Type 0
AllOn order k i m = (j : ℕ) → i ≤ j → j < i + m → get_or order j 0 ≡ k

-- the m steps from i on are of core k, m being at most this many; where the first is, and one is allowed, there is one
pub record Stretches (order : List ℕ) (i most k m : ℕ) : Type 0 where
  pub few : m ≤ most
  pub within : i + m ≤ length order
  pub all : AllOn order k i m
  pub some : steps_on order i k ≡ true → 0 < most → 0 < m

-- the steps from i up to j are of cores that wait in line
abbrev pub Waits : List ℕ → Semaphore → ℕ → ℕ → Type 0
Waits order h i j = (m : ℕ) → i ≤ m → m < j → waits_at h (get_or order m 0) ≡ true
