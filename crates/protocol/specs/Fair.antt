-- Document 02, 2.4, a fair line at the semaphore: "Over any list of steps as in demand 3, a core that has joined sees at most n - 1 exchanges of
-- others end before it is first and the semaphore is free." In order: which lines are fit; what a core sees; the claim, and that its bound is attained.
--
-- `fair-holds` of proofs/Fair proves `Fair` of every list of steps from a fresh state; `attained` of proofs/Attained has cases of n - 1.
-- The bound is in exchanges, not in steps: a core that is first and is never stepped holds up all others.
use Rattle.std.specs.Prelude.{◌≡◌, ◌≢◌, ◌⊎◌, Bool, true, false, not, List, [], ◌∷◌, ◌++◌, ℕ, zero, suc, ◌+◌, ◌-◌, ◌<◌, ◌≤◌, T, eqb, length, drop}
use Rattle.protocol.specs.Modes.{between_cycles, waiting_to_write, reading_exchange, executing, writing_exchange}
use Rattle.protocol.specs.State.{State, Task, core}
use Rattle.protocol.specs.Step.{in_line, run, step}
use Rattle.protocol.specs.Laws.{Laws, FreshStart}
use Rattle.verdict.specs.Verdict.{pick, both}

-- ---- fit

-- no number stands twice
abbrev pub Once : List ℕ → Type 0
Once [] = Unit {0}
Once (x ∷ xs) = (in_line x xs ≡ false) × Once xs

-- the line names no core twice, none from n on, none that is not in mode 0 or 3, and none that is out of records
pub record FitLine (t : Task) (s : State) : Type 0 where
  pub once : Once s.semaphore.line
  pub below : (j : ℕ) → T (in_line j s.semaphore.line) → j < length s.plant.cores
  pub modes : (j : ℕ) → T (in_line j s.semaphore.line) → ((core s.plant j).registers.mode ≡ between_cycles) ⊎ ((core s.plant j).registers.mode ≡ waiting_to_write)
  pub records : (j : ℕ) → T (in_line j s.semaphore.line) → drop (core s.plant j).registers.cycles (t.samples j) ≢ []

-- ---- fair

-- core k is first in line and the semaphore is free
abbrev pub first_in : ℕ → ℕ → List ℕ → Bool
first_in k zero [] = false
first_in k zero (x ∷ xs) = eqb x k
first_in k (suc h) xs = false

abbrev pub first_in_line : ℕ → State → Bool
first_in_line k s = first_in k s.semaphore.holder s.semaphore.line

-- a step from mode m to m' that ends an exchange: its release, 1 to 2 or 4 to 0
abbrev pub releases : ℕ → ℕ → Bool
releases m m' = pick (both (eqb m reading_exchange) (eqb m' executing)) true (both (eqb m writing_exchange) (eqb m' between_cycles))

-- 1 where the step of core j from s to s' ends an exchange, and j is not k
abbrev pub end_of : ℕ → ℕ → State → State → ℕ
end_of k j s s' = pick (both (releases (core s.plant j).registers.mode (core s'.plant j).registers.mode) (not (eqb j k))) 1 0

-- how many exchanges of others than core k end within the steps js from s, before k is first and the semaphore is free
abbrev pub ends_seen : Task → ℕ → List ℕ → State → ℕ
ends_seen t k [] s = 0
ends_seen t k (j ∷ js) s = pick (first_in_line k s) 0 (end_of k j s (step t j s) + ends_seen t k js (step t j s))

-- Of the steps ks from s, a step of core k after `before` by which it joins the line, and the steps after it
pub record Joins (t : Task) (s : State) (ks : List ℕ) (k : ℕ) : Type 0 where
  pub before : List ℕ
  pub after : List ℕ
  pub split : ks ≡ before ++ (k ∷ after)
  pub was-out : in_line k (run t before s).semaphore.line ≡ false
  pub is-in : in_line k (step t k (run t before s)).semaphore.line ≡ true

-- The steps ks from the fresh state s
pub record Fair (t : Task) (s : State) (ks : List ℕ) : Type 0 where
  pub fit : FitLine t (run t ks s)
  pub few : (k : ℕ) (x : Joins t s ks k) → ends_seen t k x.after (step t k (run t x.before s)) ≤ length s.plant.cores - 1

-- Of n cores, a core that has joined sees n - 1 exchanges of others end: the bound can't be lower
pub record Attained (n : ℕ) : Type 0 where
  pub task : Task
  pub start : State
  pub lawful : Laws task
  pub fresh : FreshStart start
  pub table : length start.plant.cores ≡ n
  pub order : List ℕ
  pub core-in-line : ℕ
  pub joins : Joins task start order core-in-line
  pub ends : ends_seen task core-in-line joins.after (step task core-in-line (run task joins.before start)) ≡ n - 1
