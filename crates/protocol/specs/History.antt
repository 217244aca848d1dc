-- What a list of steps says of exchanges: the finished readings, and what each core published last.
use Rattle.std.specs.Prelude.{◌≡◌, List, [], ◌∷◌, ◌++◌, ℕ, eqb}
use Rattle.std.proofs.Math.Option.{Option, some}
use Rattle.verdict.specs.Verdict.{pick, both}
use Rattle.protocol.specs.Modes.{between_cycles, reading_exchange, executing, writing_exchange}
use Rattle.protocol.specs.State.{Core, State, Task, core, mode}
use Rattle.protocol.specs.Step.{step, run}

-- A core was c and is c' after a step: where that step finished a writing exchange (mode 4 to 0), the data in c', else old
abbrev pub published : Core → Core → Option (List ℕ) → Option (List ℕ)
published c c' old = pick (both (eqb (mode c) writing_exchange) (eqb (mode c') between_cycles)) (some c'.memory) old

-- The data of core w at its latest writing exchange that was finished within the steps ks from s; old if none was
abbrev pub latest : Task → ℕ → Option (List ℕ) → List ℕ → State → Option (List ℕ)
latest t w old [] s = old
latest t w old (k ∷ ks) s = latest t w (published (core s.plant w) (core (step t k s).plant w) old) ks (step t k s)

-- Core r is in mode 1 at s and after each of the steps ks
abbrev pub Stays : Task → ℕ → List ℕ → State → Type 0
Stays t r [] s = mode (core s.plant r) ≡ reading_exchange
Stays t r (k ∷ ks) s = (mode (core s.plant r) ≡ reading_exchange) × Stays t r ks (step t k s)

-- A reading exchange of core r that the steps ks from s finished: the step after `before` takes the semaphore (mode 0 to 1),
-- core r is in mode 1 throughout `during`, and the step after that releases it (mode 1 to 2); any steps may follow
pub record Finished (t : Task) (s : State) (ks : List ℕ) (r : ℕ) : Type 0 where
  pub before : List ℕ
  pub during : List ℕ
  pub rest : List ℕ
  pub split : ks ≡ before ++ (r ∷ (during ++ (r ∷ rest)))
  pub was-idle : mode (core (run t before s).plant r) ≡ between_cycles
  pub stays : Stays t r during (step t r (run t before s))
  pub done : mode (core (step t r (run t during (step t r (run t before s)))).plant r) ≡ executing

-- core r's data when that exchange released the semaphore: what the reading brought stands in its local places
abbrev pub brought : {t : Task} {s : State} {ks : List ℕ} {r : ℕ} → Finished t s ks r → List ℕ
brought {t} {s} {ks} {r} x = (core (step t r (run t x.during (step t r (run t x.before s)))).plant r).memory
