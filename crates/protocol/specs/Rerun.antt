-- Document 02, 2.13, rerun from the order of takings: "Rerun them from the fresh state, where every run and order of steps meant here starts, with every
-- exchange whole and each execution straight after its reading. The rerun shall end as every run with those takings ends once each core is between cycles,
-- stopped, or waiting to write." In order: which lists of takings the whole-exchange machine has to do; the rerun; the bytes of an order list; the claim.
--
-- `rerun-holds` of proofs/Rerun proves `Rerun` of every list of bytes, from every fresh state of at most 16 cores.
-- Not here: what the rerun of a file and a trace answers and leaves in lent memory (crate rerun).
use Rattle.std.specs.Prelude.{◌≡◌, ◌≢◌, ◌⊎◌, Bool, true, false, List, [], ◌∷◌, map, ℕ, ◌-◌, ◌<◌, eqb, ltb, length, drop}
use Rattle.std.proofs.Math.Option.{Option, none, some}
use Rattle.protocol.specs.Modes.{between_cycles, waiting_to_write, stopped}
use Rattle.protocol.specs.State.{Plant, State, Task, Sample, core, mode, untaken}
use Rattle.protocol.specs.Step.{Taking, reading, writing, run, order_list}
use Rattle.protocol.specs.Whole.{whole_one, whole}
use Rattle.verdict.specs.Verdict.{pick, both}

-- ---- which lists of takings it has to do

abbrev pub any_left : List Sample → Bool
any_left [] = false
any_left (r ∷ rs) = true

-- the whole-exchange machine has the taking x to do: a reading of a core in mode 0 with records left, a writing of a core in mode 3.
-- A core number from n on finds a stopped core, so that there is none.
unfoldable pub accepts : Task → Taking → Plant → Bool
accepts t (reading k) p = both (eqb (mode (core p k)) between_cycles) (any_left (drop (core p k).registers.cycles (t.samples k)))
accepts t (writing k) p = eqb (mode (core p k)) waiting_to_write

-- it has each of them to do in its turn
abbrev pub legal : Task → List Taking → Plant → Bool
legal t [] p = true
legal t (x ∷ xs) p = both (accepts t x p) (legal t xs (whole_one t x p))

-- ---- the rerun

-- where the whole-exchange machine ends, with the semaphore untaken
abbrev pub rerun_end : Task → List Taking → State → State
rerun_end t xs s = record { plant = whole t xs s.plant; semaphore = untaken }

-- none is refusal 33
abbrev pub rerun : Task → List Taking → State → Option State
rerun t xs s = pick (legal t xs s.plant) (some (rerun_end t xs s)) none

-- ---- the bytes of an order list: a core for its reading, plus 16 for its writing

abbrev pub decoded : ℕ → Taking
decoded b = pick (ltb b 16) (reading b) (writing (b - 16))

abbrev pub rerun_bytes : Task → List ℕ → State → Option State
rerun_bytes t bs s = rerun t (map decoded bs) s

-- ---- the claim

-- Each core is between cycles, waiting to write, or stopped
abbrev pub Settled : State → Type 0
Settled s = (k : ℕ) → (mode (core s.plant k) ≡ between_cycles) ⊎ ((mode (core s.plant k) ≡ waiting_to_write) ⊎ (mode (core s.plant k) ≡ stopped))

-- each of the steps is one of a core below n
abbrev pub Below : ℕ → List ℕ → Type 0
Below n [] = Unit {0}
Below n (k ∷ ks) = (k < n) × Below n ks

-- an ending is compared without the line, since a core between cycles may stand in it
abbrev pub unlined : State → State
unlined s = record { plant = s.plant; semaphore = record { holder = s.semaphore.holder; line = [] } }

-- Steps from s of its own cores that write the order list bs, end settled, and end at s'
pub record Producing (t : Task) (s : State) (bs : List ℕ) (s' : State) : Type 0 where
  pub steps : List ℕ
  pub lawful : Below (length s.plant.cores) steps
  pub writes : order_list t steps s ≡ bs
  pub settled : Settled s'
  pub end : run t steps s ≡ s'

-- The order list bs, rerun from the fresh state s
pub record Rerun (t : Task) (s : State) (bs : List ℕ) : Type 0 where
  -- every run that writes bs and ends settled ends as the rerun, the semaphore included, the line put aside
  pub ends : (ks : List ℕ) → order_list t ks s ≡ bs → Settled (run t ks s) → rerun_bytes t bs s ≡ some (unlined (run t ks s))
  -- a list that some steps write, wherever they stop, is never met with 33
  pub never-refused : (ks : List ℕ) → order_list t ks s ≡ bs → rerun_bytes t bs s ≢ none
  -- a list that is not met with 33 is written by some steps, and these end as the rerun
  pub produced : (s' : State) → rerun_bytes t bs s ≡ some s' → Producing t s bs s'
