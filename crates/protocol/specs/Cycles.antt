-- Document 02, 2.9: whole cycles, one after another. `whole-cycles` of proofs/Cycles proves `Serial` of every list of steps from the fresh state that
-- ends with every core between cycles or stopped, if no two cores read each other and the lines form no ring.
-- In order: lines and rings; the same as tests; whole cycles. Not here: real files and calls, and three cores in a ring that no order matches (crate
-- cycles).
use Rattle.std.specs.Prelude.{◌≡◌, ◌≢◌, Bool, true, false, not, List, [], ◌∷◌, ℕ, suc, T, eqb, drop}
use Rattle.protocol.specs.Modes.{between_cycles}
use Rattle.protocol.specs.State.{Plant, State, Task, core}
use Rattle.protocol.specs.Step.{Taking, reading, writing, run, takings}
use Rattle.protocol.specs.Whole.{whole_one}
use Rattle.verdict.specs.Verdict.{both, pick, either}
use Rattle.protocol.specs.Variables.{In, Variable, reads_it, writes_it}

-- ---- lines and rings

-- "one reads a variable that the other writes": core r one that core w writes
abbrev pub reads_from : List Variable → ℕ → ℕ → Bool
reads_from [] r w = false
reads_from (v ∷ vs) r w = either (both (reads_it r v) (writes_it w v)) (reads_from vs r w)

-- "draw a line between two cores", direction put aside
abbrev pub line_between : List Variable → ℕ → ℕ → Bool
line_between vs j k = either (reads_from vs j k) (reads_from vs k j)

-- "no two cores read each other"
abbrev pub OneWay : (ℕ → ℕ → Bool) → Type 0
OneWay reads = (j k : ℕ) → j ≢ k → T (reads j k) → T (reads k j) → ⊥

-- no core stands there twice
abbrev pub Different : List ℕ → Type 0
Different [] = Unit {0}
Different (k ∷ ks) = ((j : ℕ) → In j ks → j ≢ k) × Different ks

-- a line from k to the first of ks, from each of ks to the next, and from the last one to `first`
abbrev pub Closes : (ℕ → ℕ → Bool) → ℕ → ℕ → List ℕ → Type 0
Closes joined first k [] = T (joined k first)
Closes joined first k (j ∷ ks) = T (joined k j) × Closes joined first j ks

-- a ring: three cores or more, all different, with a line from each to the next and from the last to the first
abbrev pub Ring : (ℕ → ℕ → Bool) → List ℕ → Type 0
Ring joined [] = ⊥
Ring joined (a ∷ []) = ⊥
Ring joined (a ∷ b ∷ []) = ⊥
Ring joined (a ∷ b ∷ c ∷ ks) = Different (a ∷ b ∷ c ∷ ks) × Closes joined a a (b ∷ c ∷ ks)

-- "the lines, direction put aside, form no ring"
abbrev pub NoRing : (ℕ → ℕ → Bool) → Type 0
NoRing joined = (ks : List ℕ) → Ring joined ks → ⊥

-- ---- the same as tests, of the cores 0 to 3: all that a line can join (proofs/Tests: the tests are exact)

-- of each core
abbrev pub every : (ℕ → Bool) → Bool
every f = both (f 0) (both (f 1) (both (f 2) (f 3)))

-- no two cores read each other
abbrev pub is_one_way : (ℕ → ℕ → Bool) → Bool
is_one_way reads = every (λ j. every (λ k. either (eqb j k) (not (both (reads j k) (reads k j)))))

-- j stands there
abbrev pub among : ℕ → List ℕ → Bool
among j [] = false
among j (k ∷ ks) = either (eqb j k) (among j ks)

-- no core stands there twice
abbrev pub different : List ℕ → Bool
different [] = true
different (k ∷ ks) = both (not (among k ks)) (different ks)

-- as `Closes`
abbrev pub closes : (ℕ → ℕ → Bool) → ℕ → ℕ → List ℕ → Bool
closes joined first k [] = joined k first
closes joined first k (j ∷ ks) = both (joined k j) (closes joined first j ks)

-- no three and no four cores form a ring
abbrev pub no_ring : (ℕ → ℕ → Bool) → Bool
no_ring joined = every (λ a. every (λ b. every (λ c.
    both (not (both (different (a ∷ b ∷ c ∷ [])) (closes joined a a (b ∷ c ∷ []))))
    (every (λ d. not (both (different (a ∷ b ∷ c ∷ d ∷ [])) (closes joined a a (b ∷ c ∷ d ∷ []))))))))

-- ---- whole cycles

-- A whole cycle of core k: its reading with the execution, then at once its writing. "A cycle that faulted counts as one that ran to its fault": the
-- core is stopped then and the writing does nothing. Where the core is stopped or out of records, nothing happens.
unfoldable pub cycle : Task → ℕ → Plant → Plant
cycle t k p = whole_one t (writing k) (whole_one t (reading k) p)

-- whole cycles one after another
abbrev pub cycles : Task → List ℕ → Plant → Plant
cycles t [] p = p
cycles t (k ∷ ks) p = cycles t ks (cycle t k p)

-- each of these cycles finds its core between cycles, with a record left
abbrev pub EachRuns : Task → List ℕ → Plant → Type 0
EachRuns t [] p = Unit {0}
EachRuns t (k ∷ ks) p = ((core p k).registers.mode ≡ between_cycles) × (drop (core p k).registers.cycles (t.samples k) ≢ []) × EachRuns t ks (cycle t k p)

-- the cores whose cycles begin, in order
abbrev pub begun : List Taking → List ℕ
begun [] = []
begun (reading k ∷ ts) = k ∷ begun ts
begun (writing k ∷ ts) = begun ts

-- how often k stands in a list
abbrev pub how_often : ℕ → List ℕ → ℕ
how_often k [] = 0
how_often k (j ∷ ks) = pick (eqb k j) (suc (how_often k ks)) (how_often k ks)

-- The steps ks from s end, with a free semaphore, "as some order of whole cycles from there would, run one after another"; each cycle of the order does
-- run, and each core has as many as it began in the run.
pub record Serial (t : Task) (s : State) (ks : List ℕ) : Type 0 where
  pub order : List ℕ
  pub ends : (run t ks s).plant ≡ cycles t order s.plant
  pub free : (run t ks s).semaphore.holder ≡ 0
  pub real : EachRuns t order s.plant
  pub all : (k : ℕ) → how_often k order ≡ how_often k (begun (takings t ks s))
