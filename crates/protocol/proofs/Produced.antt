-- Every legal list of takings is produced by some steps: when nothing is going on, an accepted taking is one step, and the core is then brought to the end
-- of what it does (`Settling`). Not here: that produced lists are legal (`Legal`), the bytes of an order list (`Rerun`). Assumes nothing.
use mathlib.Core.Path.{◌≡◌, refl, ap}
use mathlib.Core.Logic.{inl, inr}
use mathlib.Core.Bool.{Bool, true, false}
use mathlib.Core.List.{List, [], ◌∷◌, ◌++◌}
use Prim.Native.Nat.{ℕ, zero, suc, ◌<◌}
use native.Mathlib.Nat.{le_refl}
use native.Mathlib.Omega.{arith}
use lib.Dec.{T, eqb, eqb→eq}
use lib.ListN.{length, drop, length-set}
use Rattle.protocol.specs.State.{Plant, State, Task, Sample, core}
use Rattle.protocol.specs.Step.{turn_in, Taking, reading, writing, run, step, takings, taking_of}
use Rattle.protocol.specs.Whole.{whole_read, whole_write, whole_one}
use Rattle.protocol.specs.Laws.{Laws, Still, Holding, SemaphoreHeld}
use Rattle.protocol.specs.Rerun.{any_left, accepts, legal, Below}
use Rattle.protocol.proofs.View.{inside, at, Moves, rests, waits, takes_read, reads_on, reads_last, runs, takes_write, writes_on, writes_last, view}
use Rattle.protocol.proofs.Steps.{run-append, takings-append, held-step, others-stay}
use Rattle.protocol.proofs.Whole.{sim-step, sim-still, sim-at-rest}
use Rattle.protocol.proofs.Legal.{both-0, both-1, none_left}
use Rattle.protocol.proofs.Settling.{rank, Settling, settle}

abbrev pub who : Taking → ℕ
who (reading k) = k
who (writing k) = k

module _ (t : Task) where
  pub whole_length : (x : Taking) (p : Plant) → length (whole_one t x p).cores ≡ length p.cores
  unfolding whole_one
  whole_length (reading k) p = go (core p k).registers.mode (drop (core p k).registers.cycles (t.samples k))
    where
      go : (m : ℕ) (rs : List Sample) → length (whole_read m rs t k (core p k) p).cores ≡ length p.cores
      go zero [] = refl
      go zero (r ∷ rs) = length-set p.cores k _
      go (suc m) rs = refl
  whole_length (writing k) p = go (eqb (core p k).registers.mode 3)
    where
      go : (b : Bool) → length (whole_write b t k (core p k) p).cores ≡ length p.cores
      go true = length-set p.cores k _
      go false = refl

  pub accepted-inside : (x : Taking) (p : Plant) → T (accepts t x p) → who x < length p.cores
  unfolding accepts
  accepted-inside (reading k) p a = inside p.cores k 0 (eqb→eq (core p k).registers.mode 0 (both-0 (eqb (core p k).registers.mode 0) (any_left (drop (core p k).registers.cycles (t.samples k))) a)) (omega arith)
  accepted-inside (writing k) p a = inside p.cores k 3 (eqb→eq (core p k).registers.mode 3 a) (omega arith)

my-turn : (h : ℕ) (q : List ℕ) (k : ℕ) → h ≡ 0 → q ≡ [] → turn_in h q k ≡ false → ⊥
my-turn h q k e f u = let b : true ≡ false = rw (e, f) at u in let z : ◌≡◌ {A = ℕ} 0 1 = cc in omega arith

-- a taking leaves an empty line empty
line_taken : (t : Task) (k : ℕ) (s : State) (x : Taking) → s.semaphore.line ≡ [] → (s' : State) (ts : List Taking) → Moves t k s s' ts → ts ≡ x ∷ [] → s'.semaphore.line ≡ []
line_taken t k s x q s' ts (rests z) e = q
line_taken t k s x q s' ts (waits i z u) e = let z : ◌≡◌ {A = ℕ} 0 1 = cc in absurd (omega arith)
line_taken t k s x q s' ts (takes_read r rs i f u g d) e = rw q
line_taken t k s x q s' ts (reads_on m ms i g d) e = q
line_taken t k s x q s' ts (reads_last i g d) e = q
line_taken t k s x q s' ts (runs i g) e = q
line_taken t k s x q s' ts (takes_write i f u g) e = rw q
line_taken t k s x q s' ts (writes_on m ms i g d) e = q
line_taken t k s x q s' ts (writes_last i g d) e = q

takes-read : (t : Task) (k : ℕ) (s : State) → (at s k).registers.mode ≡ 0 → T (any_left (drop (at s k).registers.cycles (t.samples k))) → s.semaphore.holder ≡ 0 → s.semaphore.line ≡ [] → (s' : State) (ts : List Taking) → Moves t k s s' ts → ts ≡ reading k ∷ []
takes-read t k s e a h q s' ts (rests z) = absurd (none_left _ (z.no_read e) a)
takes-read t k s e a h q s' ts (waits i z u) = absurd (my-turn s.semaphore.holder s.semaphore.line k h q u)
takes-read t k s e a h q s' ts (takes_read r rs i f u g d) = refl
takes-read t k s e a h q s' ts (reads_on m ms i g d) = absurd (omega arith)
takes-read t k s e a h q s' ts (reads_last i g d) = absurd (omega arith)
takes-read t k s e a h q s' ts (runs i g) = absurd (omega arith)
takes-read t k s e a h q s' ts (takes_write i f u g) = absurd (omega arith)
takes-read t k s e a h q s' ts (writes_on m ms i g d) = absurd (omega arith)
takes-read t k s e a h q s' ts (writes_last i g d) = absurd (omega arith)

takes_write_lem : (t : Task) (k : ℕ) (s : State) → (at s k).registers.mode ≡ 3 → s.semaphore.holder ≡ 0 → s.semaphore.line ≡ [] → (s' : State) (ts : List Taking) → Moves t k s s' ts → ts ≡ writing k ∷ []
takes_write_lem t k s e h q s' ts (rests z) = absurd (z.no_write e)
takes_write_lem t k s e h q s' ts (waits i z u) = absurd (my-turn s.semaphore.holder s.semaphore.line k h q u)
takes_write_lem t k s e h q s' ts (takes_read r rs i f u g d) = absurd (omega arith)
takes_write_lem t k s e h q s' ts (reads_on m ms i g d) = absurd (omega arith)
takes_write_lem t k s e h q s' ts (reads_last i g d) = absurd (omega arith)
takes_write_lem t k s e h q s' ts (runs i g) = absurd (omega arith)
takes_write_lem t k s e h q s' ts (takes_write i f u g) = refl
takes_write_lem t k s e h q s' ts (writes_on m ms i g d) = absurd (omega arith)
takes_write_lem t k s e h q s' ts (writes_last i g d) = absurd (omega arith)

takes : (t : Task) (x : Taking) (s : State) → T (accepts t x s.plant) → s.semaphore.holder ≡ 0 → s.semaphore.line ≡ [] → taking_of t (who x) s ≡ x ∷ []
unfolding accepts
takes t (reading k) s a h q =
    let waits = eqb (at s k).registers.mode 0 in
    let sample = any_left (drop (at s k).registers.cycles (t.samples k)) in
    takes-read t k s (eqb→eq (at s k).registers.mode 0 (both-0 waits sample a)) (both-1 waits sample a) h q (step t k s) (taking_of t k s) (view t k s)
takes t (writing k) s a h q = takes_write_lem t k s (eqb→eq (at s k).registers.mode 3 a) h q (step t k s) (taking_of t k s) (view t k s)

-- nothing is going on
pub record AtRest (s : State) : Type 0 where
  pub free : s.semaphore.holder ≡ 0
  pub empty : s.semaphore.line ≡ []
  pub held : SemaphoreHeld s
  pub still : (j : ℕ) → Still (at s j)

pub free-still : (s : State) → SemaphoreHeld s → ((j : ℕ) → Still (at s j)) → s.semaphore.holder ≡ 0
free-still s x y = go s.semaphore.holder refl
  where
    nobody : (j : ℕ) → Holding (at s j) → ⊥
    nobody j (inl g) = (y j).0 g
    nobody j (inr g) = (y j).2 g

    go : (h : ℕ) → s.semaphore.holder ≡ h → h ≡ 0
    go zero e = refl
    go (suc j) e = absurd (nobody j (x.holding j e))

-- steps from s, of cores below n, that produce xs
pub record Made (t : Task) (n : ℕ) (s : State) (xs : List Taking) : Type 0 where
  pub steps : List ℕ
  pub lawful : Below n steps
  pub taken : takings t steps s ≡ xs
  pub rest : AtRest (run t steps s)

below-append : (n : ℕ) (hs ks : List ℕ) → Below n hs → Below n ks → Below n (hs ++ ks)
below-append n [] ks a b = b
below-append n (h ∷ hs) ks a b = (a.0, below-append n hs ks a.1 b)

in_a_row : (t : Task) (n k : ℕ) (hs : List ℕ) (s : State) (x : Taking) (xs : List Taking) → k < n → Below n hs → taking_of t k s ≡ x ∷ [] → takings t hs (step t k s) ≡ [] → Made t n (run t hs (step t k s)) xs → Made t n s (x ∷ xs)
in_a_row t n k hs s x xs i j a b z = record {
  steps = k ∷ (hs ++ z.steps);
  lawful = (i, below-append n hs z.steps j z.lawful);
  taken = rw (a, takings-append t hs z.steps (step t k s), b) (ap (λ (l : List Taking). x ∷ l) z.taken);
  rest = rw (run-append t hs z.steps (step t k s)) z.rest;
}

pub produce : (t : Task) → Laws t → (n : ℕ) (xs : List Taking) (s : State) → length s.plant.cores ≡ n → AtRest s → T (legal t xs s.plant) → Made t n s xs
produce t l n [] s len r a = record { steps = []; lawful = tt; taken = refl; rest = r }
produce t l n (x ∷ xs) s len r a =
    let k : ℕ = who x in
    let s₁ : State = step t k s in
    let w : Plant = whole_one t x s.plant in
    let ok : T (accepts t x s.plant) = both-0 (accepts t x s.plant) (legal t xs w) a in
    let i : k < n = rw len at (accepted-inside t x s.plant ok) in
    let first : taking_of t k s ≡ x ∷ [] = takes t x s ok r.free r.empty in
    let m : Moves t k s s₁ (taking_of t k s) = view t k s in
    let y : Settling t n s₁ w = settle t l n k i (rank t k (at s₁ k)) s₁ w
    (rw first at (sim-step t l k s s.plant (sim-at-rest t s r.still) r.held))
    (held-step t l k s r.held) (line_taken t k s x r.empty s₁ (taking_of t k s) m first) (le_refl _)
    (λ j d. rw (others-stay t k s j d) (r.still j)) in
    let s₂ : State = run t y.steps s₁ in
    let e : s₂.plant ≡ w = sim-still t s₂ w y.sim y.still in
    let z : Made t n s₂ xs = produce t l n xs s₂ (omega (arith, y.sim.same_length, whole_length t x s.plant))
    record { free = free-still s₂ y.held y.still; empty = y.empty; held = y.held; still = y.still } (rw e (both-1 (accepts t x s.plant) (legal t xs w) a)) in
    in_a_row t n k y.steps s x xs i y.lawful first y.none-taken z
