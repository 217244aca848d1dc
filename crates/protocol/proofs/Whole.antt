-- Every state, with the exchange in progress and all executions brought to their ends, is a state of the whole-exchange machine.
-- In order: that end; executions; the simulation, step by step; lists of steps. Assumes nothing.
use mathlib.Core.Path.{◌≡◌, refl, sym, ap, ◌∙◌}
use mathlib.Core.Logic.{◌≢◌, ◌⊎◌, inl, inr}
use mathlib.Core.List.{List, [], ◌∷◌, ◌++◌}
use Prim.Native.Nat.{ℕ, zero, suc, ◌-◌, ◌≤◌, ◌<◌}
use native.Mathlib.Nat.{sub-zero}
use native.Mathlib.Decide.{ℕ_discrete}
use native.Mathlib.Omega.{arith}
use borrow.Author.Tests.{ne_eqb}
use lib.Dec.{eqb}
use lib.ListN.{length, set, drop, length-set}
use lib.Seq.{get_or-set_same, get_or-set_other, ext_get_or}
use Rattle.verdict.specs.Verdict.{pick}
use Rattle.protocol.specs.Registers.{read_acquired, byte_copied, read_released, write_acquired, write_released}
use Rattle.protocol.specs.State.{Core, Plant, Semaphore, State, Move, Sample, Task, absent, core, mode, put}
use Rattle.protocol.specs.Step.{acquired_by, released, copy, uncopied, read_taken, read_next, read_done, write_taken, write_next, write_done, step, run, Taking, reading, writing, taking_of, takings}
use Rattle.protocol.specs.Whole.{execute, whole_one, whole}
use Rattle.protocol.specs.Laws.{Laws, FreshStart, Still, SemaphoreHeld}
use Rattle.protocol.proofs.View.{after, at, read_byte, write_byte, Moves, rests, waits, takes_read, reads_on, reads_last, runs, takes_write, writes_on, writes_last, there, view}
use Rattle.protocol.proofs.Copy.{copy-on, copy-last}
use Rattle.protocol.proofs.Steps.{each, only, held-step, held-fresh}

-- ---- a core brought to the end of what it is doing

-- its execution: as many instructions as its count leaves, and the one that meets the limit
abbrev pub finish : Task → ℕ → Core → Core
finish t k c = execute t (suc (t.limit k - c.registers.count)) k c

-- its reading and execution, its execution, or its writing, by the mode; sh is shared memory
abbrev pub ended_in : ℕ → Task → ℕ → List ℕ → Core → Core
ended_in zero t k sh c = c
ended_in (suc zero) t k sh c = finish t k (read_done (copy (uncopied c (t.reads k)) sh c.memory) c)
ended_in (suc (suc zero)) t k sh c = finish t k c
ended_in (suc (suc (suc zero))) t k sh c = c
ended_in (suc (suc (suc (suc zero)))) t k sh c = write_done c
ended_in (suc (suc (suc (suc (suc m))))) t k sh c = c

abbrev pub ended : Task → ℕ → List ℕ → Core → Core
ended t k sh c = ended_in (mode c) t k sh c

-- what core k still has to copy to shared memory
abbrev pub pending : Task → ℕ → Core → List Move
pending t k c = pick (eqb (mode c) 4) (uncopied c (t.writes k)) []

-- shared memory with the writing in progress brought to its end
abbrev pub settled_by : ℕ → Task → Plant → List ℕ
settled_by zero t p = p.shared
settled_by (suc h) t p = copy (pending t h (core p h)) (core p h).memory p.shared

-- ---- executions

execute-off : (t : Task) (f k : ℕ) (c : Core) → mode c ≢ 2 → execute t f k c ≡ c
execute-off t zero k c h = refl
execute-off t (suc f) k c h = rw (ne_eqb (mode c) 2 h, execute)

finish_off : (t : Task) (k : ℕ) (c : Core) → mode c ≢ 2 → finish t k c ≡ c
finish_off t k c h = execute-off t (suc (t.limit k - c.registers.count)) k c h

-- the end of an execution is the same after one instruction of it
finish-step : (t : Task) → Laws t → (k : ℕ) (c : Core) → mode c ≡ 2 → c.registers.count ≤ t.limit k → finish t k (t.instruction k c) ≡ finish t k c
finish-step t l k c e b = go (ℕ_discrete (mode (t.instruction k c)) 2)
  where
    first : finish t k c ≡ execute t (t.limit k - c.registers.count) k (t.instruction k c)
    first = rw e

    go : Dec (mode (t.instruction k c) ≡ 2) → finish t k (t.instruction k c) ≡ finish t k c
    go (yes f) =
        let n : t.limit k - c.registers.count ≡ suc (t.limit k - (t.instruction k c).registers.count) = omega (arith, l.limited k c e f, l.counted k c e f) in
        sym (first ∙ ap (λ (f : ℕ). execute t f k (t.instruction k c)) n)
    go (no f) = finish_off t k (t.instruction k c) f ∙ sym (first ∙ execute-off t (t.limit k - c.registers.count) k (t.instruction k c) f)

-- ---- the simulation

-- s, brought to its end, is w; a count is within its limit
pub record Sim (t : Task) (s : State) (w : Plant) : Type 0 where
  pub same_length : length w.cores ≡ length s.plant.cores
  pub same-core : (j : ℕ) → core w j ≡ ended t j s.plant.shared (at s j)
  pub same-shared : w.shared ≡ settled_by s.semaphore.holder t s.plant
  pub bounded : (j : ℕ) → mode (at s j) ≡ 2 → (at s j).registers.count ≤ t.limit j

-- a core that does not read does not depend on shared memory
ended-other : (t : Task) (j : ℕ) (a b : List ℕ) (c : Core) (m : ℕ) → (m ≡ 1 → a ≡ b) → ended_in m t j a c ≡ ended_in m t j b c
ended-other t j a b c zero h = refl
ended-other t j a b c (suc zero) h = ap (λ (x : List ℕ). ended_in 1 t j x c) (h refl)
ended-other t j a b c (suc (suc zero)) h = refl
ended-other t j a b c (suc (suc (suc zero))) h = refl
ended-other t j a b c (suc (suc (suc (suc zero)))) h = refl
ended-other t j a b c (suc (suc (suc (suc (suc m))))) h = refl

-- outside an exchange, only execution is left
ended-finish : (t : Task) (k : ℕ) (sh : List ℕ) (c : Core) (m : ℕ) → mode c ≡ m → m ≢ 1 → m ≢ 4 → ended_in m t k sh c ≡ finish t k c
ended-finish t k sh c zero e a b = sym (finish_off t k c (omega arith))
ended-finish t k sh c (suc zero) e a b = absurd (a refl)
ended-finish t k sh c (suc (suc zero)) e a b = refl
ended-finish t k sh c (suc (suc (suc zero))) e a b = sym (finish_off t k c (omega arith))
ended-finish t k sh c (suc (suc (suc (suc zero)))) e a b = absurd (b refl)
ended-finish t k sh c (suc (suc (suc (suc (suc m))))) e a b = sym (finish_off t k c (omega arith))

pending-off : (t : Task) (k : ℕ) (c : Core) → mode c ≢ 4 → pending t k c ≡ []
unfolding pick
pending-off t k c h = rw (ne_eqb (mode c) 4 h)

-- a step from and to a mode other than 4 leaves the writing in progress alone
settled-off : (t : Task) (p : Plant) (k : ℕ) (c : Core) → k < length p.cores → mode (core p k) ≢ 4 → mode c ≢ 4
    → (h : ℕ) → settled_by h t p ≡ settled_by h t (put p k c)
settled-off t p k c i a b zero = refl
settled-off t p k c i a b (suc h) = go (ℕ_discrete h k)
  where
    go : Dec (h ≡ k) → settled_by (suc h) t p ≡ settled_by (suc h) t (put p k c)
    go (yes e) = rw (e, get_or-set_same p.cores k c absent i, pending-off t k (core p k) a, pending-off t k c b)
    go (no n) = rw (get_or-set_other p.cores k h c absent n)

module _ (t : Task) (k : ℕ) (s : State) (w : Plant) (sim : Sim t s w) where
  -- while the semaphore is free, no writing is in progress
  pub free-shared : s.semaphore.holder ≡ 0 → w.shared ≡ s.plant.shared
  free-shared f = sim.same-shared ∙ rw f

  -- what the whole-exchange machine does at a writing
  pub whole-write : mode (at s k) ≡ 3
      → whole_one t (writing k) w ≡ record { cores = set w.cores k (write_done (at s k)); shared = copy (t.writes k) (at s k).memory w.shared }
  unfolding whole_one
  whole-write e = let q : core w k ≡ at s k = sim.same-core k ∙ rw e in rw (q, e)

module _ (t : Task) (k : ℕ) (s : State) (w : Plant) (sim : Sim t s w) (x : SemaphoreHeld s) where
  -- a step puts c, sh and h in place, and the whole-exchange machine goes to v
  advance : (c : Core) (sh : List ℕ) (h : Semaphore) (v : Plant) → k < length s.plant.cores
      → ((j : ℕ) → j ≢ k → mode (at s j) ≡ 1 → s.plant.shared ≡ sh)
      → (mode c ≡ 2 → c.registers.count ≤ t.limit k)
      → length v.cores ≡ length w.cores
      → core v k ≡ ended t k sh c
      → ((j : ℕ) → j ≢ k → core v j ≡ core w j)
      → v.shared ≡ settled_by h.holder t (after s k c sh h).plant
      → Sim t (after s k c sh h) v
  advance c sh h v i others bound len one rest shared = record {
    same_length = len ∙ sim.same_length ∙ sym (length-set s.plant.cores k c);
    same-core = each (λ j x. core v j ≡ ended t j sh x) s.plant.cores k c i one
        (λ j n. rest j n ∙ sim.same-core j ∙ ended-other t j s.plant.shared sh (at s j) (mode (at s j)) (others j n));
    same-shared = shared;
    bounded = each (λ j x. mode x ≡ 2 → x.registers.count ≤ t.limit j) s.plant.cores k c i bound (λ j n e. sim.bounded j e);
  }

  by-takes_read : (r : Sample) (rs : List Sample) → k < length s.plant.cores → s.semaphore.holder ≡ 0 → mode (at s k) ≡ 0
      → drop (at s k).registers.cycles (t.samples k) ≡ r ∷ rs
      → Sim t (after s k (read_taken r (at s k)) s.plant.shared (acquired_by k s.semaphore)) (whole_one t (reading k) w)
  unfolding whole_one read_taken read_acquired read_done read_released pick
  by-takes_read r rs i f e d =
      let q : core w k ≡ at s k = sim.same-core k ∙ rw e in
      let c : Core = read_taken r (at s k) in
      let v : Plant = put w k (execute t (suc (t.limit k)) k (read_done (copy (t.reads k) w.shared c.memory) c)) in
      let eq : whole_one t (reading k) w ≡ v = rw (q, e, d) in
      rw eq (advance c s.plant.shared (acquired_by k s.semaphore) v i (λ j n y. refl) (omega arith) (length-set w.cores k _)
      (get_or-set_same w.cores k _ absent (rw sim.same_length i) ∙ rw (free-shared t k s w sim f, sub-zero))
      (λ j n. get_or-set_other w.cores k j _ absent n)
      (free-shared t k s w sim f ∙ rw (there s k c i)))

  by-reads_on : (m : Move) (ms : List Move) → k < length s.plant.cores → mode (at s k) ≡ 1 → drop 1 (uncopied (at s k) (t.reads k)) ≡ m ∷ ms
      → Sim t (after s k (read_next (read_byte t k s) (at s k)) s.plant.shared s.semaphore) w
  unfolding read_next byte_copied read_done read_released pick
  by-reads_on m ms i e d =
      let c : Core = read_next (read_byte t k s) (at s k) in
      let h : s.semaphore.holder ≡ suc k = x.held k (inl e) in
      advance c s.plant.shared s.semaphore w i (λ j n y. refl) (omega arith) refl
      (sim.same-core k
      ∙ rw e (ap (λ (d : List ℕ). finish t k (read_done d (at s k))) (copy-on (at s k).registers.exchange (t.reads k) s.plant.shared (at s k).memory)))
      (λ j n. refl)
      (sim.same-shared ∙ rw (h, there s k c i, e))

  by-reads_last : k < length s.plant.cores → mode (at s k) ≡ 1 → drop 1 (uncopied (at s k) (t.reads k)) ≡ []
      → Sim t (after s k (read_done (read_byte t k s) (at s k)) s.plant.shared (released s.semaphore)) w
  unfolding read_done read_released pick
  by-reads_last i e d =
      let c : Core = read_done (read_byte t k s) (at s k) in
      let h : s.semaphore.holder ≡ suc k = x.held k (inl e) in
      advance c s.plant.shared (released s.semaphore) w i (λ j n y. refl) (omega arith) refl
      (sim.same-core k
      ∙ rw e (ap (λ (d : List ℕ). finish t k (read_done d (at s k))) (copy-last (uncopied (at s k) (t.reads k)) s.plant.shared (at s k).memory d)))
      (λ j n. refl)
      (sim.same-shared ∙ rw (h, e))

  by_runs : Laws t → k < length s.plant.cores → mode (at s k) ≡ 2 → Sim t (after s k (t.instruction k (at s k)) s.plant.shared s.semaphore) w
  by_runs l i e =
      let c : Core = t.instruction k (at s k) in
      advance c s.plant.shared s.semaphore w i (λ j n y. refl) (λ g. omega (arith, sim.bounded k e, l.limited k (at s k) e g, l.counted k (at s k) e g)) refl
      (sim.same-core k
      ∙ rw e (sym (ended-finish t k s.plant.shared c (mode c) refl (l.no_read k (at s k) e) (l.no_write k (at s k) e)
      ∙ finish-step t l k (at s k) e (sim.bounded k e))))
      (λ j n. refl)
      (sim.same-shared ∙ settled-off t s.plant k c i (omega arith) (l.no_write k (at s k) e) s.semaphore.holder)

  by-takes_write : k < length s.plant.cores → s.semaphore.holder ≡ 0 → mode (at s k) ≡ 3
      → Sim t (after s k (write_taken (at s k)) s.plant.shared (acquired_by k s.semaphore)) (whole_one t (writing k) w)
  unfolding write_taken write_acquired write_done write_released pick
  by-takes_write i f e =
      let c : Core = write_taken (at s k) in
      let v : Plant = record { cores = set w.cores k (write_done (at s k)); shared = copy (t.writes k) (at s k).memory w.shared } in
      rw (whole-write t k s w sim e) (advance c s.plant.shared (acquired_by k s.semaphore) v i (λ j n y. refl) (omega arith) (length-set w.cores k _)
      (get_or-set_same w.cores k _ absent (rw sim.same_length i))
      (λ j n. get_or-set_other w.cores k j _ absent n)
      (rw (there s k c i, free-shared t k s w sim f)))

  by-writes_on : (m : Move) (ms : List Move) → k < length s.plant.cores → mode (at s k) ≡ 4 → drop 1 (uncopied (at s k) (t.writes k)) ≡ m ∷ ms
      → Sim t (after s k (write_next (at s k)) (write_byte t k s) s.semaphore) w
  unfolding write_next byte_copied write_done write_released pick
  by-writes_on m ms i e d =
      let c : Core = write_next (at s k) in
      let h : s.semaphore.holder ≡ suc k = x.held k (inr e) in
      advance c (write_byte t k s) s.semaphore w i (λ j n y. absurd (only s x k (inr e) j n (inl y))) (omega arith) refl
      (sim.same-core k ∙ rw e)
      (λ j n. refl)
      (sim.same-shared ∙ rw (h, there s k c i, e) (copy-on (at s k).registers.exchange (t.writes k) (at s k).memory s.plant.shared))

  by-writes_last : k < length s.plant.cores → mode (at s k) ≡ 4 → drop 1 (uncopied (at s k) (t.writes k)) ≡ []
      → Sim t (after s k (write_done (at s k)) (write_byte t k s) (released s.semaphore)) w
  unfolding write_done write_released pick
  by-writes_last i e d =
      let c : Core = write_done (at s k) in
      let h : s.semaphore.holder ≡ suc k = x.held k (inr e) in
      advance c (write_byte t k s) (released s.semaphore) w i (λ j n y. absurd (only s x k (inr e) j n (inl y))) (omega arith) refl
      (sim.same-core k ∙ rw e)
      (λ j n. refl)
      (sim.same-shared ∙ rw (h, e) (copy-last (uncopied (at s k) (t.writes k)) (at s k).memory s.plant.shared d))

  sim-of : Laws t → (s' : State) (ts : List Taking) → Moves t k s s' ts → Sim t s' (whole t ts w)
  sim-of l s' ts (rests z) = sim
  sim-of l s' ts (waits i wt b) = record { same_length = sim.same_length; same-core = sim.same-core; same-shared = sim.same-shared; bounded = sim.bounded }
  sim-of l s' ts (takes_read r rs i f b e d) = by-takes_read r rs i f e d
  sim-of l s' ts (reads_on m ms i e d) = by-reads_on m ms i e d
  sim-of l s' ts (reads_last i e d) = by-reads_last i e d
  sim-of l s' ts (runs i e) = by_runs l i e
  sim-of l s' ts (takes_write i f b e) = by-takes_write i f e
  sim-of l s' ts (writes_on m ms i e d) = by-writes_on m ms i e d
  sim-of l s' ts (writes_last i e d) = by-writes_last i e d

pub sim-step : (t : Task) → Laws t → (k : ℕ) (s : State) (w : Plant) → Sim t s w → SemaphoreHeld s → Sim t (step t k s) (whole t (taking_of t k s) w)
sim-step t l k s w sim x = sim-of t k s w sim x l (step t k s) (taking_of t k s) (view t k s)

-- ---- lists of steps

pub whole_append : (t : Task) (xs ys : List Taking) (p : Plant) → whole t (xs ++ ys) p ≡ whole t ys (whole t xs p)
whole_append t [] ys p = refl
whole_append t (x ∷ xs) ys p = whole_append t xs ys (whole_one t x p)

pub sim-run : (t : Task) → Laws t → (ks : List ℕ) (s : State) (w : Plant) → Sim t s w → SemaphoreHeld s → Sim t (run t ks s) (whole t (takings t ks s) w)
sim-run t l [] s w sim x = sim
sim-run t l (k ∷ ks) s w sim x =
    rw whole_append (sim-run t l ks (step t k s) (whole t (taking_of t k s) w) (sim-step t l k s w sim x) (held-step t l k s x))

ended-still : (t : Task) (k : ℕ) (sh : List ℕ) (c : Core) → Still c → ended t k sh c ≡ c
ended-still t k sh c h = ended-finish t k sh c (mode c) refl h.0 h.2 ∙ finish_off t k c h.1

settled-still : (t : Task) (s : State) → ((k : ℕ) → Still (at s k)) → (h : ℕ) → settled_by h t s.plant ≡ s.plant.shared
settled-still t s b zero = refl
settled-still t s b (suc h) = rw (pending-off t h (at s h) (b h).2)

pub sim-still : (t : Task) (s : State) (w : Plant) → Sim t s w → ((k : ℕ) → Still (at s k)) → s.plant ≡ w
sim-still t s w sim b =
    let p : s.plant.cores ≡ w.cores
    = ext_get_or absent s.plant.cores w.cores (sym sim.same_length) (λ j h. sym (sim.same-core j ∙ ended-still t j s.plant.shared (at s j) (b j))) in
    let q : s.plant.shared ≡ w.shared = sym (sim.same-shared ∙ settled-still t s b s.semaphore.holder) in
    λ i. record { cores = p i; shared = q i }

pub between-still : (c : Core) → (mode c ≡ 0) ⊎ (mode c ≡ 5) → Still c
between-still c (inl e) = omega arith
between-still c (inr e) = omega arith

-- a state in which nothing is left to do
pub sim-at-rest : (t : Task) (s : State) → ((k : ℕ) → Still (at s k)) → Sim t s s.plant
sim-at-rest t s still = record {
  same_length = refl;
  same-core = λ j. sym (ended-still t j s.plant.shared (at s j) (still j));
  same-shared = sym (settled-still t s still s.semaphore.holder);
  bounded = λ j e. absurd ((still j).1 e);
}

pub sim-fresh : (t : Task) (s : State) → FreshStart s → Sim t s s.plant
sim-fresh t s f = sim-at-rest t s (λ k. between-still (at s k) (f.between k))

-- Any list of steps from a fresh state that ends with each core in mode 0, 3 or 5 ends as the whole-exchange machine
pub as-whole : (t : Task) → Laws t → (s : State) → FreshStart s → (ks : List ℕ) → ((k : ℕ) → Still (at (run t ks s) k))
    → (run t ks s).plant ≡ whole t (takings t ks s) s.plant
as-whole t l s f ks b = sim-still t (run t ks s) (whole t (takings t ks s) s.plant) (sim-run t l ks s s.plant (sim-fresh t s f) (held-fresh s f)) b

-- The fuel of `execute` in the whole-exchange machine is enough: the mode is not 2 at its end
execute-ends : (t : Task) → Laws t → (f k : ℕ) (c : Core) → c.registers.count ≤ t.limit k → t.limit k - c.registers.count < f
    → mode (execute t f k c) ≢ 2
execute-ends t l zero k c b h = omega arith
execute-ends t l (suc f) k c b h =
    go (λ b h. execute-ends t l f k (t.instruction k c) b h) (ℕ_discrete (mode c) 2) (ℕ_discrete (mode (t.instruction k c)) 2)
  where
    c' : Core
    c' = t.instruction k c

    go : (c'.registers.count ≤ t.limit k → t.limit k - c'.registers.count < f → mode (execute t f k c') ≢ 2) → Dec (mode c ≡ 2) → Dec (mode c' ≡ 2)
        → mode (execute t (suc f) k c) ≢ 2
    go r (yes e) (yes g) =
        rw (e, execute) (r (omega (arith, l.limited k c e g, l.counted k c e g)) (omega (arith, l.limited k c e g, l.counted k c e g)))
    go r (yes e) (no n) = rw (e, execute, execute-off t f k c' n) n
    go r (no n) d = rw (execute-off t (suc f) k c n) n

-- Execution ends within limit + 1 instructions, the one that meets the limit included
pub execution-ends : (t : Task) → Laws t → (k : ℕ) (c : Core) → c.registers.count ≡ 0 → mode (execute t (suc (t.limit k)) k c) ≢ 2
execution-ends t l k c e = execute-ends t l (suc (t.limit k)) k c (omega arith) (omega arith)
