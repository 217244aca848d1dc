-- A core is brought to the end of what it is doing by its own steps, with no taking: each step leaves it less to do.
-- Not here: a taking when nothing is going on (`Produced`). Assumes nothing.
use mathlib.Core.Path.{◌≡◌, refl, ◌∙◌}
use mathlib.Core.Logic.{◌≢◌, inl, inr}
use mathlib.Core.List.{List, [], ◌∷◌}
use Prim.Native.Nat.{ℕ, zero, suc, ◌+◌, ◌-◌, ◌≤◌, ◌<◌}
use native.Mathlib.Decide.{ℕ_discrete}
use native.Mathlib.Omega.{arith}
use lib.ListN.{length, drop, length-drop}
use lib.Seq.{get_or-set_same}
use Rattle.protocol.specs.Registers.{byte_copied, read_released, write_released}
use Rattle.protocol.specs.State.{Core, Plant, State, Task, Move, absent}
use Rattle.protocol.specs.Step.{Taking, uncopied, read_next, read_done, write_next, write_done, run, step, takings, taking_of}
use Rattle.protocol.specs.Laws.{Laws, Still, SemaphoreHeld}
use Rattle.protocol.specs.Rerun.{Below}
use Rattle.protocol.proofs.View.{after, at, Wants, Moves, rests, waits, takes_read, reads_on, reads_last, runs, takes_write, writes_on, writes_last, view}
use Rattle.protocol.proofs.Steps.{held-step, others-stay}
use Rattle.protocol.proofs.Whole.{Sim, sim-step}

-- no fewer than the steps that are left
abbrev rank_in : ℕ → Task → ℕ → Core → ℕ
rank_in zero t k c = 0
rank_in (suc zero) t k c = 3 + (length (uncopied c (t.reads k)) + t.limit k)
rank_in (suc (suc zero)) t k c = suc (t.limit k - c.registers.count)
rank_in (suc (suc (suc zero))) t k c = 0
rank_in (suc (suc (suc (suc zero)))) t k c = suc (length (uncopied c (t.writes k)))
rank_in (suc (suc (suc (suc (suc m))))) t k c = 0

abbrev pub rank : Task → ℕ → Core → ℕ
rank t k c = rank_in c.registers.mode t k c

rank-off : (t : Task) (k : ℕ) (c : Core) (m : ℕ) → m ≢ 1 → m ≢ 2 → m ≢ 4 → rank_in m t k c ≡ 0
rank-off t k c zero a b d = refl
rank-off t k c (suc zero) a b d = absurd (a refl)
rank-off t k c (suc (suc zero)) a b d = absurd (b refl)
rank-off t k c (suc (suc (suc zero))) a b d = refl
rank-off t k c (suc (suc (suc (suc zero)))) a b d = absurd (d refl)
rank-off t k c (suc (suc (suc (suc (suc m))))) a b d = refl

-- one byte fewer is left
fewer : (n : ℕ) (ms : List Move) (m : Move) (rest : List Move) → drop 1 (drop n ms) ≡ m ∷ rest → length (drop (n + 1) ms) < length (drop n ms)
fewer n ms m rest e = let h : length (drop 1 (drop n ms)) ≡ suc (length rest) = rw e in simp length-drop (omega (arith, simp length-drop at h))

record Calmer (t : Task) (k : ℕ) (s s' : State) (ts : List Taking) : Type 0 where
  none-taken : ts ≡ []
  less : rank t k (at s' k) < rank t k (at s k)
  same_line : s'.semaphore.line ≡ s.semaphore.line

module _ (t : Task) (l : Laws t) (k : ℕ) (s : State) (w : Plant) (sim : Sim t s w) where
  calmer : (c : Core) (sh : List ℕ) (h : ℕ) → k < length s.plant.cores → rank t k c < rank t k (at s k) → Calmer t k s (after s k c sh record { holder = h; line = s.semaphore.line }) []
  calmer c sh h i b = record { none-taken = refl; less = rw (get_or-set_same s.plant.cores k c absent i) b; same_line = refl }

  runs-less : (at s k).registers.mode ≡ 2 → rank t k (t.instruction k (at s k)) < rank t k (at s k)
  runs-less e = go (ℕ_discrete (t.instruction k (at s k)).registers.mode 2)
    where
      go : Dec ((t.instruction k (at s k)).registers.mode ≡ 2) → rank t k (t.instruction k (at s k)) < rank t k (at s k)
      go (yes g) = rw (e, g) (omega (arith, sim.bounded k e, l.limited k (at s k) e g, l.counted k (at s k) e g))
      go (no g) = rw (e, rank-off t k (t.instruction k (at s k)) (t.instruction k (at s k)).registers.mode (l.no_read k (at s k) e) g (l.no_write k (at s k) e)) (omega arith)

  calm-step : (Still (at s k) → ⊥) → (s' : State) (ts : List Taking) → Moves t k s s' ts → Calmer t k s s' ts
  unfolding read_next read_done write_next write_done byte_copied read_released write_released
  calm-step b s' ts (rests z) = absurd (b z.still)
  calm-step b s' ts (waits i z u) = absurd (b (go z))
    where
      go : Wants t k s → Still (at s k)
      go (inl e) = omega arith
      go (inr e) = omega arith
  calm-step b s' ts (takes_read r rs i f u e d) = absurd (b (omega arith))
  calm-step b s' ts (reads_on m ms i e d) = calmer _ s.plant.shared s.semaphore.holder i (rw e (omega (arith, fewer (at s k).registers.exchange (t.reads k) m ms d)))
  calm-step b s' ts (reads_last i e d) = calmer _ s.plant.shared 0 i (rw e (omega arith))
  calm-step b s' ts (runs i e) = calmer (t.instruction k (at s k)) s.plant.shared s.semaphore.holder i (runs-less e)
  calm-step b s' ts (takes_write i f u e) = absurd (b (omega arith))
  calm-step b s' ts (writes_on m ms i e d) = calmer _ _ s.semaphore.holder i (rw e (omega (arith, fewer (at s k).registers.exchange (t.writes k) m ms d)))
  calm-step b s' ts (writes_last i e d) = calmer (write_done (at s k)) _ 0 i (rw e (omega arith))

still? : (c : Core) → Dec (Still c)
still? c = go (ℕ_discrete c.registers.mode 1) (ℕ_discrete c.registers.mode 2) (ℕ_discrete c.registers.mode 4)
  where
    go : Dec (c.registers.mode ≡ 1) → Dec (c.registers.mode ≡ 2) → Dec (c.registers.mode ≡ 4) → Dec (Still c)
    go (yes a) y z = no (λ h. h.0 a)
    go (no a) (yes b) z = no (λ h. h.1 b)
    go (no a) (no b) (yes d) = no (λ h. h.2 d)
    go (no a) (no b) (no d) = yes (a, b, d)

-- steps with no taking, after which each core is still
pub record Settling (t : Task) (n : ℕ) (s : State) (w : Plant) : Type 0 where
  pub steps : List ℕ
  pub lawful : Below n steps
  pub none-taken : takings t steps s ≡ []
  pub sim : Sim t (run t steps s) w
  pub held : SemaphoreHeld (run t steps s)
  pub still : (j : ℕ) → Still (at (run t steps s) j)
  pub empty : (run t steps s).semaphore.line ≡ []

module _ (t : Task) (l : Laws t) (n k : ℕ) (i : k < n) where
  every-still : (s : State) → Still (at s k) → ((j : ℕ) → j ≢ k → Still (at s j)) → (j : ℕ) → Still (at s j)
  every-still s y others j = go (ℕ_discrete j k)
    where
      go : Dec (j ≡ k) → Still (at s j)
      go (yes e) = rw e y
      go (no d) = others j d

  settled-now : (s : State) (w : Plant) → Sim t s w → SemaphoreHeld s → s.semaphore.line ≡ [] → Still (at s k) → ((j : ℕ) → j ≢ k → Still (at s j)) → Settling t n s w
  settled-now s w sim x q y others = record { steps = []; lawful = tt; none-taken = refl; sim = sim; held = x; still = every-still s y others; empty = q }

  one_more : (s : State) → taking_of t k s ≡ [] → (w : Plant) → Settling t n (step t k s) w → Settling t n s w
  one_more s e w y = record { steps = k ∷ y.steps; lawful = (i, y.lawful); none-taken = rw e y.none-taken; sim = y.sim; held = y.held; still = y.still; empty = y.empty }

  pub settle : (f : ℕ) (s : State) (w : Plant) → Sim t s w → SemaphoreHeld s → s.semaphore.line ≡ [] → rank t k (at s k) ≤ f → ((j : ℕ) → j ≢ k → Still (at s j)) → Settling t n s w
  settle zero s w sim x q b others = go (still? (at s k))
    where
      go : Dec (Still (at s k)) → Settling t n s w
      go (yes y) = settled-now s w sim x q y others
      go (no u) = let c = calm-step t l k s w sim u (step t k s) (taking_of t k s) (view t k s) in absurd (omega (arith, c.less))
  settle (suc f) s w sim x q b others = go (still? (at s k)) (settle f (step t k s) w)
    where
      go : Dec (Still (at s k)) → (Sim t (step t k s) w → SemaphoreHeld (step t k s) → (step t k s).semaphore.line ≡ [] → rank t k (at (step t k s) k) ≤ f → ((j : ℕ) → j ≢ k → Still (at (step t k s) j)) → Settling t n (step t k s) w) → Settling t n s w
      go (yes y) again = settled-now s w sim x q y others
      go (no u) again =
          let c = calm-step t l k s w sim u (step t k s) (taking_of t k s) (view t k s) in
          one_more s c.none-taken w (again
          (rw c.none-taken at (sim-step t l k s w sim x))
          (held-step t l k s x)
          (c.same_line ∙ q)
          (omega (arith, c.less))
          (λ j d. rw (others-stay t k s j d) (others j d)))
