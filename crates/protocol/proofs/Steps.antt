-- What every step keeps. In order: a fact of each core; lists of steps; the other cores; lengths; the semaphore; modes. Assumes nothing.
use mathlib.Core.Path.{◌≡◌, refl, sym, ap, ◌∙◌}
use mathlib.Core.Logic.{◌≢◌, ◌⊎◌, inl, inr}
use mathlib.Core.List.{List, [], ◌∷◌, ◌++◌, append_assoc}
use Prim.Native.Nat.{ℕ, suc, ◌≤◌, ◌<◌}
use native.Mathlib.Decide.{ℕ_discrete}
use native.Mathlib.Omega.{arith}
use lib.ListN.{length, get_or, set, take, length-set}
use lib.Seq.{get_or-set_same, get_or-set_other}
use Rattle.memory.proofs.Laws.{length-splice}
use Rattle.protocol.specs.Registers.{read_acquired, byte_copied, read_released, write_acquired, write_released}
use Rattle.protocol.specs.State.{Core, Semaphore, State, Task, absent, core, mode}
use Rattle.protocol.specs.Step.{acquired_by, released, uncopied, read_taken, read_next, read_done, write_taken, write_next, write_done, step, run, Taking, taking_of, takings}
use Rattle.protocol.specs.Laws.{Laws, FreshStart, Holding, SemaphoreHeld}
use Rattle.protocol.proofs.View.{after, at, read_byte, write_byte, Moves, rests, waits, takes_read, reads_on, reads_last, runs, takes_write, writes_on, writes_last, view}
use Rattle.protocol.proofs.Copy.{copy-length}

-- ---- a fact of each core

-- what holds of the new core k and of all others holds of every core
pub each : (P : ℕ → Core → Type 0) (l : List Core) (k : ℕ) (c : Core) → k < length l → P k c
    → ((j : ℕ) → j ≢ k → P j (get_or l j absent)) → (j : ℕ) → P j (get_or (set l k c) j absent)
each P l k c i h o j = go (ℕ_discrete j k)
  where
    go : Dec (j ≡ k) → P j (get_or (set l k c) j absent)
    go (yes e) = rw (e, get_or-set_same l k c absent i) h
    go (no n) = rw (get_or-set_other l k j c absent n) (o j n)

-- ---- lists of steps

pub run-append : (t : Task) (js ks : List ℕ) (s : State) → run t (js ++ ks) s ≡ run t ks (run t js s)
run-append t [] ks s = refl
run-append t (j ∷ js) ks s = run-append t js ks (step t j s)

pub takings-append : (t : Task) (js ks : List ℕ) (s : State) → takings t (js ++ ks) s ≡ takings t js s ++ takings t ks (run t js s)
takings-append t [] ks s = refl
takings-append t (j ∷ js) ks s =
    ap (λ (xs : List Taking). taking_of t j s ++ xs) (takings-append t js ks (step t j s))
    ∙ sym (append_assoc (taking_of t j s) (takings t js (step t j s)) (takings t ks (run t js (step t j s))))

-- ---- the other cores

others : (t : Task) (k : ℕ) (s s' : State) (ts : List Taking) → Moves t k s s' ts → (j : ℕ) → j ≢ k → at s' j ≡ at s j
others t k s s' ts (rests z) j n = refl
others t k s s' ts (waits i wt b) j n = refl
others t k s s' ts (takes_read r rs i f b e d) j n = get_or-set_other s.plant.cores k j _ absent n
others t k s s' ts (reads_on m ms i e d) j n = get_or-set_other s.plant.cores k j _ absent n
others t k s s' ts (reads_last i e d) j n = get_or-set_other s.plant.cores k j _ absent n
others t k s s' ts (runs i e) j n = get_or-set_other s.plant.cores k j _ absent n
others t k s s' ts (takes_write i f b e) j n = get_or-set_other s.plant.cores k j _ absent n
others t k s s' ts (writes_on m ms i e d) j n = get_or-set_other s.plant.cores k j _ absent n
others t k s s' ts (writes_last i e d) j n = get_or-set_other s.plant.cores k j _ absent n

-- A step of core k changes no other core: neither its registers, nor its call stack, nor its data
pub others-stay : (t : Task) (k : ℕ) (s : State) (j : ℕ) → j ≢ k → core (step t k s).plant j ≡ core s.plant j
others-stay t k s j n = others t k s (step t k s) (taking_of t k s) (view t k s) j n

-- ---- lengths

pub record SameLengths (s s' : State) : Type 0 where
  pub cores : length s'.plant.cores ≡ length s.plant.cores
  pub memories : (k : ℕ) → length (at s' k).memory ≡ length (at s k).memory
  pub shared : length s'.plant.shared ≡ length s.plant.shared

module _ (t : Task) (l : Laws t) (k : ℕ) (s : State) where
  same-lengths : (c : Core) (sh : List ℕ) (h : Semaphore) → k < length s.plant.cores → length c.memory ≡ length (at s k).memory
      → length sh ≡ length s.plant.shared → SameLengths s (after s k c sh h)
  same-lengths c sh h i m e = record {
    cores = length-set s.plant.cores k c;
    memories = each (λ j x. length x.memory ≡ length (at s j).memory) s.plant.cores k c i m (λ j n. refl);
    shared = e;
  }

  read_length : length (read_byte t k s) ≡ length (at s k).memory
  read_length = copy-length (take 1 (uncopied (at s k) (t.reads k))) s.plant.shared (at s k).memory

  write-length : length (write_byte t k s) ≡ length s.plant.shared
  write-length = copy-length (take 1 (uncopied (at s k) (t.writes k))) (at s k).memory s.plant.shared

  lengths-of : (s' : State) (ts : List Taking) → Moves t k s s' ts → SameLengths s s'
  unfolding read_taken read_next read_done write_taken write_next write_done
  lengths-of s' ts (rests z) = record { cores = refl; memories = λ j. refl; shared = refl }
  lengths-of s' ts (waits i wt b) = record { cores = refl; memories = λ j. refl; shared = refl }
  lengths-of s' ts (takes_read r rs i f b e d) = same-lengths (read_taken r (at s k)) s.plant.shared (acquired_by k s.semaphore) i (length-splice (at s k).memory 0 r.input) refl
  lengths-of s' ts (reads_on m ms i e d) = same-lengths (read_next (read_byte t k s) (at s k)) s.plant.shared s.semaphore i read_length refl
  lengths-of s' ts (reads_last i e d) = same-lengths (read_done (read_byte t k s) (at s k)) s.plant.shared (released s.semaphore) i read_length refl
  lengths-of s' ts (runs i e) = same-lengths (t.instruction k (at s k)) s.plant.shared s.semaphore i (l.keeps k (at s k) e) refl
  lengths-of s' ts (takes_write i f b e) = same-lengths (write_taken (at s k)) s.plant.shared (acquired_by k s.semaphore) i refl refl
  lengths-of s' ts (writes_on m ms i e d) = same-lengths (write_next (at s k)) (write_byte t k s) s.semaphore i refl write-length
  lengths-of s' ts (writes_last i e d) = same-lengths (write_done (at s k)) (write_byte t k s) (released s.semaphore) i refl write-length

  -- A step keeps the number of cores, the size of each core's data and that of shared memory
  pub lengths : SameLengths s (step t k s)
  lengths = lengths-of (step t k s) (taking_of t k s) (view t k s)

pub lengths-run : (t : Task) → Laws t → (ks : List ℕ) (s : State) → SameLengths s (run t ks s)
lengths-run t l [] s = record { cores = refl; memories = λ j. refl; shared = refl }
lengths-run t l (k ∷ ks) s =
    let a = lengths t l k s in
    let b = lengths-run t l ks (step t k s) in
    record { cores = b.cores ∙ a.cores; memories = λ j. b.memories j ∙ a.memories j; shared = b.shared ∙ a.shared }

-- ---- the semaphore

neither : (m : ℕ) → m ≢ 1 → m ≢ 4 → (m ≡ 1) ⊎ (m ≡ 4) → ⊥
neither m a b (inl e) = a e
neither m a b (inr e) = b e

-- nobody else is in an exchange while core k is, and nobody while the semaphore is free
pub only : (s : State) → SemaphoreHeld s → (k : ℕ) → Holding (at s k) → (j : ℕ) → j ≢ k → Holding (at s j) → ⊥
only s x k y j n z = omega (arith, x.held k y, x.held j z)

pub nobody : (s : State) → SemaphoreHeld s → s.semaphore.holder ≡ 0 → (j : ℕ) → Holding (at s j) → ⊥
nobody s x f j z = omega (arith, x.held j z)

module _ (k : ℕ) (s : State) (x : SemaphoreHeld s) (c : Core) (sh : List ℕ) (i : k < length s.plant.cores) where
  held-taken : s.semaphore.holder ≡ 0 → Holding c → SemaphoreHeld (after s k c sh (acquired_by k s.semaphore))
  held-taken f y = record {
    held = each (λ j z. Holding z → suc k ≡ suc j) s.plant.cores k c i (λ z. refl) (λ j n z. absurd (nobody s x f j z));
    holding = each (λ j z. suc k ≡ suc j → Holding z) s.plant.cores k c i (λ e. y) (λ j n e. absurd (omega arith));
  }

  held_same : (Holding c → Holding (at s k)) → (Holding (at s k) → Holding c) → SemaphoreHeld (after s k c sh s.semaphore)
  held_same a b = record {
    held = each (λ j z. Holding z → s.semaphore.holder ≡ suc j) s.plant.cores k c i (λ z. x.held k (a z)) (λ j n z. x.held j z);
    holding = each (λ j z. s.semaphore.holder ≡ suc j → Holding z) s.plant.cores k c i (λ e. b (x.holding k e)) (λ j n e. x.holding j e);
  }

  held-freed : Holding (at s k) → (Holding c → ⊥) → SemaphoreHeld (after s k c sh (released s.semaphore))
  held-freed y a = record {
    held = each (λ j z. Holding z → 0 ≡ suc j) s.plant.cores k c i (λ z. absurd (a z)) (λ j n z. absurd (only s x k y j n z));
    holding = each (λ j z. 0 ≡ suc j → Holding z) s.plant.cores k c i (λ e. absurd (omega arith)) (λ j n e. absurd (omega arith));
  }

held_of : (t : Task) → Laws t → (k : ℕ) (s : State) → SemaphoreHeld s → (s' : State) (ts : List Taking) → Moves t k s s' ts → SemaphoreHeld s'
unfolding read_taken read_acquired read_next byte_copied read_done read_released write_taken write_acquired write_next write_done write_released
held_of t l k s x s' ts (rests z) = x
held_of t l k s x s' ts (waits i wt b) = record { held = λ j z. x.held j z; holding = λ j e. x.holding j e }
held_of t l k s x s' ts (takes_read r rs i f b e d) = held-taken k s x (read_taken r (at s k)) s.plant.shared i f (inl refl)
held_of t l k s x s' ts (reads_on m ms i e d) = held_same k s x (read_next (read_byte t k s) (at s k)) s.plant.shared i (λ z. z) (λ z. z)
held_of t l k s x s' ts (reads_last i e d) = held-freed k s x (read_done (read_byte t k s) (at s k)) s.plant.shared i (inl e) (neither 2 (omega arith) (omega arith))
held_of t l k s x s' ts (runs i e) =
    held_same k s x (t.instruction k (at s k)) s.plant.shared i
    (λ z. absurd (neither (mode (t.instruction k (at s k))) (l.no_read k (at s k) e) (l.no_write k (at s k) e) z))
    (λ z. absurd (neither (mode (at s k)) (omega arith) (omega arith) z))
held_of t l k s x s' ts (takes_write i f b e) = held-taken k s x (write_taken (at s k)) s.plant.shared i f (inr refl)
held_of t l k s x s' ts (writes_on m ms i e d) = held_same k s x (write_next (at s k)) (write_byte t k s) i (λ z. z) (λ z. z)
held_of t l k s x s' ts (writes_last i e d) = held-freed k s x (write_done (at s k)) (write_byte t k s) i (inr e) (neither 0 (omega arith) (omega arith))

pub held-step : (t : Task) → Laws t → (k : ℕ) (s : State) → SemaphoreHeld s → SemaphoreHeld (step t k s)
held-step t l k s x = held_of t l k s x (step t k s) (taking_of t k s) (view t k s)

pub held-fresh : (s : State) → FreshStart s → SemaphoreHeld s
held-fresh s f = record { held = λ k z. absurd (idle k (f.between k) z); holding = λ k e. absurd (omega (arith, f.free)) }
  where
    idle : (k : ℕ) → (mode (at s k) ≡ 0) ⊎ (mode (at s k) ≡ 5) → Holding (at s k) → ⊥
    idle k (inl e) = neither (mode (at s k)) (omega arith) (omega arith)
    idle k (inr e) = neither (mode (at s k)) (omega arith) (omega arith)

pub held_on : (t : Task) → Laws t → (ks : List ℕ) (s : State) → SemaphoreHeld s → SemaphoreHeld (run t ks s)
held_on t l [] s x = x
held_on t l (k ∷ ks) s x = held_on t l ks (step t k s) (held-step t l k s x)

-- After every list of steps from a fresh state, a core in an exchange holds the semaphore, and a holder is in an exchange
pub held-run : (t : Task) → Laws t → (s : State) → FreshStart s → (ks : List ℕ) → SemaphoreHeld (run t ks s)
held-run t l s f ks = held_on t l ks s (held-fresh s f)

-- At most one core is in an exchange
pub one-exchange : (t : Task) → Laws t → (s : State) → FreshStart s → (ks : List ℕ) (j k : ℕ)
    → Holding (at (run t ks s) j) → Holding (at (run t ks s) k) → j ≡ k
one-exchange t l s f ks j k y z = let x = held-run t l s f ks in omega (arith, x.held j y, x.held k z)

-- ---- modes

abbrev pub Modes : State → Type 0
Modes s = (k : ℕ) → mode (at s k) ≤ 5

module _ (t : Task) (l : Laws t) (k : ℕ) (s : State) (x : Modes s) where
  modes-with : (c : Core) (sh : List ℕ) (h : Semaphore) → k < length s.plant.cores → mode c ≤ 5 → Modes (after s k c sh h)
  modes-with c sh h i b = each (λ j z. mode z ≤ 5) s.plant.cores k c i b (λ j n. x j)

  modes-of : (s' : State) (ts : List Taking) → Moves t k s s' ts → Modes s'
  unfolding read_taken read_acquired read_next byte_copied read_done read_released write_taken write_acquired write_next write_done write_released
  modes-of s' ts (rests z) = x
  modes-of s' ts (waits i wt b) = x
  modes-of s' ts (takes_read r rs i f b e d) = modes-with (read_taken r (at s k)) s.plant.shared (acquired_by k s.semaphore) i (omega arith)
  modes-of s' ts (reads_on m ms i e d) = modes-with (read_next (read_byte t k s) (at s k)) s.plant.shared s.semaphore i (x k)
  modes-of s' ts (reads_last i e d) = modes-with (read_done (read_byte t k s) (at s k)) s.plant.shared (released s.semaphore) i (omega arith)
  modes-of s' ts (runs i e) = modes-with (t.instruction k (at s k)) s.plant.shared s.semaphore i (l.modes k (at s k) e)
  modes-of s' ts (takes_write i f b e) = modes-with (write_taken (at s k)) s.plant.shared (acquired_by k s.semaphore) i (omega arith)
  modes-of s' ts (writes_on m ms i e d) = modes-with (write_next (at s k)) (write_byte t k s) s.semaphore i (x k)
  modes-of s' ts (writes_last i e d) = modes-with (write_done (at s k)) (write_byte t k s) (released s.semaphore) i (omega arith)

-- Modes stay at most 5
pub modes-run : (t : Task) → Laws t → (ks : List ℕ) (s : State) → Modes s → Modes (run t ks s)
modes-run t l [] s x = x
modes-run t l (k ∷ ks) s x = modes-run t l ks (step t k s) (modes-of t l k s x (step t k s) (taking_of t k s) (view t k s))
