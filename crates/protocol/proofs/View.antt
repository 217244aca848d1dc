-- What a step does, as a list of cases with the facts of each: every proof about steps goes by these nine. Assumes nothing.
use mathlib.Core.Path.{◌≡◌, refl, sym, ◌∙◌}
use mathlib.Core.Logic.{◌≢◌, ◌⊎◌, inl, inr}
use mathlib.Core.Bool.{Bool, true, false}
use mathlib.Core.List.{List, [], ◌∷◌}
use Prim.Native.Nat.{ℕ, zero, suc, ◌≤◌, ◌<◌, suc-le-suc}
use native.Mathlib.Nat.{zero-lt-suc}
use native.Mathlib.Omega.{arith}
use borrow.Author.Tests.{ne_eqb}
use lib.Dec.{eqb}
use lib.ListN.{length, get_or, set, take, drop}
use lib.Seq.{get_or-set_same}
use Rattle.verdict.specs.Verdict.{pick}
use Rattle.protocol.specs.Modes.{stopped}
use Rattle.protocol.specs.Registers.{read_acquired, write_acquired}
use Rattle.protocol.specs.State.{Core, Semaphore, State, Move, Sample, Task, absent, core, mode}
use Rattle.protocol.specs.Step.{turn_in, turn, acquired_by, released, wait, copy, uncopied, read_taken, read_next, read_done, write_taken, write_next, write_done, take_read, read_on, take_write, write_on, step_in, step, Taking, reading, writing, taken, taking_of}
use Rattle.protocol.specs.Laws.{Still}

-- a core that is not stopped is there
pub inside : (l : List Core) (k m : ℕ) → mode (get_or l k absent) ≡ m → m < 5 → k < length l
inside [] k m e h = omega arith
inside (x ∷ xs) zero m e h = zero-lt-suc (length xs)
inside (x ∷ xs) (suc k) m e h = suc-le-suc (inside xs k m e h)

-- from mode 5 on no test of a mode below it holds, and a step changes nothing
pub past-modes : (m n : ℕ) → stopped ≤ m → n < stopped → eqb m n ≡ false
past-modes m n a b = ne_eqb m n (λ e. omega arith)

pub stopped-step : (m : ℕ) (t : Task) (k : ℕ) (c : Core) (s : State) → stopped ≤ m → step_in m t k c s ≡ s
unfolding pick
stopped-step m t k c s h =
    rw (past-modes m 0 h (omega arith), past-modes m 1 h (omega arith), past-modes m 2 h (omega arith), past-modes m 3 h (omega arith), past-modes m 4 h (omega arith))

stopped-takes : (m m' k : ℕ) → stopped ≤ m → taken m m' k ≡ []
unfolding pick
stopped-takes m m' k h = rw (past-modes m 0 h (omega arith), past-modes m 3 h (omega arith))

-- whose turn it is, for him the semaphore is free
pub turn-free : (h : ℕ) (xs : List ℕ) (k : ℕ) → turn_in h xs k ≡ true → h ≡ 0
turn-free zero xs k e = refl
turn-free (suc h) xs k e = let z : ◌≡◌ {A = ℕ} 0 1 = cc in absurd (omega arith)

pub filled : (r : Sample) (rs : List Sample) → r ∷ rs ≢ []
filled r rs z = let o : ◌≡◌ {A = ℕ} 0 1 = cc in omega arith

-- ---- the cases

-- s with core k, shared memory and semaphore replaced
abbrev pub after : State → ℕ → Core → List ℕ → Semaphore → State
after s k c sh h = record { plant = record { cores = set s.plant.cores k c; shared = sh }; semaphore = h }

-- core k in state s
abbrev pub at : State → ℕ → Core
at s k = core s.plant k

-- core k's data, or shared memory, with the next byte of its exchange
abbrev pub read_byte : Task → ℕ → State → List ℕ
read_byte t k s = copy (take 1 (uncopied (at s k) (t.reads k))) s.plant.shared (at s k).memory

abbrev pub write_byte : Task → ℕ → State → List ℕ
write_byte t k s = copy (take 1 (uncopied (at s k) (t.writes k))) (at s k).memory s.plant.shared

-- what stands at k after core k is replaced
pub there : (s : State) (k : ℕ) (c : Core) → k < length s.plant.cores → get_or (set s.plant.cores k c) k absent ≡ c
there s k c h = get_or-set_same s.plant.cores k c absent h

-- why a step of core k changes nothing: it is in no exchange or execution, does not wait to write, and if it is between cycles its records
-- are spent
pub record Idle (t : Task) (k : ℕ) (s : State) : Type 0 where
  pub still : Still (at s k)
  pub no_write : mode (at s k) ≢ 3
  pub no_read : mode (at s k) ≡ 0 → drop (at s k).registers.cycles (t.samples k) ≡ []

-- what core k waits for: it is between cycles with records left, or waits to write
abbrev pub Wants : Task → ℕ → State → Type 0
Wants t k s = ((mode (at s k) ≡ 0) × (drop (at s k).registers.cycles (t.samples k) ≢ [])) ⊎ (mode (at s k) ≡ 3)

-- a step of core k from s: the state after it and its taking, with what each case knows
pub data Moves (t : Task) (k : ℕ) (s : State) : State → List Taking → Type 0 where
  rests : Idle t k s → Moves t k s s []
  waits : k < length s.plant.cores → Wants t k s → turn s.semaphore k ≡ false → Moves t k s (wait k s) []
  takes_read : (r : Sample) (rs : List Sample) → k < length s.plant.cores → s.semaphore.holder ≡ 0 → turn s.semaphore k ≡ true → mode (at s k) ≡ 0 → drop (at s k).registers.cycles (t.samples k) ≡ r ∷ rs
      → Moves t k s (after s k (read_taken r (at s k)) s.plant.shared (acquired_by k s.semaphore)) (reading k ∷ [])
  reads_on : (m : Move) (ms : List Move) → k < length s.plant.cores → mode (at s k) ≡ 1 → drop 1 (uncopied (at s k) (t.reads k)) ≡ m ∷ ms
      → Moves t k s (after s k (read_next (read_byte t k s) (at s k)) s.plant.shared s.semaphore) []
  reads_last : k < length s.plant.cores → mode (at s k) ≡ 1 → drop 1 (uncopied (at s k) (t.reads k)) ≡ []
      → Moves t k s (after s k (read_done (read_byte t k s) (at s k)) s.plant.shared (released s.semaphore)) []
  runs : k < length s.plant.cores → mode (at s k) ≡ 2 → Moves t k s (after s k (t.instruction k (at s k)) s.plant.shared s.semaphore) []
  takes_write : k < length s.plant.cores → s.semaphore.holder ≡ 0 → turn s.semaphore k ≡ true → mode (at s k) ≡ 3
      → Moves t k s (after s k (write_taken (at s k)) s.plant.shared (acquired_by k s.semaphore)) (writing k ∷ [])
  writes_on : (m : Move) (ms : List Move) → k < length s.plant.cores → mode (at s k) ≡ 4 → drop 1 (uncopied (at s k) (t.writes k)) ≡ m ∷ ms
      → Moves t k s (after s k (write_next (at s k)) (write_byte t k s) s.semaphore) []
  writes_last : k < length s.plant.cores → mode (at s k) ≡ 4 → drop 1 (uncopied (at s k) (t.writes k)) ≡ []
      → Moves t k s (after s k (write_done (at s k)) (write_byte t k s) (released s.semaphore)) []

-- ---- every step is one of them

-- the step s' of core k, whose mode was m, and its taking
abbrev Seen : Task → ℕ → State → ℕ → State → Type 0
Seen t k s m s' = Moves t k s s' (taken m (mode (at s' k)) k)

module _ (t : Task) (k : ℕ) (s : State) where
  in-range : {m : ℕ} → mode (at s k) ≡ m → m < 5 → k < length s.plant.cores
  in-range {m} e h = inside s.plant.cores k m e h

  seen0 : mode (at s k) ≡ 0 → (rs : List Sample) → drop (at s k).registers.cycles (t.samples k) ≡ rs → (b : Bool) → turn s.semaphore k ≡ b → Seen t k s 0 (take_read rs b k (at s k) s)
  unfolding read_taken read_acquired pick
  seen0 e [] d h f = rw e (rests record { still = omega arith; no_write = omega arith; no_read = λ w. d })
  seen0 e (r ∷ rs) d true f = let i = in-range e (omega arith) in rw (there s k (read_taken r (at s k)) i) (takes_read r rs i (turn-free s.semaphore.holder s.semaphore.line k f) f e d)
  seen0 e (r ∷ rs) d false f = rw e (waits (in-range e (omega arith)) (inl (e, λ z. filled r rs (sym d ∙ z))) f)

  seen1 : mode (at s k) ≡ 1 → (ms : List Move) → drop 1 (uncopied (at s k) (t.reads k)) ≡ ms → Seen t k s 1 (read_on ms (read_byte t k s) k (at s k) s)
  unfolding pick
  seen1 e [] d = reads_last (in-range e (omega arith)) e d
  seen1 e (m ∷ ms) d = reads_on m ms (in-range e (omega arith)) e d

  seen3 : mode (at s k) ≡ 3 → (b : Bool) → turn s.semaphore k ≡ b → Seen t k s 3 (take_write b k (at s k) s)
  unfolding write_taken write_acquired pick
  seen3 e true f = let i = in-range e (omega arith) in rw (there s k (write_taken (at s k)) i) (takes_write i (turn-free s.semaphore.holder s.semaphore.line k f) f e)
  seen3 e false f = rw e (waits (in-range e (omega arith)) (inr e) f)

  seen4 : mode (at s k) ≡ 4 → (ms : List Move) → drop 1 (uncopied (at s k) (t.writes k)) ≡ ms → Seen t k s 4 (write_on ms (write_byte t k s) k (at s k) s)
  unfolding pick
  seen4 e [] d = writes_last (in-range e (omega arith)) e d
  seen4 e (m ∷ ms) d = writes_on m ms (in-range e (omega arith)) e d

  seen : (m : ℕ) → mode (at s k) ≡ m → Seen t k s m (step_in m t k (at s k) s)
  unfolding pick
  seen zero e = seen0 e _ refl _ refl
  seen (suc zero) e = seen1 e _ refl
  seen (suc (suc zero)) e = runs (in-range e (omega arith)) e
  seen (suc (suc (suc zero))) e = seen3 e _ refl
  seen (suc (suc (suc (suc zero)))) e = seen4 e _ refl
  seen (suc (suc (suc (suc (suc m))))) e =
      let h : stopped ≤ suc (suc (suc (suc (suc m)))) = omega arith in
      rw (stopped-step _ t k (at s k) s h, stopped-takes _ (mode (at s k)) k h) (rests record { still = omega arith; no_write = omega arith; no_read = λ w. absurd (omega arith) })

  pub view : Moves t k s (step t k s) (taking_of t k s)
  unfolding step taking_of
  view = seen (mode (at s k)) refl
