-- A whole cycle is steps of its core alone: from a state at rest, a core with a record left comes to rest again, by one reading and at most one
-- writing. In order: a core alone; writing; execution; reading; a cycle; orders of cycles. Not here: which order a run ends
-- as (crate protocol, proofs/Cycles). Assumes nothing.
use mathlib.Core.Path.{◌≡◌, refl, sym, ap, ◌∙◌, subst}
use mathlib.Core.Bool.{false}
use mathlib.Core.Logic.{◌≢◌, ◌⊎◌, inl, inr}
use mathlib.Core.List.{List, [], ◌∷◌, ◌++◌}
use Prim.Native.Nat.{ℕ, zero, suc, ◌+◌, ◌-◌, ◌≤◌, ◌<◌}
use native.Mathlib.Nat.{le_refl}
use native.Mathlib.Decide.{ℕ_discrete}
use native.Mathlib.Omega.{arith}
use borrow.Author.Tests.{ne_eqb}
use lib.ListN.{length, drop, replicate, length-drop}
use Rattle.protocol.specs.Registers.{read_acquired, byte_copied, read_released, write_acquired, write_released}
use Rattle.verdict.proofs.Verdict.{absurd-bool}
use Rattle.protocol.specs.State.{Core, Plant, Semaphore, State, Task, core, mode, untaken}
use Rattle.protocol.specs.Step.{turn, read_taken, read_next, read_done, write_taken, write_next, write_done, step, run, Taking, reading, writing, taking_of, takings}
use Rattle.protocol.specs.Whole.{whole_one, whole}
use Rattle.protocol.specs.Laws.{Laws, FreshStart}
use Rattle.protocol.specs.Cycles.{cycle, cycles, EachRuns}
use Rattle.protocol.proofs.View.{after, at, read_byte, there, Wants, Moves, rests, waits, takes_read, reads_on, reads_last, runs, takes_write, writes_on, writes_last, view}
use Rattle.protocol.proofs.Steps.{others-stay, run-append}
use Rattle.protocol.proofs.Whole.{as-whole, between-still}
use Rattle.cycles.specs.Serial.{turns_of, Turns}

-- ---- a core alone

abbrev Rests : Core → Type 0
Rests c = (mode c ≡ 0) ⊎ (mode c ≡ 5)

-- by steps of its own, with these takings, core k comes to rest with a free semaphore and nobody in line
record Comes (t : Task) (k : ℕ) (s : State) (ts : List Taking) : Type 0 where
  steps : ℕ
  at_rest : Rests (at (run t (replicate steps k) s) k)
  free : (run t (replicate steps k) s).semaphore ≡ untaken
  taken : takings t (replicate steps k) s ≡ ts

module _ (t : Task) (k : ℕ) where
  here : (s : State) → Rests (at s k) → s.semaphore ≡ untaken → Comes t k s []
  here s r f = record { steps = 0; at_rest = r; free = f; taken = refl }

  -- after one step more
  on : (s : State) (xs ts : List Taking) → taking_of t k s ≡ xs → Comes t k (step t k s) ts → Comes t k s (xs ++ ts)
  on s xs ts e c = record { steps = suc c.steps; at_rest = c.at_rest; free = c.free; taken = ap (λ (l : List Taking). l ++ takings t (replicate c.steps k) (step t k s)) e ∙ ap (λ (l : List Taking). xs ++ l) c.taken }

  -- a core waits only in mode 0 or 3, and out of its turn
  not-waiting : (s : State) → Wants t k s → mode (at s k) ≢ 0 → mode (at s k) ≢ 3 → ⊥
  not-waiting s (inl w) a b = a w.0
  not-waiting s (inr w) a b = b w

  its-turn : (s : State) → s.semaphore ≡ untaken → turn s.semaphore k ≡ false → ⊥
  its-turn s f g = absurd-bool (sym g ∙ ap (λ (m : Semaphore). turn m k) f)

  -- nobody in line after a taking and after a release
  after-taking : (s : State) → s.semaphore ≡ untaken → drop 1 s.semaphore.line ≡ []
  after-taking s f = ap (λ (m : Semaphore). drop 1 m.line) f

  after-release : (s : State) → s.semaphore.line ≡ [] → ◌≡◌ {A = Semaphore} record { holder = 0; line = s.semaphore.line } untaken
  after-release s f = λ z. record { holder = 0; line = f z }

  -- ---- writing

  -- the bytes that core k has to write, and to read, yet
  to_write : State → ℕ
  to_write s = length (t.writes k) - (at s k).registers.exchange

  to_read : State → ℕ
  to_read s = length (t.reads k) - (at s k).registers.exchange

  writes_one : (s : State) → mode (at s k) ≡ 4 → s.semaphore.line ≡ []
      → ((s' : State) → mode (at s' k) ≡ 4 → s'.semaphore.line ≡ [] → to_write s' < to_write s → Comes t k s' [])
      → (s' : State) (xs : List Taking) → Moves t k s s' xs → (xs ≡ []) × Comes t k s' []
  unfolding write_next byte_copied write_done write_released to_write
  writes_one s e f more s' xs (rests z) = absurd (z.still.2 e)
  writes_one s e f more s' xs (waits i w g) = absurd (not-waiting s w (omega arith) (omega arith))
  writes_one s e f more s' xs (takes_read r rs i h g e' d) = absurd (omega arith)
  writes_one s e f more s' xs (reads_on m ms i e' d) = absurd (omega arith)
  writes_one s e f more s' xs (reads_last i e' d) = absurd (omega arith)
  writes_one s e f more s' xs (runs i e') = absurd (omega arith)
  writes_one s e f more s' xs (takes_write i h g e') = absurd (omega arith)
  writes_one s e f more s' xs (writes_on m ms i e' d) =
      let c = there s k (write_next (at s k)) i in
      (refl, more s' (ap mode c ∙ e) f (rw c (omega (arith, simp length-drop at (ap length d)))))
  writes_one s e f more s' xs (writes_last i e' d) = (refl, here s' (inl (ap mode (there s k (write_done (at s k)) i))) (after-release s f))

  writes : (n : ℕ) (s : State) → mode (at s k) ≡ 4 → s.semaphore.line ≡ [] → to_write s ≤ n → Comes t k s []
  writes zero s e f h = let r = writes_one s e f (λ s' e' f' l. absurd (omega arith)) (step t k s) (taking_of t k s) (view t k s) in on s [] [] r.0 r.1
  writes (suc n) s e f h = let r = writes_one s e f (λ s' e' f' l. writes n s' e' f' (omega arith)) (step t k s) (taking_of t k s) (view t k s) in on s [] [] r.0 r.1

  comes-to-write : (s : State) → mode (at s k) ≡ 3 → s.semaphore ≡ untaken → Comes t k s (writing k ∷ [])
  unfolding write_taken write_acquired
  comes-to-write s e f = let r = go (step t k s) (taking_of t k s) (view t k s) in on s (writing k ∷ []) [] r.0 r.1
    where
      go : (s' : State) (xs : List Taking) → Moves t k s s' xs → (xs ≡ writing k ∷ []) × Comes t k s' []
      go s' xs (rests z) = absurd (z.no_write e)
      go s' xs (waits i w g) = absurd (its-turn s f g)
      go s' xs (takes_read r rs i h g e' d) = absurd (omega arith)
      go s' xs (reads_on m ms i e' d) = absurd (omega arith)
      go s' xs (reads_last i e' d) = absurd (omega arith)
      go s' xs (runs i e') = absurd (omega arith)
      go s' xs (takes_write i h g e') = (refl, writes (to_write s') s' (ap mode (there s k (write_taken (at s k)) i)) (after-taking s f) (le_refl _))
      go s' xs (writes_on m ms i e' d) = absurd (omega arith)
      go s' xs (writes_last i e' d) = absurd (omega arith)

  -- ---- execution: to a writing, or to a fault

  abbrev Finishes : State → Type 0
  Finishes s = Comes t k s [] ⊎ Comes t k s (writing k ∷ [])

  -- after a step without a taking
  on-to : (s : State) → taking_of t k s ≡ [] → Finishes (step t k s) → Finishes s
  on-to s e (inl c) = inl (on s [] [] e c)
  on-to s e (inr c) = inr (on s [] (writing k ∷ []) e c)

  module _ (l : Laws t) where
    executes-one : (s : State) → mode (at s k) ≡ 2 → s.semaphore ≡ untaken
        → ((s' : State) → mode (at s' k) ≡ 2 → s'.semaphore ≡ untaken → (at s' k).registers.count ≡ (at s k).registers.count + 1 → (at s k).registers.count ≢ t.limit k → Finishes s')
        → (s' : State) (xs : List Taking) → Moves t k s s' xs → (xs ≡ []) × Finishes s'
    executes-one s e f more s' xs (rests z) = absurd (z.still.1 e)
    executes-one s e f more s' xs (waits i w g) = absurd (not-waiting s w (omega arith) (omega arith))
    executes-one s e f more s' xs (takes_read r rs i h g e' d) = absurd (omega arith)
    executes-one s e f more s' xs (reads_on m ms i e' d) = absurd (omega arith)
    executes-one s e f more s' xs (reads_last i e' d) = absurd (omega arith)
    executes-one s e f more s' xs (takes_write i h g e') = absurd (omega arith)
    executes-one s e f more s' xs (writes_on m ms i e' d) = absurd (omega arith)
    executes-one s e f more s' xs (writes_last i e' d) = absurd (omega arith)
    executes-one s e f more s' xs (runs i e') = (refl, go (ℕ_discrete (mode c) 2) (ℕ_discrete (mode c) 3))
      where
        c : Core
        c = t.instruction k (at s k)

        same : at (after s k c s.plant.shared s.semaphore) k ≡ c
        same = there s k c i

        go : Dec (mode c ≡ 2) → Dec (mode c ≡ 3) → Finishes (after s k c s.plant.shared s.semaphore)
        go (yes m) d = more _ (ap mode same ∙ m) f (ap (λ (x : Core). x.registers.count) same ∙ l.counted k (at s k) e m) (l.limited k (at s k) e m)
        go (no n) (yes m) = inr (comes-to-write _ (ap mode same ∙ m) f)
        go (no n) (no m) =
            let five : mode c ≡ 5 = omega (arith, l.modes k (at s k) e, l.no-idle k (at s k) e, l.no_read k (at s k) e, l.no_write k (at s k) e) in
            inl (here _ (inr (ap mode same ∙ five)) f)

    -- limit + 1 instructions are enough
    executes : (n : ℕ) (s : State) → mode (at s k) ≡ 2 → s.semaphore ≡ untaken → (at s k).registers.count ≤ t.limit k → t.limit k - (at s k).registers.count ≤ n → Finishes s
    executes zero s e f b h =
        let r = executes-one s e f (λ s' e' f' c n. absurd (omega arith)) (step t k s) (taking_of t k s) (view t k s) in
        on-to s r.0 r.1
    executes (suc n) s e f b h =
        let r = executes-one s e f (λ s' e' f' c m. executes n s' e' f' (omega arith) (omega arith)) (step t k s) (taking_of t k s) (view t k s) in
        on-to s r.0 r.1

    -- ---- reading

    reads-one : (s : State) → mode (at s k) ≡ 1 → s.semaphore.line ≡ [] → ((s' : State) → mode (at s' k) ≡ 1 → s'.semaphore.line ≡ [] → to_read s' < to_read s → Finishes s')
        → (s' : State) (xs : List Taking) → Moves t k s s' xs → (xs ≡ []) × Finishes s'
    unfolding read_next byte_copied read_done read_released to_read
    reads-one s e f more s' xs (rests z) = absurd (z.still.0 e)
    reads-one s e f more s' xs (waits i w g) = absurd (not-waiting s w (omega arith) (omega arith))
    reads-one s e f more s' xs (takes_read r rs i h g e' d) = absurd (omega arith)
    reads-one s e f more s' xs (reads_on m ms i e' d) =
        let c = there s k (read_next (read_byte t k s) (at s k)) i in
        (refl, more s' (ap mode c ∙ e) f (rw c (omega (arith, simp length-drop at (ap length d)))))
    reads-one s e f more s' xs (reads_last i e' d) =
        let c = there s k (read_done (read_byte t k s) (at s k)) i in
        (refl, executes (t.limit k) s' (ap mode c) (after-release s f) (rw c (omega arith)) (omega arith))
    reads-one s e f more s' xs (runs i e') = absurd (omega arith)
    reads-one s e f more s' xs (takes_write i h g e') = absurd (omega arith)
    reads-one s e f more s' xs (writes_on m ms i e' d) = absurd (omega arith)
    reads-one s e f more s' xs (writes_last i e' d) = absurd (omega arith)

    reads : (n : ℕ) (s : State) → mode (at s k) ≡ 1 → s.semaphore.line ≡ [] → to_read s ≤ n → Finishes s
    reads zero s e f h = let r = reads-one s e f (λ s' e' f' l. absurd (omega arith)) (step t k s) (taking_of t k s) (view t k s) in on-to s r.0 r.1
    reads (suc n) s e f h = let r = reads-one s e f (λ s' e' f' l. reads n s' e' f' (omega arith)) (step t k s) (taking_of t k s) (view t k s) in on-to s r.0 r.1

    -- ---- a cycle

    starts : (s : State) → s.semaphore ≡ untaken → mode (at s k) ≡ 0 → drop (at s k).registers.cycles (t.samples k) ≢ []
        → (taking_of t k s ≡ reading k ∷ []) × Finishes (step t k s)
    unfolding read_taken read_acquired
    starts s f e left = go (step t k s) (taking_of t k s) (view t k s)
      where
        go : (s' : State) (xs : List Taking) → Moves t k s s' xs → (xs ≡ reading k ∷ []) × Finishes s'
        go s' xs (rests z) = absurd (left (z.no_read e))
        go s' xs (waits i w g) = absurd (its-turn s f g)
        go s' xs (takes_read r rs i h g e' d) = (refl, reads (to_read s') s' (ap mode (there s k (read_taken r (at s k)) i)) (after-taking s f) (le_refl _))
        go s' xs (reads_on m ms i e' d) = absurd (omega arith)
        go s' xs (reads_last i e' d) = absurd (omega arith)
        go s' xs (runs i e') = absurd (omega arith)
        go s' xs (takes_write i h g e') = absurd (omega arith)
        go s' xs (writes_on m ms i e' d) = absurd (omega arith)
        go s' xs (writes_last i e' d) = absurd (omega arith)

    others : (n : ℕ) (s : State) (j : ℕ) → j ≢ k → at (run t (replicate n k) s) j ≡ at s j
    others zero s j m = refl
    others (suc n) s j m = others n (step t k s) j m ∙ others-stay t k s j m

    -- the core alone leaves a state at rest
    rest-after : (s : State) (xs : List Taking) (c : Comes t k s xs) → FreshStart s → FreshStart (run t (replicate c.steps k) s)
    rest-after s xs c f = record { free = ap (λ (m : Semaphore). m.holder) c.free; between = λ j. go j (ℕ_discrete j k); empty = ap (λ (m : Semaphore). m.line) c.free }
      where
        go : (j : ℕ) → Dec (j ≡ k) → Rests (at (run t (replicate c.steps k) s) j)
        go j (yes e) = subst (λ (i : ℕ). Rests (at (run t (replicate c.steps k) s) i)) (sym e) c.at_rest
        go j (no n) = subst Rests (sym (others c.steps s j n)) (f.between j)

    -- and all of it but the semaphore as the whole-exchange machine
    plant-after : (s : State) (xs : List Taking) (c : Comes t k s xs) → FreshStart s → (run t (replicate c.steps k) s).plant ≡ whole t xs s.plant
    plant-after s xs c f =
        as-whole t l s f (replicate c.steps k) (λ j. between-still (at (run t (replicate c.steps k) s) j) ((rest-after s xs c f).between j))
        ∙ ap (λ (ts : List Taking). whole t ts s.plant) c.taken

    -- a core at rest writes nothing
    no_write : (p : Plant) → Rests (core p k) → whole_one t (writing k) p ≡ p
    unfolding whole_one
    no_write p r = rw (ne_eqb (mode (core p k)) 3 (go r))
      where
        go : Rests (core p k) → mode (core p k) ≢ 3
        go (inl e) = omega arith
        go (inr e) = omega arith

    -- by steps of core k alone, a whole cycle of it, and a state at rest again
    abbrev Cycled : State → Type 0
    Cycled s = (n : ℕ) × (run t (replicate n k) s ≡ record { plant = cycle t k s.plant; semaphore = untaken }) × FreshStart (run t (replicate n k) s)

    one-cycle : (s : State) → FreshStart s → mode (at s k) ≡ 0 → drop (at s k).registers.cycles (t.samples k) ≢ [] → Cycled s
    unfolding cycle
    one-cycle s f e left = let r = starts s (λ z. record { holder = f.free z; line = f.empty z }) e left in go r.0 r.1
      where
        ends : (xs : List Taking) (c : Comes t k s xs) → whole t xs s.plant ≡ whole_one t (writing k) (whole_one t (reading k) s.plant) → Cycled s
        ends xs c w = let p = plant-after s xs c f ∙ w in (c.steps, λ z. record { plant = p z; semaphore = c.free z }, rest-after s xs c f)

        faulted : (c : Comes t k s (reading k ∷ [])) → whole_one t (reading k) s.plant ≡ whole_one t (writing k) (whole_one t (reading k) s.plant)
        faulted c = sym (no_write (whole_one t (reading k) s.plant) (subst (λ (p : Plant). Rests (core p k)) (plant-after s (reading k ∷ []) c f) c.at_rest))

        go : taking_of t k s ≡ reading k ∷ [] → Finishes (step t k s) → Cycled s
        go x (inl c) = let d = on s (reading k ∷ []) [] x c in ends (reading k ∷ []) d (faulted d)
        go x (inr c) = ends (reading k ∷ writing k ∷ []) (on s (reading k ∷ []) (writing k ∷ []) x c) refl

-- ---- orders of cycles

pub turns : (t : Task) → Laws t → (order : List ℕ) (s : State) → FreshStart s → EachRuns t order s.plant → (ns : List ℕ) × Turns t order ns s
turns t l [] s f r = ([], tt)
turns t l (k ∷ order) s f r =
    let c : Cycled t k l s = one-cycle t k l s f r.0 r.1 in
    let x : (ns : List ℕ) × Turns t order ns (run t (replicate c.0 k) s) =
    turns t l order (run t (replicate c.0 k) s) c.2 (subst (λ (s : State). EachRuns t order s.plant) (sym c.1) r.2) in
    (c.0 ∷ x.0, (c.1, x.1))

-- the turns one after another end as the cycles
pub turns-end : (t : Task) (order ns : List ℕ) (s : State) → s.semaphore ≡ untaken → Turns t order ns s → run t (turns_of order ns) s ≡ record { plant = cycles t order s.plant; semaphore = untaken }
turns-end t [] [] s f x = λ z. record { plant = s.plant; semaphore = f z }
turns-end t [] (n ∷ ns) s f x = absurd x
turns-end t (k ∷ order) [] s f x = absurd x
turns-end t (k ∷ order) (n ∷ ns) s f x =
    run-append t (replicate n k) (turns_of order ns) s
    ∙ turns-end t order ns (run t (replicate n k) s) (ap (λ (s : State). s.semaphore) x.0) x.1
    ∙ ap (λ (s : State). record { plant = cycles t order s.plant; semaphore = untaken }) x.0
