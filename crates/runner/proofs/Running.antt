-- One turn of a run: a step's effect put into the core table, the call stacks, the data buffer and the order list. In order: the state; the
-- order list; one turn of the invariant; the order.
-- Assumes nothing.
use mathlib.Core.Path.{◌≡◌, refl, sym, ap, ap₂, ◌∙◌, subst}
use mathlib.Core.Logic.{◌≢◌}
use mathlib.Core.List.{List, [], ◌∷◌, ◌++◌, map, map-append}
use Prim.Native.Nat.{ℕ, zero, suc, ◌+◌, ◌-◌, ◌≤◌, ◌<◌}
use native.Mathlib.Omega.{arith}
use native.Mathlib.Nat.{le_of_suc-le-suc, not-suc-le-zero}
use mathlib.Core.Bool.{true}
use lib.Dec.{ltb}
use borrow.Author.Tests.{ltb-true}
use Rattle.verdict.proofs.Verdict.{both_true}
use Rattle.runner.specs.Runs.{all_below}
use native.Mathlib.Numerals.{add-one}
use lib.ListN.{length, get_or, set, take, drop, length-set, length-append, length-map}
use lib.Seq.{get_or-set_same, get_or-set_other, take-suc, drop-cons}
use Rattle.memory.specs.Memory.{splice, split}
use Rattle.memory.proofs.Laws.{splice-append, length-splice}
use Rattle.memory.proofs.Cores.{length-split}
use Rattle.protocol.specs.declared.Registers.{Registers}
use Rattle.protocol.specs.declared.Stack.{Stack}
use Rattle.protocol.specs.State.{Core, Semaphore, State, Task, absent, core}
use Rattle.protocol.specs.Step.{step, run, Taking, taking_of, takings, encoded, order_list}
use Rattle.protocol.proofs.Steps.{run-append}
use Rattle.records.specs.File.{cores, data_size}
use Rattle.taskset.specs.Task.{listed, sizes_of}
use Rattle.taskset.proofs.Accepted.{length-listed, listed_at}
use Rattle.states.proofs.Tables.{listed-set}
use Rattle.states.specs.Task.{task_of}
use Rattle.states.specs.Machine.{no_registers, stack_in, core_in, state_in}
use Rattle.states.specs.Fit.{Fit}
use Rattle.states.specs.Set.{AcceptedSet}
use Rattle.runner.specs.Running.{Running}
use Rattle.steps.specs.Effects.{Effect, registers_by, stack_by, semaphore_by, taken_by, effected, Does}
use Rattle.states.proofs.Kept.{Executes, fit-kept}

-- ---- the state

-- core k of a state from its parts
pub core-in : (f : List ℕ) (cs : List Registers) (places offsets : List ℕ) (h : Semaphore) (d sh : List ℕ) (k : ℕ) → k < cores f
    → core (state_in f cs places offsets h d sh).plant k ≡ core_in f cs places offsets d k
unfolding state_in
core-in f cs places offsets h d sh k i = listed_at (core_in f cs places offsets d) (cores f) k absent i

pub cores-in : (f : List ℕ) (cs : List Registers) (places offsets : List ℕ) (h : Semaphore) (d sh : List ℕ) → length (state_in f cs places offsets h d sh).plant.cores ≡ cores f
unfolding state_in
cores-in f cs places offsets h d sh = length-listed (core_in f cs places offsets d) (cores f) 0

pub shared-in : (f : List ℕ) (cs : List Registers) (places offsets : List ℕ) (h : Semaphore) (d sh : List ℕ) → (state_in f cs places offsets h d sh).plant.shared ≡ sh
unfolding state_in
shared-in f cs places offsets h d sh = refl

pub semaphore-in : (f : List ℕ) (cs : List Registers) (places offsets : List ℕ) (h : Semaphore) (d sh : List ℕ) → (state_in f cs places offsets h d sh).semaphore ≡ h
unfolding state_in
semaphore-in f cs places offsets h d sh = refl

same-core : {a b : Registers} {c d : Stack} {l m : List ℕ} → a ≡ b → c ≡ d → l ≡ m
    → ◌≡◌ {A = Core} record { registers = a; stack = c; memory = l } record { registers = b; stack = d; memory = m }
same-core p q r = λ i. record { registers = p i; stack = q i; memory = r i }

length-sizes : (f : List ℕ) → length (sizes_of f) ≡ cores f
unfolding sizes_of
length-sizes f = length-listed (data_size f) (cores f) 0

-- The parts after an effect of core k: its registers, its stack and its data change, those of other cores stay
pub record Put (f : List ℕ) (k : ℕ) (z : Effect) (m : List ℕ) (cs : List Registers) (places offsets : List ℕ) (h : Semaphore) (d : List ℕ)
    (cs' : List Registers) (places' offsets' : List ℕ) (h' : Semaphore) (d' : List ℕ) : Type 0 where
  pub registers : cs' ≡ set cs k (registers_by z (core_in f cs places offsets d k))
  pub stack : stack_in places' offsets' k ≡ stack_by z (core_in f cs places offsets d k)
  pub stacks : (j : ℕ) → j ≢ k → stack_in places' offsets' j ≡ stack_in places offsets j
  pub semaphore : h' ≡ semaphore_by z k h
  pub memory : split (sizes_of f) d' ≡ set (split (sizes_of f) d) k m

module _ (f : List ℕ) (k : ℕ) (z : Effect) (m sh sh' : List ℕ) (cs : List Registers) (places offsets : List ℕ) (h : Semaphore) (d : List ℕ)
    (cs' : List Registers) (places' offsets' : List ℕ) (h' : Semaphore) (d' : List ℕ) where
  pub put-effected : k < cores f → cores f ≤ length cs → Put f k z m cs places offsets h d cs' places' offsets' h' d'
      → state_in f cs' places' offsets' h' d' sh' ≡ effected z k m sh' (state_in f cs places offsets h d sh)
  unfolding state_in effected
  put-effected i n p =
      let c : core (state_in f cs places offsets h d sh).plant k ≡ core_in f cs places offsets d k = core-in f cs places offsets h d sh k i in
      ap₂ (λ (l : List Core) (u : Semaphore). record { plant = record { cores = l; shared = sh' }; semaphore = u })
      (listed-set (core_in f cs places offsets d) (core_in f cs' places' offsets' d') (cores f) k _ i (here c) others)
      p.semaphore
    where
      here : core (state_in f cs places offsets h d sh).plant k ≡ core_in f cs places offsets d k
          → core_in f cs' places' offsets' d' k ≡ record {
            registers = registers_by z (core (state_in f cs places offsets h d sh).plant k);
            stack = stack_by z (core (state_in f cs places offsets h d sh).plant k);
            memory = m;
          }
      here c =
          same-core
          (ap (λ (l : List Registers). get_or l k no_registers) p.registers ∙ get_or-set_same cs k (registers_by z (core_in f cs places offsets d k)) no_registers (omega arith) ∙ ap (registers_by z) (sym c))
          (p.stack ∙ ap (stack_by z) (sym c))
          (ap (λ (l : List (List ℕ)). get_or l k []) p.memory ∙ get_or-set_same (split (sizes_of f) d) k m [] (rw (length-split (sizes_of f) d, length-sizes f) i))

      others : (j : ℕ) → j ≢ k → core_in f cs' places' offsets' d' j ≡ core_in f cs places offsets d j
      others j q =
          same-core
          (ap (λ (l : List Registers). get_or l j no_registers) p.registers ∙ get_or-set_other cs k j (registers_by z (core_in f cs places offsets d k)) no_registers q)
          (p.stacks j q)
          (ap (λ (l : List (List ℕ)). get_or l j []) p.memory ∙ get_or-set_other (split (sizes_of f) d) k j m [] q)

-- ---- the order list

-- what a step writes to the list, and what is left to write after it
pub list_on : (t : Task) (k : ℕ) (ks : List ℕ) (s : State) (list : List ℕ) (n : ℕ) (xs : List Taking) → taking_of t k s ≡ xs
    → splice (splice list n (map encoded xs)) (n + length xs) (order_list t ks (step t k s)) ≡ splice list n (order_list t (k ∷ ks) s)
list_on t k ks s list n xs e =
    ap (λ (i : ℕ). splice (splice list n (map encoded xs)) (n + i) (order_list t ks (step t k s))) (sym (length-map xs encoded))
    ∙ sym (splice-append list n (map encoded xs) (order_list t ks (step t k s)))
    ∙ ap (splice list n) (sym (map-append encoded xs (takings t ks (step t k s))))
    ∙ ap (λ (us : List Taking). splice list n (map encoded (us ++ takings t ks (step t k s)))) (sym e)

-- the takings counted so far and those to come
counts : (t : Task) (k : ℕ) (ks : List ℕ) (s s' : State) (n n' : ℕ) (xs : List Taking) → s' ≡ step t k s → taking_of t k s ≡ xs → n' ≡ n + length xs
    → n' + length (takings t ks s') ≡ n + length (takings t (k ∷ ks) s)
counts t k ks s s' n n' xs e f g =
    let a : length (takings t (k ∷ ks) s) ≡ length xs + length (takings t ks (step t k s)) = length-append (taking_of t k s) (takings t ks (step t k s)) ∙ ap (λ (us : List Taking). length us + length (takings t ks (step t k s))) f in
    let b : length (takings t ks s') ≡ length (takings t ks (step t k s)) = ap (λ (u : State). length (takings t ks u)) e in
    omega arith

-- ---- the invariant

-- the rest of the order from step i on: that step, then the rest
rest_from : (order : List ℕ) (i k : ℕ) → i < length order → get_or order i 0 ≡ k → drop i order ≡ k ∷ drop (i + 1) order
rest_from order i k h e = drop-cons order i 0 h ∙ rw (e, ← add-one i)

front-to : (order : List ℕ) (i k : ℕ) → i < length order → get_or order i 0 ≡ k → take (i + 1) order ≡ take i order ++ (k ∷ [])
front-to order i k h e = ap (λ (n : ℕ). take n order) (add-one i) ∙ take-suc order i 0 h ∙ ap (λ (j : ℕ). take i order ++ (j ∷ [])) e

module _ (f t : List ℕ) (ok : AcceptedSet f t) (ex : Executes f t) where
  -- the effect z of core k, with the data m of core k and the shared memory sh' afterwards, is its step
  next-state : (cs : List Registers) (places offsets : List ℕ) (h : Semaphore) (d sh : List ℕ) (k : ℕ) → k < cores f → cores f ≤ length cs
      → (z : Effect) (m sh' : List ℕ) (cs' : List Registers) (places' offsets' : List ℕ) (h' : Semaphore) (d' : List ℕ)
      → Does (task_of f t) k (get_or cs k no_registers) (get_or (split (sizes_of f) d) k []) sh h z m sh'
      → Put f k z m cs places offsets h d cs' places' offsets' h' d'
      → (state_in f cs' places' offsets' h' d' sh' ≡ step (task_of f t) k (state_in f cs places offsets h d sh)) × (taking_of (task_of f t) k (state_in f cs places offsets h d sh) ≡ taken_by z k)
  next-state cs places offsets h d sh k i n z m sh' cs' places' offsets' h' d' y p =
      let c : core (state_in f cs places offsets h d sh).plant k ≡ core_in f cs places offsets d k = core-in f cs places offsets h d sh k i in
      let l : k < length (state_in f cs places offsets h d sh).plant.cores = rw (cores-in f cs places offsets h d sh) i in
      let a : (core (state_in f cs places offsets h d sh).plant k).registers ≡ get_or cs k no_registers = ap (λ (x : Core). x.registers) c in
      let b : (core (state_in f cs places offsets h d sh).plant k).memory ≡ get_or (split (sizes_of f) d) k [] = ap (λ (x : Core). x.memory) c in (
        put-effected f k z m sh sh' cs places offsets h d cs' places' offsets' h' d' i n p ∙ y.moves (state_in f cs places offsets h d sh) l a b (shared-in f cs places offsets h d sh) (semaphore-in f cs places offsets h d sh),
        y.takes (state_in f cs places offsets h d sh) l a b (shared-in f cs places offsets h d sh) (semaphore-in f cs places offsets h d sh),
      )

-- One turn of a run
module _ (f t : List ℕ) (ok : AcceptedSet f t) (ex : Executes f t) (order list₀ : List ℕ) (s₀ : State) (cs₀ : List Registers) (places₀ offsets₀ : List ℕ) where
  pub running-on : (i : ℕ) (cs : List Registers) (places offsets : List ℕ) (h : Semaphore) (taken : ℕ) (d sh list : List ℕ)
      → Running f t order list₀ s₀ cs₀ places₀ offsets₀ i cs places offsets h taken d sh list
      → i < length order → (k : ℕ) → get_or order i 0 ≡ k → k < cores f → cores f ≤ 4
      → (z : Effect) (m sh' : List ℕ) (cs' : List Registers) (places' offsets' : List ℕ) (h' : Semaphore) (taken' : ℕ) (d' list' : List ℕ)
      → Does (task_of f t) k (get_or cs k no_registers) (get_or (split (sizes_of f) d) k []) sh h z m sh'
      → Put f k z m cs places offsets h d cs' places' offsets' h' d'
      → list' ≡ splice list taken (map encoded (taken_by z k)) → taken' ≡ taken + length (taken_by z k) → length (taken_by z k) ≤ 1
      → (length places' ≡ 64) × (length offsets' ≡ 64) → length d' ≡ length d
      → Running f t order list₀ s₀ cs₀ places₀ offsets₀ (i + 1) cs' places' offsets' h' taken' d' sh' list'
  running-on i cs places offsets h taken d sh list w b k e ik n4 z m sh' cs' places' offsets' h' taken' d' list' y p le te one en dl =
      let q = next-state f t ok ex cs places offsets h d sh k ik (rw w.four n4) z m sh' cs' places' offsets' h' d' y p in
      let r : drop i order ≡ k ∷ drop (i + 1) order = rest_from order i k b e in
      record {
        within = omega arith;
        reached = ap (λ (ks : List ℕ). run (task_of f t) ks s₀) (front-to order i k b e) ∙ run-append (task_of f t) (take i order) (k ∷ []) s₀ ∙ ap (step (task_of f t) k) w.reached ∙ sym q.0;
        rest = ap (run (task_of f t) (drop (i + 1) order)) q.0 ∙ ap (λ (ks : List ℕ). run (task_of f t) ks (state_in f cs places offsets h d sh)) (sym r) ∙ w.rest;
        listed =
            ap₂ (λ (l : List ℕ) (n : ℕ). splice l n (order_list (task_of f t) (drop (i + 1) order) (state_in f cs' places' offsets' h' d' sh'))) le te
            ∙ ap (λ (s : State). splice (splice list taken (map encoded (taken_by z k))) (taken + length (taken_by z k)) (order_list (task_of f t) (drop (i + 1) order) s)) q.0
            ∙ list_on (task_of f t) k (drop (i + 1) order) (state_in f cs places offsets h d sh) list taken (taken_by z k) q.1
            ∙ ap (λ (ks : List ℕ). splice list taken (order_list (task_of f t) ks (state_in f cs places offsets h d sh))) (sym r)
            ∙ w.listed;
        counted = counts (task_of f t) k (drop (i + 1) order) (state_in f cs places offsets h d sh) (state_in f cs' places' offsets' h' d' sh') taken taken' (taken_by z k) q.0 q.1 te
            ∙ ap (λ (ks : List ℕ). taken + length (takings (task_of f t) ks (state_in f cs places offsets h d sh))) (sym r) ∙ w.counted;
        room = omega (arith, w.room);
        fit = subst (Fit f t) (sym q.0) (fit-kept f t ok ex k (state_in f cs places offsets h d sh) w.fit);
        four = ap length p.registers ∙ length-set cs k _ ∙ w.four;
        entries = en;
        buffer = dl ∙ w.buffer;
        list_length = ap length le ∙ length-splice list taken (map encoded (taken_by z k)) ∙ w.list_length;
        spare = λ j g. (
          ap (λ (l : List Registers). get_or l j no_registers) p.registers ∙ get_or-set_other cs k j (registers_by z (core_in f cs places offsets d k)) no_registers (apart j g) ∙ (w.spare j g).0,
          p.stacks j (apart j g) ∙ (w.spare j g).1,
        );
      }
    where
      apart : (j : ℕ) → cores f ≤ j → j ≢ k
      apart j g u = omega arith

-- ---- the order

pub below_at : (n : ℕ) (order : List ℕ) (i : ℕ) → all_below n order ≡ true → i < length order → get_or order i 0 < n
below_at n [] i e h = absurd (not-suc-le-zero h)
below_at n (k ∷ ks) zero e h = ltb-true k n (both_true (ltb k n) (all_below n ks) e).0
below_at n (k ∷ ks) (suc i) e h = below_at n ks i (both_true (ltb k n) (all_below n ks) e).1 (le_of_suc-le-suc h)
