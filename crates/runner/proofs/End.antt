-- The end of a run: the parts of the state make the state that the run is to leave. In order: lists by their items; the data buffer; the table
-- and the stacks; the end.
-- Assumes nothing.
use mathlib.Core.Path.{◌≡◌, refl, sym, ap, ◌∙◌, subst}
use mathlib.Core.Bool.{Bool, true, false}
use mathlib.Core.List.{List, [], ◌∷◌, map}
use Prim.Native.Nat.{ℕ, zero, suc, ◌+◌, ◌-◌, ◌*◌, ◌/◌, ◌%◌, ◌≤◌, ◌<◌}
use native.Mathlib.Nat.{add-zero, mod-lt, div-add-mod'}
use native.Mathlib.Omega.{arith}
use borrow.Author.Tests.{ltb-true, ltb-false}
use lib.Dec.{ltb}
use lib.ListN.{length, get_or, drop, length-map}
use lib.Seq.{ext_get_or, drop-length}
use Rattle.verdict.specs.Verdict.{pick}
use Rattle.memory.specs.Memory.{splice, part, split, flat, total}
use Rattle.memory.proofs.Cores.{length-split, flat-split}
use Rattle.protocol.specs.declared.Registers.{Registers}
use Rattle.protocol.specs.declared.Stack.{Stack}
use Rattle.protocol.specs.State.{Core, Semaphore, State, core}
use Rattle.protocol.specs.Step.{run, takings, encoded, order_list}
use Rattle.semaphore.specs.declared.Semaphore.{Semaphore as HeldSemaphore}
use Rattle.semaphore.specs.declared.Line.{Line}
use Rattle.semaphore.specs.Line.{semaphore_of, semaphore_back, line_of, Lined}
use Rattle.exchange.specs.declared.Cursor.{Cursor}
use Rattle.records.specs.File.{cores, data_size}
use Rattle.taskset.specs.Task.{listed, sizes_of}
use Rattle.taskset.proofs.Accepted.{length-listed, listed_at}
use Rattle.states.specs.declared.Held.{Held}
use Rattle.states.specs.declared.CoreTask.{CoreTask}
use Rattle.states.specs.Task.{task_of}
use Rattle.states.specs.Machine.{no_registers, stack_in, core_in, state_in, state_of, registers_back, entry_back, held_after, data_of}
use Rattle.runner.specs.Runs.{ran_answer, left_as, ran_call}
use Rattle.runner.specs.Going.{RunGiven}
use Rattle.runner.specs.Running.{Running, RunningAt}
use Rattle.runner.proofs.Loop.{part-entry}
use Rattle.runner.proofs.Running.{core-in, shared-in, semaphore-in}

-- ---- lists by their items

-- a table is the list that has its items
pub listed-is : {A : Type 0} (g : ℕ → A) (n : ℕ) (l : List A) (d : A) → length l ≡ n → ((k : ℕ) → k < n → g k ≡ get_or l k d) → listed g n 0 ≡ l
listed-is g n l d e h =
    ext_get_or d (listed g n 0) l (length-listed g n 0 ∙ sym e)
    (λ k i. let j : k < n = subst (λ (m : ℕ). k < m) (length-listed g n 0) i in listed_at g n k d j ∙ h k j)

-- entry i is entry i % 16 of core i / 16
pub entry_place : (i : ℕ) → 16 * (i / 16) + i % 16 ≡ i
entry_place i = let e : i / 16 * 16 + i % 16 ≡ i = div-add-mod' i 16 in omega arith

memories : (g : ℕ → Core) (n j : ℕ) → map (λ c. c.memory) (listed g n j) ≡ listed (λ k. (g k).memory) n j
unfolding listed
memories g zero j = refl
memories g (suc n) j = ap (λ (l : List (List ℕ)). (g j).memory ∷ l) (memories g n (suc j))

length-sizes : (f : List ℕ) → length (sizes_of f) ≡ cores f
unfolding sizes_of
length-sizes f = length-listed (data_size f) (cores f) 0

-- ---- the data buffer

pub data-back : (f : List ℕ) (cs : List Registers) (places offsets : List ℕ) (h : Semaphore) (d sh : List ℕ) → length d ≡ total (sizes_of f) → data_of (state_in f cs places offsets h d sh) ≡ d
unfolding data_of state_in
data-back f cs places offsets h d sh e =
    ap flat (memories (core_in f cs places offsets d) (cores f) 0 ∙ listed-is (λ k. get_or (split (sizes_of f) d) k []) (cores f) (split (sizes_of f) d) [] (length-split (sizes_of f) d ∙ length-sizes f) (λ k j. refl))
    ∙ flat-split (sizes_of f) d (sym e)

module _ (f t : List ℕ) (order list₀ : List ℕ) (s₀ : State) (s : Held) (i : ℕ) (cs : List Registers) (places offsets : List ℕ) (h : Semaphore) (taken : ℕ) (d sh list : List ℕ)
    (w : Running f t order list₀ s₀ s.cores s.places s.offsets i cs places offsets h taken d sh list) where
  -- ---- the table

  registers-back : (k : ℕ) → k < 4 → registers_back (cores f) s.cores (state_in f cs places offsets h d sh) k ≡ get_or cs k no_registers
  unfolding pick
  registers-back k j = go (ltb k (cores f)) refl
    where
      go : (b : Bool) → ltb k (cores f) ≡ b → pick b (core (state_in f cs places offsets h d sh).plant k).registers (get_or s.cores k no_registers) ≡ get_or cs k no_registers
      go true e = ap (λ (c : Core). c.registers) (core-in f cs places offsets h d sh k (ltb-true k (cores f) e))
      go false e = sym (w.spare k (ltb-false k (cores f) e)).0

  -- ---- the stacks

  entry-back : (field : Stack → List ℕ) (l old : List ℕ) → ((k : ℕ) → field (stack_in places offsets k) ≡ part l (16 * k) 16) → ((k : ℕ) → field (stack_in s.places s.offsets k) ≡ part old (16 * k) 16)
      → (n : ℕ) → n < 64 → entry_back field (cores f) old (state_in f cs places offsets h d sh) n ≡ get_or l n 0
  unfolding pick
  entry-back field l old a b n j = go (ltb (n / 16) (cores f)) refl
    where
      here : (m : List ℕ) → get_or (part m (16 * (n / 16)) 16) (n % 16) 0 ≡ get_or m n 0
      here m = part-entry m (16 * (n / 16)) (n % 16) (mod-lt n (omega arith)) ∙ ap (λ (p : ℕ). get_or m p 0) (entry_place n)

      go : (q : Bool) → ltb (n / 16) (cores f) ≡ q → pick q (get_or (field (core (state_in f cs places offsets h d sh).plant (n / 16)).stack) (n % 16) 0) (get_or old n 0) ≡ get_or l n 0
      go true e =
          ap (λ (c : Core). get_or (field c.stack) (n % 16) 0) (core-in f cs places offsets h d sh (n / 16) (ltb-true (n / 16) (cores f) e))
          ∙ ap (λ (m : List ℕ). get_or m (n % 16) 0) (a (n / 16)) ∙ here l
      go false e =
          sym (here old) ∙ ap (λ (m : List ℕ). get_or m (n % 16) 0) (sym (b (n / 16)) ∙ ap field (sym (w.spare (n / 16) (ltb-false (n / 16) (cores f) e)).1) ∙ a (n / 16)) ∙ here l

  pub held_back : (m : HeldSemaphore) → m ≡ semaphore_back h → held_after (cores f) s (state_in f cs places offsets h d sh) ≡ record { count = s.count; semaphore = m; cores = cs; places = places; offsets = offsets }
  unfolding held_after
  held_back m e = same
      (ap semaphore_back (semaphore-in f cs places offsets h d sh) ∙ sym e)
      (listed-is _ 4 cs no_registers w.four registers-back)
      (listed-is _ 64 places 0 w.entries.0 (entry-back (λ k. k.places) places s.places (λ k. refl) (λ k. refl)))
      (listed-is _ 64 offsets 0 w.entries.1 (entry-back (λ k. k.offsets) offsets s.offsets (λ k. refl) (λ k. refl)))
    where
      same : {a a' : HeldSemaphore} {b b' : List Registers} {p p' q q' : List ℕ} → a ≡ a' → b ≡ b' → p ≡ p' → q ≡ q'
          → ◌≡◌ {A = Held} record { count = s.count; semaphore = a; cores = b; places = p; offsets = q } record { count = s.count; semaphore = a'; cores = b'; places = p'; offsets = q' }
      same u v x y = λ z. record { count = s.count; semaphore = u z; cores = v z; places = x z; offsets = y z }

-- ---- the end

drop-done : (l : List ℕ) (i : ℕ) → length l ≤ i → i ≤ length l → drop i l ≡ []
drop-done l i h k = let e : i ≡ length l = omega arith in rw (e, drop-length)

pub looping-end : {f t : List ℕ} {tasks : List CoreTask} {first end : ℕ} {order : List ℕ} {s : Held} {aim : Cursor} {d₀ sh₀ list₀ : List ℕ}
    {i : ℕ} {cs : List Registers} {places offsets : List ℕ} {x : Line} {taken : ℕ} {d sh list : List ℕ} {cursor : Cursor}
    → RunGiven f t tasks first end order s aim d₀ sh₀ list₀
    → RunningAt f t order list₀ (state_of f s d₀ sh₀) s.cores s.places s.offsets i cs places offsets (semaphore_of x.semaphore) taken d sh list cursor → Lined x → length order ≤ i
    → left_as (ran_answer s x.semaphore cs places offsets taken) d sh list
    ≡ ran_call f t s d₀ sh₀ order list₀
unfolding ran_call splice line_of
looping-end {f} {t} {order = order} {s = s} {d₀ = d₀} {sh₀ = sh₀} {list₀ = list₀} {i = i} {cs = cs} {places = places} {offsets = offsets} {x = x} {taken = taken} {d = d} {sh = sh} {list = list} g w l b =
    let h : Semaphore = semaphore_of x.semaphore in
    let none_left : drop i order ≡ [] = drop-done order i b w.running.within in
    let ends : state_in f cs places offsets h d sh ≡ run (task_of f t) order (state_of f s d₀ sh₀) =
    ap (λ (ks : List ℕ). run (task_of f t) ks (state_in f cs places offsets h d sh)) (sym none_left) ∙ w.running.rest in
    let wrote : list ≡ splice list₀ 0 (order_list (task_of f t) order (state_of f s d₀ sh₀)) =
    ap (λ (ks : List ℕ). splice list taken (order_list (task_of f t) ks (state_in f cs places offsets h d sh))) (sym none_left) ∙ w.running.listed in
    let counted : taken ≡ length (order_list (task_of f t) order (state_of f s d₀ sh₀)) =
    sym (add-zero taken) ∙ ap (λ (ks : List ℕ). taken + length (takings (task_of f t) ks (state_in f cs places offsets h d sh))) (sym none_left) ∙ w.running.counted
    ∙ sym (length-map (takings (task_of f t) order (state_of f s d₀ sh₀)) encoded) in
    same counted
    (sym (held_back f t order list₀ (state_of f s d₀ sh₀) s i cs places offsets h taken d sh list w.running x.semaphore (ap (λ (y : Line). y.semaphore) l)) ∙ ap (held_after (cores f) s) ends)
    (sym (data-back f cs places offsets h d sh w.running.buffer) ∙ ap data_of ends)
    (sym (shared-in f cs places offsets h d sh) ∙ ap (λ (x : State). x.plant.shared) ends)
    wrote
  where
    same : {n n' : ℕ} {a a' : Held} {m m' x x' l l' : List ℕ} → n ≡ n' → a ≡ a' → m ≡ m' → x ≡ x' → l ≡ l'
        → left_as (record { refusal = 0; taken = n; state = a }) m x l ≡ left_as (record { refusal = 0; taken = n'; state = a' }) m' x' l'
    same p q u v y = λ z. left_as (record { refusal = 0; taken = p z; state = q z }) (u z) (v z) (y z)
