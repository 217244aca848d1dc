-- A caller's state and the state of crate protocol carry the same: from one to the other and back nothing is lost. In order: places of stack
-- entries; back from a fit state; back from a caller's state; one after another. Assumes nothing.
use mathlib.Core.Path.{◌≡◌, refl, sym, ap, ◌∙◌, subst}
use mathlib.Core.Bool.{Bool, true, false}
use mathlib.Core.List.{List, [], map}
use Prim.Native.Nat.{ℕ, ◌+◌, ◌*◌, ◌/◌, ◌%◌, ◌≤◌, ◌<◌}
use native.Mathlib.Nat.{mod-lt, div-add-mod'}
use native.Mathlib.Omega.{arith}
use borrow.Author.Tests.{lt-ltb, ltb-true}
use lib.Dec.{ltb}
use lib.ListN.{length, get_or, length-map}
use lib.Seq.{ext_get_or}
use Rattle.verdict.specs.Verdict.{pick}
use Rattle.verdict.proofs.Verdict.{pick_true}
use Rattle.memory.specs.Memory.{part, split, total}
use Rattle.memory.proofs.Laws.{length_part}
use Rattle.memory.proofs.Cores.{split-flat-of, length-flat}
use Rattle.protocol.specs.declared.Registers.{Registers}
use Rattle.protocol.specs.declared.Stack.{Stack}
use Rattle.protocol.specs.State.{Core, Semaphore, State, core, absent}
use Rattle.records.specs.File.{cores}
use Rattle.taskset.specs.Task.{listed, sizes_of}
use Rattle.taskset.proofs.Accepted.{length-listed, listed_at, sizes-length, sizes-at}
use Rattle.protocol.proofs.Fair.{few-below}
use Rattle.semaphore.specs.declared.Semaphore.{Semaphore as HeldSemaphore}
use Rattle.semaphore.specs.Line.{semaphore_of}
use Rattle.semaphore.proofs.Laws.{of-back}
use Rattle.states.specs.declared.Held.{Held}
use Rattle.states.specs.Machine.{no_registers, stack_in, core_in, state_in, state_of, registers_back, entry_back, held_after, data_of, Sized}
use Rattle.states.specs.Fit.{Fit}
use Rattle.states.proofs.Tables.{listed_same}
use Rattle.states.proofs.Fresh.{map_at}
use Rattle.calls.specs.Calling.{tidied}
use Rattle.runner.proofs.Loop.{part-entry}
use Rattle.runner.proofs.Running.{core-in}
use Rattle.runner.proofs.End.{listed-is, entry_place}

-- ---- entry j of core k's call stack is entry 16k + j of all

entry_core : (k j : ℕ) → j < 16 → (16 * k + j) / 16 ≡ k
entry_core k j h =
    let e : (16 * k + j) / 16 * 16 + (16 * k + j) % 16 ≡ 16 * k + j = div-add-mod' (16 * k + j) 16 in
    let l : (16 * k + j) % 16 < 16 = mod-lt (16 * k + j) (omega arith) in
    omega (arith, e, l)

entry_in : (k j : ℕ) → j < 16 → (16 * k + j) % 16 ≡ j
entry_in k j h =
    let e : (16 * k + j) / 16 * 16 + (16 * k + j) % 16 ≡ 16 * k + j = div-add-mod' (16 * k + j) 16 in
    let q = entry_core k j h in
    omega (arith, e, q)

held_same : {c : ℕ} {m : HeldSemaphore} {b b' : List Registers} {p p' q q' : List ℕ} → b ≡ b' → p ≡ p' → q ≡ q'
    → ◌≡◌ {A = Held} record { count = c; semaphore = m; cores = b; places = p; offsets = q } record { count = c; semaphore = m; cores = b'; places = p'; offsets = q' }
held_same {c} {m} v x y = λ z. record { count = c; semaphore = m; cores = v z; places = x z; offsets = y z }

-- ---- back from a fit state s

module _ (f t : List ℕ) (few : cores f ≤ 4) (h : Held) (s : State) (fit : Fit f t s) where
  abbrev at : ℕ → Core
  at k = core s.plant k

  registers-at : (k : ℕ) → k < cores f → get_or (listed (registers_back (cores f) h.cores s) 4 0) k no_registers ≡ (at k).registers
  registers-at k i = listed_at (registers_back (cores f) h.cores s) 4 k no_registers (omega arith) ∙ pick_true _ _ _ (lt-ltb k (cores f) i)

  entry_at : (field : Stack → List ℕ) (old : List ℕ) (k j : ℕ) → k < cores f → j < 16 → entry_back field (cores f) old s (16 * k + j) ≡ get_or (field (at k).stack) j 0
  entry_at field old k j i l =
      rw (entry_core k j l, entry_in k j l) (pick_true _ _ _ (lt-ltb k (cores f) i))

  entries_at : (field : Stack → List ℕ) (old : List ℕ) (k : ℕ) → k < cores f → length (field (at k).stack) ≡ 16
      → part (listed (entry_back field (cores f) old s) 64 0) (16 * k) 16 ≡ field (at k).stack
  entries_at field old k i e =
      let all : length (listed (entry_back field (cores f) old s) 64 0) ≡ 64 = length-listed (entry_back field (cores f) old s) 64 0 in
      let sixteen : length (part (listed (entry_back field (cores f) old s) 64 0) (16 * k) 16) ≡ 16 = length_part _ (16 * k) 16 (omega (arith, all, few)) in
      ext_get_or 0 _ _ (sixteen ∙ sym e) (λ j l.
      let m : j < 16 = subst (λ (n : ℕ). j < n) sixteen l in
      part-entry _ (16 * k) j m
      ∙ listed_at (entry_back field (cores f) old s) 64 (16 * k + j) 0 (omega (arith, few))
      ∙ entry_at field old k j i m)

  lengths-at : map length (map (λ (c : Core). c.memory) s.plant.cores) ≡ sizes_of f
  lengths-at =
      let n : length (map length (map (λ (c : Core). c.memory) s.plant.cores)) ≡ cores f =
      length-map (map (λ (c : Core). c.memory) s.plant.cores) length ∙ length-map s.plant.cores (λ (c : Core). c.memory) ∙ fit.table in
      ext_get_or 0 _ _ (n ∙ sym (sizes-length f)) (λ k l.
      let i : k < cores f = subst (λ (m : ℕ). k < m) n l in
      map_at length (map (λ (c : Core). c.memory) s.plant.cores) k [] 0 (subst (λ (m : ℕ). k < m) (sym (length-map s.plant.cores (λ (c : Core). c.memory) ∙ fit.table)) i)
      ∙ ap length (map_at (λ (c : Core). c.memory) s.plant.cores k absent [] (subst (λ (m : ℕ). k < m) (sym fit.table) i))
      ∙ (fit.each k i).size
      ∙ sym (sizes-at f k i))

  pub data-length : length (data_of s) ≡ total (sizes_of f)
  unfolding data_of
  data-length = length-flat (map (λ (c : Core). c.memory) s.plant.cores) ∙ ap total lengths-at

  memory-at : (k : ℕ) → k < cores f → get_or (split (sizes_of f) (data_of s)) k [] ≡ (at k).memory
  unfolding data_of
  memory-at k i =
      ap (λ (l : List (List ℕ)). get_or l k []) (split-flat-of (sizes_of f) (map (λ (c : Core). c.memory) s.plant.cores) lengths-at)
      ∙ map_at (λ (c : Core). c.memory) s.plant.cores k absent [] (subst (λ (m : ℕ). k < m) (sym fit.table) i)

  core-back : (k : ℕ) → k < cores f
      → core_in f (held_after (cores f) h s).cores (held_after (cores f) h s).places (held_after (cores f) h s).offsets (data_of s) k ≡ at k
  unfolding held_after
  core-back k i = same (registers-at k i)
      (entries_at (λ x. x.places) h.places k i (fit.each k i).placed.sixteen.0)
      (entries_at (λ x. x.offsets) h.offsets k i (fit.each k i).placed.sixteen.1)
      (memory-at k i)
    where
      same : {c : Core} {r : Registers} {p q m : List ℕ} → r ≡ c.registers → p ≡ c.stack.places → q ≡ c.stack.offsets → m ≡ c.memory
          → ◌≡◌ {A = Core} record { registers = r; stack = record { places = p; offsets = q }; memory = m } c
      same a b x y = λ z. record { registers = a z; stack = record { places = b z; offsets = x z }; memory = y z }

  -- the line of a fit state has at most four entries
  pub line-few : length s.semaphore.line ≤ 4
  line-few = let n : length s.semaphore.line ≤ length s.plant.cores = few-below (length s.plant.cores) s.semaphore.line fit.line.once fit.line.below in omega (arith, n, fit.table, few)

  semaphore-back : semaphore_of (held_after (cores f) h s).semaphore ≡ s.semaphore
  unfolding held_after
  semaphore-back = of-back s.semaphore line-few

  -- a caller's state after h, with s for its cores, is s again
  pub state-back : state_of f (held_after (cores f) h s) (data_of s) s.plant.shared ≡ s
  unfolding state_in
  state-back = whole (listed-is _ (cores f) s.plant.cores absent fit.table core-back) semaphore-back
    where
      whole : {l : List Core} {m : Semaphore} → l ≡ s.plant.cores → m ≡ s.semaphore → ◌≡◌ {A = State} record { plant = record { cores = l; shared = s.plant.shared }; semaphore = m } s
      whole a b = λ z. record { plant = record { cores = a z; shared = s.plant.shared }; semaphore = b z }

  pub sized-back : Sized f (held_after (cores f) h s) (data_of s) s.plant.shared
  unfolding held_after
  sized-back = record {
    memory = data-length;
    shared = fit.shared;
    places = length-listed (entry_back (λ x. x.places) (cores f) h.places s) 64 0;
    offsets = length-listed (entry_back (λ x. x.offsets) (cores f) h.offsets s) 64 0;
  }

-- ---- back from a caller's state h

module _ (f : List ℕ) (h : Held) (d sh : List ℕ) (four : length h.cores ≡ 4) (places : length h.places ≡ 64) (offsets : length h.offsets ≡ 64) where
  registers-same : (k : ℕ) → k < 4 → registers_back (cores f) h.cores (state_of f h d sh) k ≡ get_or h.cores k no_registers
  unfolding pick
  registers-same k j = go (ltb k (cores f)) refl
    where
      go : (b : Bool) → ltb k (cores f) ≡ b → pick b (core (state_of f h d sh).plant k).registers (get_or h.cores k no_registers) ≡ get_or h.cores k no_registers
      go true e = ap (λ (c : Core). c.registers) (core-in f h.cores h.places h.offsets (semaphore_of h.semaphore) d sh k (ltb-true k (cores f) e))
      go false e = refl

  entries-same : (field : Stack → List ℕ) (l : List ℕ) → ((k : ℕ) → field (stack_in h.places h.offsets k) ≡ part l (16 * k) 16)
      → (n : ℕ) → n < 64 → entry_back field (cores f) l (state_of f h d sh) n ≡ get_or l n 0
  unfolding pick
  entries-same field l a n j = go (ltb (n / 16) (cores f)) refl
    where
      go : (b : Bool) → ltb (n / 16) (cores f) ≡ b → pick b (get_or (field (core (state_of f h d sh).plant (n / 16)).stack) (n % 16) 0) (get_or l n 0) ≡ get_or l n 0
      go true e =
          ap (λ (c : Core). get_or (field c.stack) (n % 16) 0) (core-in f h.cores h.places h.offsets (semaphore_of h.semaphore) d sh (n / 16) (ltb-true (n / 16) (cores f) e))
          ∙ ap (λ (m : List ℕ). get_or m (n % 16) 0) (a (n / 16))
          ∙ part-entry l (16 * (n / 16)) (n % 16) (mod-lt n (omega arith))
          ∙ ap (λ (p : ℕ). get_or l p 0) (entry_place n)
      go false e = refl

  pub held_back : held_after (cores f) h (state_of f h d sh) ≡ tidied h
  unfolding held_after state_in
  held_back = held_same
      (listed-is _ 4 h.cores no_registers four registers-same)
      (listed-is _ 64 h.places 0 places (entries-same (λ x. x.places) h.places (λ k. refl)))
      (listed-is _ 64 h.offsets 0 offsets (entries-same (λ x. x.offsets) h.offsets (λ k. refl)))

-- ---- one after another: only the last state counts

module _ (n : ℕ) (h : Held) (s s' : State) where
  registers-twice : (k : ℕ) → k < 4 → registers_back n (listed (registers_back n h.cores s) 4 0) s' k ≡ registers_back n h.cores s' k
  unfolding pick
  registers-twice k l = go (ltb k n) refl
    where
      go : (b : Bool) → ltb k n ≡ b → pick b (core s'.plant k).registers (get_or (listed (registers_back n h.cores s) 4 0) k no_registers) ≡ pick b (core s'.plant k).registers (get_or h.cores k no_registers)
      go true e = refl
      go false e = listed_at (registers_back n h.cores s) 4 k no_registers l ∙ rw e

  entries_twice : (field : Stack → List ℕ) (old : List ℕ) (k : ℕ) → k < 64 → entry_back field n (listed (entry_back field n old s) 64 0) s' k ≡ entry_back field n old s' k
  unfolding pick
  entries_twice field old k l = go (ltb (k / 16) n) refl
    where
      go : (b : Bool) → ltb (k / 16) n ≡ b → pick b (get_or (field (core s'.plant (k / 16)).stack) (k % 16) 0) (get_or (listed (entry_back field n old s) 64 0) k 0) ≡ pick b (get_or (field (core s'.plant (k / 16)).stack) (k % 16) 0) (get_or old k 0)
      go true e = refl
      go false e = listed_at (entry_back field n old s) 64 k 0 l ∙ rw e

  pub held-twice : held_after n (held_after n h s) s' ≡ held_after n h s'
  unfolding held_after
  held-twice = held_same
      (listed_same _ _ 4 registers-twice)
      (listed_same _ _ 64 (entries_twice (λ x. x.places) h.places))
      (listed_same _ _ 64 (entries_twice (λ x. x.offsets) h.offsets))
