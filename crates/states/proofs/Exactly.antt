-- `fit-exactly`: the test of refusal 23 holds exactly of the states that are fit. In order: what the test of a core says; a core's stack
-- and data in the caller's arrays; one core, from its rules and back; the state. Assumes nothing.
use mathlib.Core.Path.{◌≡◌, refl, sym, ap, ◌∙◌, subst}
use mathlib.Core.Logic.{◌≢◌, ◌⊎◌, inl, inr, ⊎_elim}
use mathlib.Core.Bool.{Bool, true, false}
use mathlib.Core.List.{List, []}
use Prim.Native.Nat.{ℕ, zero, suc, ◌+◌, ◌*◌, ◌≤◌, ◌<◌}
use native.Mathlib.Numerals.{add-one}
use native.Mathlib.Omega.{arith}
use lib.Dec.{T}
use lib.ListN.{length, get_or, take, drop, length-take, length-drop, get_or-eq_default}
use lib.Seq.{get_or-take, get_or-drop, length-take-le}
use Rattle.verdict.specs.Verdict.{pick}
use Rattle.verdict.proofs.Verdict.{yes, unless-zero}
use Rattle.memory.specs.Memory.{part, start, total, split}
use Rattle.memory.proofs.Laws.{length_part}
use Rattle.memory.proofs.Cores.{split_at, start-end}
use Rattle.code.specs.Code.{is_start}
use Rattle.protocol.specs.Registers.{flag_bound}
use Rattle.protocol.specs.declared.Registers.{Registers}
use Rattle.protocol.specs.State.{Core, State, absent, core}
use Rattle.protocol.specs.Variables.{reads_of, writes_of}
use Rattle.protocol.specs.Step.{in_line}
use Rattle.protocol.specs.Laws.{Holding}
use Rattle.protocol.specs.Fair.{Once, FitLine}
use Rattle.semaphore.specs.Line.{semaphore_of}
use Rattle.processor.specs.Placed.{Placed}
use Rattle.records.specs.File.{cores, data_size, limit}
use Rattle.taskset.specs.Judge.{code_of}
use Rattle.taskset.specs.Task.{sizes_of, variables_of}
use Rattle.taskset.specs.Trace.{record_count}
use Rattle.taskset.proofs.Accepted.{length-listed, listed_at, sizes-length, sizes-at}
use Rattle.states.specs.declared.Held.{Held}
use Rattle.states.specs.Task.{task_of}
use Rattle.states.specs.Machine.{no_registers, core_in, state_in, state_of, Sized}
use Rattle.states.specs.Set.{AcceptedSet}
use Rattle.states.specs.Fit.{entry, places_fit, offsets_fit, depth_fit, exchange_fit, cycles_fit, holder_fit, freed_fit, execution_fit, exchanges_fit, core_fit, fit_at, line_fit, state_fit, state_refusal, FitCore, Fit}
use Rattle.states.proofs.Tables.{listed-none}
use Rattle.states.proofs.Says.{Says, known, says-itself, says_less, says-most, says-equal, says_both, says-within, says-either, says-pick, says-agree, says-upto}
use Rattle.states.proofs.Line.{records-left, left-records, Stands, says-line}

-- ---- what the test of a core says, rule by rule

module _ (r : Registers) where
  abbrev Places : List ℕ → (ℕ → ℕ) → Type 0
  Places c place = (is_start c r.counter ≡ true) × ((i : ℕ) → i < 16 → is_start c (place i) ≡ true)

  abbrev Offsets : ℕ → (ℕ → ℕ) → Type 0
  Offsets size offset = (r.offset < size) × ((i : ℕ) → i < 16 → offset i < size)

  -- in execution, or stopped
  abbrev Deep : Type 0
  Deep = (r.mode ≡ 2) ⊎ (r.mode ≡ 5)

  abbrev Depth : Type 0
  Depth = (Deep → r.depth ≤ 16) × ((Deep → ⊥) → r.depth ≡ 0)

  abbrev Exchange : ℕ → ℕ → Type 0
  Exchange reads writes = (r.mode ≡ 1 → r.exchange ≤ reads) × ((r.mode ≡ 1 → ⊥) → (r.mode ≡ 4 → r.exchange ≤ writes) × ((r.mode ≡ 4 → ⊥) → r.exchange ≡ 0))

  -- in a cycle
  abbrev Inside : Type 0
  Inside = (1 ≤ r.mode) × (r.mode ≤ 4)

  abbrev Cycles : ℕ → Type 0
  Cycles count = (Inside → r.cycles < count) × ((Inside → ⊥) → r.cycles ≤ count)

  abbrev Holds : ℕ → ℕ → Type 0
  Holds holder k = ((r.mode ≡ 1) ⊎ (r.mode ≡ 4) → holder ≡ k + 1) × (holder ≡ k + 1 → (r.mode ≡ 1) ⊎ (r.mode ≡ 4))

  abbrev Freed : (ℕ → ℕ) → (ℕ → ℕ) → Type 0
  Freed place offset = (i : ℕ) → i < 16 → (i < r.depth) ⊎ ((place i ≡ 0) × (offset i ≡ 0))

  says-places : (c : List ℕ) (place : ℕ → ℕ) → Says (places_fit c r place) (Places c place)
  unfolding places_fit
  says-places c place = says_both (says-itself _) (says-upto _ _ 16 (λ i l. says-itself (is_start c (place i))))

  says-offsets : (size : ℕ) (offset : ℕ → ℕ) → Says (offsets_fit size r offset) (Offsets size offset)
  unfolding offsets_fit
  says-offsets size offset = says_both (says_less _ _) (says-upto _ _ 16 (λ i l. says_less (offset i) size))

  says-depth : Says (depth_fit r) Depth
  unfolding depth_fit
  says-depth = says-pick (says-either (says-equal _ _) (says-equal _ _)) (says-most _ _) (says-equal _ _)

  says-exchange : (reads writes : ℕ) → Says (exchange_fit reads writes r) (Exchange reads writes)
  unfolding exchange_fit
  says-exchange reads writes = says-pick (says-equal _ _) (says-most _ _) (says-pick (says-equal _ _) (says-most _ _) (says-equal _ _))

  says-cycles : (count : ℕ) → Says (cycles_fit count r) (Cycles count)
  unfolding cycles_fit
  says-cycles count = says-pick (says-within 1 4 r.mode) (says_less _ _) (says-most _ _)

  says-holder : (holder k : ℕ) → Says (holder_fit holder k r) (Holds holder k)
  unfolding holder_fit
  says-holder holder k = says-agree (says-either (says-equal _ _) (says-equal _ _)) (says-equal _ _)

  says-freed : (place offset : ℕ → ℕ) → Says (freed_fit r place offset) (Freed place offset)
  unfolding freed_fit
  says-freed place offset = says-upto _ _ 16 (λ i l. says-either (says_less i r.depth) (says_both (says-equal (place i) 0) (says-equal (offset i) 0)))

-- the rules of core k
record Rules (f t : List ℕ) (holder k : ℕ) (r : Registers) (place offset : ℕ → ℕ) : Type 0 where
  modes : r.mode ≤ 5
  places : Places r (code_of f k) place
  offsets : Offsets r (data_size f k) offset
  depth : Depth r
  counts : r.count ≤ limit f k
  exchange : Exchange r (length (reads_of (variables_of f) k)) (length (writes_of (variables_of f) k))
  cycles : Cycles r (record_count f t k)
  holds : Holds r holder k
  freed : Freed r place offset
  flags : r.flags < flag_bound

says-execution : (c : List ℕ) (size most : ℕ) (r : Registers) (place offset : ℕ → ℕ)
    → Says (execution_fit c size most r place offset)
    ((r.mode ≤ 5) × (Places r c place × (Offsets r size offset × (Depth r × (r.count ≤ most)))))
unfolding execution_fit
says-execution c size most r place offset =
    says_both (says-most r.mode 5)
    (says_both (says-places r c place) (says_both (says-offsets r size offset) (says_both (says-depth r) (says-most r.count most))))

says-exchanges : (reads writes count holder k : ℕ) (r : Registers)
    → Says (exchanges_fit reads writes count holder k r) (Exchange r reads writes × (Cycles r count × Holds r holder k))
unfolding exchanges_fit
says-exchanges reads writes count holder k r = says_both (says-exchange r reads writes) (says_both (says-cycles r count) (says-holder r holder k))

says-rules : (f t : List ℕ) (holder k : ℕ) (r : Registers) (place offset : ℕ → ℕ) → Says (core_fit f t holder k r place offset) (Rules f t holder k r place offset)
unfolding core_fit
says-rules f t holder k r place offset =
    let all =
    says_both (says-execution (code_of f k) (data_size f k) (limit f k) r place offset)
    (says_both (says-exchanges (length (reads_of (variables_of f) k)) (length (writes_of (variables_of f) k)) (record_count f t k) holder k r)
    (says_both (says-freed r place offset) (says_less r.flags flag_bound))) in
    record {
      tested = λ e.
          let x = all.tested e in
          record {
            modes = x.0.0;
            places = x.0.1.0;
            offsets = x.0.1.1.0;
            depth = x.0.1.1.1.0;
            counts = x.0.1.1.1.1;
            exchange = x.1.0.0;
            cycles = x.1.0.1.0;
            holds = x.1.0.1.1;
            freed = x.1.1.0;
            flags = x.1.1.1;
          };
      holds = λ x.
          all.holds (
            (x.modes, (x.places, (x.offsets, (x.depth, x.counts)))),
            ((x.exchange, (x.cycles, x.holds)), (x.freed, x.flags)),
          );
    }

-- ---- a core's stack and data in the caller's arrays

-- what holds of the sixteen entries, and of 0, holds of the stack's
stack-all : (P : ℕ → ℕ → Type 0) (l : List ℕ) (k : ℕ) → ((i : ℕ) → P i 0) → ((i : ℕ) → i < 16 → P i (entry l k i)) → (i : ℕ) → P i (get_or (part l (16 * k) 16) i 0)
unfolding part
stack-all P l k z h i = go (known (says_less i 16))
  where
    go : (i < 16) ⊎ (i < 16 → ⊥) → P i (get_or (take 16 (drop (16 * k) l)) i 0)
    go (inl e) = rw (get_or-take 16 (drop (16 * k) l) i 0 e, get_or-drop (16 * k) l i 0) (h i e)
    go (inr n) = rw (get_or-eq_default (take 16 (drop (16 * k) l)) 0 {n = i} (omega (arith, length-take 16 (drop (16 * k) l)))) (z i)

-- and the other way
stack-entry : (l : List ℕ) (k i : ℕ) → i < 16 → get_or (part l (16 * k) 16) i 0 ≡ entry l k i
unfolding part
stack-entry l k i h = get_or-take 16 (drop (16 * k) l) i 0 h ∙ get_or-drop (16 * k) l i 0

data-size : (f d : List ℕ) (k : ℕ) → k < cores f → length d ≡ total (sizes_of f) → length (get_or (split (sizes_of f) d) k []) ≡ data_size f k
data-size f d k h e =
    let l : k < length (sizes_of f) = rw (sizes-length f) h in
    ap length (split_at (sizes_of f) d k l)
    ∙ length-take-le (get_or (sizes_of f) k 0) (drop (start (sizes_of f) k) d) (omega (arith, length-drop (start (sizes_of f) k) d, start-end (sizes_of f) k l))
    ∙ sizes-at f k h

-- ---- one core, from its rules and back

module _ (f t : List ℕ) (ok : AcceptedSet f t) (h : Held) (d sh : List ℕ) (z : Sized f h d sh) where
  abbrev mine : ℕ → Core
  mine k = core_in f h.cores h.places h.offsets d k

  abbrev Kept : ℕ → Type 0
  Kept k = Rules f t h.semaphore.holder k (get_or h.cores k no_registers) (entry h.places k) (entry h.offsets k)

  stack-long : (l : List ℕ) (k : ℕ) → k < cores f → length l ≡ 64 → length (part l (16 * k) 16) ≡ 16
  stack-long l k i e = length_part l (16 * k) 16 (omega (arith, ok.few))

  freed-entry : (place : Bool) {a b n i : ℕ} → (i < n) ⊎ ((a ≡ 0) × (b ≡ 0)) → n ≤ i → pick place a b ≡ 0
  unfolding pick
  freed-entry place (inl e) l = absurd (let y : ⊥ = omega arith in y)
  freed-entry true (inr e) l = e.0
  freed-entry false (inr e) l = e.1

  placed : (k : ℕ) → k < cores f → Kept k → Placed (code_of f k) (data_size f k) (mine k).registers (mine k).stack
  unfolding pick
  placed k i x = record {
    counter = x.places.0;
    offset = x.offsets.0;
    depth = deep (known (says-either (says-equal (mine k).registers.mode 2) (says-equal (mine k).registers.mode 5)));
    places = stack-all (λ j p. is_start (code_of f k) p ≡ true) h.places k (λ j. ok.start k i) x.places.1;
    offsets = stack-all (λ j o. o < data_size f k) h.offsets k (λ j. (ok.data-size k i).0) x.offsets.1;
    freed = λ j l. (
      stack-all (λ m p. (mine k).registers.depth ≤ m → p ≡ 0) h.places k (λ m n. refl) (λ m n. freed-entry true (x.freed m n)) j l,
      stack-all (λ m o. (mine k).registers.depth ≤ m → o ≡ 0) h.offsets k (λ m n. refl) (λ m n. freed-entry false (x.freed m n)) j l,
    );
    sixteen = (stack-long h.places k i z.places, stack-long h.offsets k i z.offsets);
  }
    where
      deep : (Deep (mine k).registers) ⊎ (Deep (mine k).registers → ⊥) → (mine k).registers.depth ≤ 16
      deep (inl a) = x.depth.0 a
      deep (inr n) = omega (arith, x.depth.1 n)

  fit-core : (k : ℕ) → k < cores f → Kept k → FitCore f t k (mine k)
  fit-core k i x = record {
    modes = x.modes;
    placed = placed k i x;
    shallow = λ a b. x.depth.1 (λ e. ⊎_elim a b e);
    counts = x.counts;
    reading = x.exchange.0;
    writing = λ e. (x.exchange.1 (λ n. let y : ⊥ = omega arith in y)).0 e;
    outside = λ a b. (x.exchange.1 a).1 b;
    cycles = ⊎_elim (λ a. let y = x.cycles.0 a in omega arith) x.cycles.1 (known (says-within 1 4 (mine k).registers.mode));
    under-way = λ a b. x.cycles.0 (a, b);
    flags = x.flags;
    size = data-size f d k i z.memory;
  }

  kept : (k : ℕ) → FitCore f t k (mine k) → Holds (mine k).registers h.semaphore.holder k → Kept k
  kept k x y = record {
    modes = x.modes;
    places = (x.placed.counter, λ i l. subst (λ (p : ℕ). is_start (code_of f k) p ≡ true) (stack-entry h.places k i l) (x.placed.places i));
    offsets = (x.placed.offset, λ i l. subst (λ (o : ℕ). o < data_size f k) (stack-entry h.offsets k i l) (x.placed.offsets i));
    depth = (λ a. x.placed.depth, λ n. x.shallow (λ e. n (inl e)) (λ e. n (inr e)));
    counts = x.counts;
    exchange = (x.reading, λ n. (x.writing, λ m. x.outside n m));
    cycles = (λ a. x.under-way a.0 a.1, λ n. x.cycles);
    holds = y;
    freed = λ i l. freed i l (known (says_less i (mine k).registers.depth));
    flags = x.flags;
  }
    where
      freed : (i : ℕ) → i < 16 → (i < (mine k).registers.depth) ⊎ (i < (mine k).registers.depth → ⊥)
          → (i < (mine k).registers.depth) ⊎ ((entry h.places k i ≡ 0) × (entry h.offsets k i ≡ 0))
      freed i l (inl a) = inl a
      freed i l (inr n) =
          let w = x.placed.freed i (omega arith) in
          inr (sym (stack-entry h.places k i l) ∙ w.0, sym (stack-entry h.offsets k i l) ∙ w.1)

  -- ---- the state

  abbrev whole : State
  whole = state_of f h d sh

  core-of : (k : ℕ) → k < cores f → core whole.plant k ≡ mine k
  unfolding state_in
  core-of k i = listed_at mine (cores f) k absent i

  core-none : (k : ℕ) → cores f ≤ k → core whole.plant k ≡ absent
  unfolding state_in
  core-none k i = listed-none mine (cores f) k absent i

  -- no core holds past the table
  holding-below : (k : ℕ) → Holding (core whole.plant k) → k < cores f
  holding-below k x = go (known (says_less k (cores f)))
    where
      none-holds : Holding absent → ⊥
      none-holds (inl e) = omega arith
      none-holds (inr e) = omega arith

      go : (k < cores f) ⊎ (k < cores f → ⊥) → k < cores f
      go (inl i) = i
      go (inr n) = absurd (none-holds (subst Holding (core-none k (omega arith)) x))

  -- the line of the state, and who stands in it
  abbrev InLine : Type 0
  InLine = Once (semaphore_of h.semaphore).line × ((j : ℕ) → T (in_line j (semaphore_of h.semaphore).line) → Stands f t h j)

  line_of : InLine → FitLine (task_of f t) whole
  unfolding state_in
  line_of y = record {
    once = y.0;
    below = λ j g. rw (length-listed mine (cores f) 0) (y.1 j g).0;
    modes = λ j g. subst (λ (c : Core). (c.registers.mode ≡ 0) ⊎ (c.registers.mode ≡ 3)) (sym (core-of j (y.1 j g).0)) (y.1 j g).1.0;
    records = λ j g. subst (λ (c : Core). drop c.registers.cycles ((task_of f t).samples j) ≢ []) (sym (core-of j (y.1 j g).0)) (records-left f t j _ (y.1 j g).1.1);
  }

  of-line : FitLine (task_of f t) whole → InLine
  unfolding state_in
  of-line y = (
    y.once,
    λ j g.
        let i : j < cores f = rw (length-listed mine (cores f) 0) at (y.below j g) in (
          i,
          (
            subst (λ (c : Core). (c.registers.mode ≡ 0) ⊎ (c.registers.mode ≡ 3)) (core-of j i) (y.modes j g),
            left-records f t j _ (subst (λ (c : Core). drop c.registers.cycles ((task_of f t).samples j) ≢ []) (core-of j i) (y.records j g)),
          ),
        ),
  )

  fit-whole : h.semaphore.holder ≤ cores f → ((k : ℕ) → k < cores f → Kept k) → InLine → Fit f t whole
  unfolding state_in
  fit-whole few x y = record {
    table = length-listed mine (cores f) 0;
    each = λ k i. subst (FitCore f t k) (sym (core-of k i)) (fit-core k i (x k i));
    held = record {
      held = λ k y.
          let i = holding-below k y in
          (x k i).holds.0 (subst Holding (core-of k i) y) ∙ add-one k;
      holding = λ k e.
          let i : k < cores f = omega arith in
          subst Holding (sym (core-of k i)) ((x k i).holds.1 (e ∙ sym (add-one k)));
    };
    line = line_of y;
    shared = z.shared;
  }

  whole-holder : Fit f t whole → h.semaphore.holder ≤ cores f
  unfolding state_in
  whole-holder x = go h.semaphore.holder refl
    where
      go : (n : ℕ) → h.semaphore.holder ≡ n → h.semaphore.holder ≤ cores f
      go zero e = omega arith
      go (suc k) e = let i = holding-below k (x.held.holding k e) in omega arith

  whole-kept : Fit f t whole → (k : ℕ) → k < cores f → Kept k
  unfolding state_in
  whole-kept x k i =
      kept k (subst (FitCore f t k) (core-of k i) (x.each k i)) (
        (λ y. x.held.held k (subst Holding (sym (core-of k i)) y) ∙ sym (add-one k)),
        (λ e. subst Holding (core-of k i) (x.held.holding k (e ∙ add-one k))),
      )

  -- The test of a caller's state holds exactly if its table has n records, its line at most four entries, and the state is fit
  pub fit-exactly : Says (state_fit f t h) (((h.count ≡ cores f) × (h.semaphore.waiting ≤ 4)) × Fit f t whole)
  unfolding state_fit fit_at line_fit
  fit-exactly =
      let all = says_both (says-equal h.count (cores f)) (says_both (says-most h.semaphore.holder (cores f))
      (says_both (says-upto (fit_at f t h) Kept (cores f) (λ k i. says-rules f t h.semaphore.holder k _ _ _))
      (says_both (says-most h.semaphore.waiting 4) (says-line f t h (semaphore_of h.semaphore).line)))) in
      record {
        tested = λ e. let x = all.tested e in ((x.0, x.1.1.1.0), fit-whole x.1.0 x.1.1.0 x.1.1.1.1);
        holds = λ x. all.holds (x.0.0, (whole-holder x.1, (whole-kept x.1, (x.0.1, of-line x.1.line))));
      }

  -- the same of the refusal: none exactly of a fit state
  pub not-refused : ((h.count ≡ cores f) × (h.semaphore.waiting ≤ 4)) × Fit f t whole → state_refusal f t h ≡ 0
  unfolding state_refusal
  not-refused x = yes _ 23 (fit-exactly.holds x)

  pub fit-accepted : state_refusal f t h ≡ 0 → ((h.count ≡ cores f) × (h.semaphore.waiting ≤ 4)) × Fit f t whole
  unfolding state_refusal
  fit-accepted e = fit-exactly.tested (unless-zero _ 22 e)
