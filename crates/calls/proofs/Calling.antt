-- Calls one after another: a call of a fit state is the steps that it counts as, and leaves a fit state; so are lists of them. In order: one
-- call; lists; a run; the fresh state; demand 3 of every list of calls. Assumes nothing.
use mathlib.Core.Path.{◌≡◌, refl, sym, ap, ap₂, ◌∙◌, subst}
use mathlib.Core.Logic.{◌≢◌}
use mathlib.Core.Bool.{Bool, true, false}
use mathlib.Core.List.{List, [], ◌∷◌, ◌++◌, map, append-nil}
use Prim.Native.Nat.{ℕ, zero, suc, ◌+◌, ◌*◌, ◌≤◌, ◌<◌}
use native.Mathlib.Omega.{arith}
use borrow.Author.Tests.{lt-ltb, ltb-true, eq-eqb, ne_eqb, eqb-true, eqb-false}
use lib.Dec.{eqb}
use lib.Seq.{take_all}
use lib.ListN.{length, get_or, replicate, length-take, length-append, take-append-drop, drop_of_length-le, length-map, length-replicate, get_or-replicate}
use Rattle.verdict.specs.Verdict.{pick}
use Rattle.verdict.proofs.Verdict.{pick_true, pick-false, by-pick, next-none, next-zero, unless-zero, both_true}
use Rattle.memory.specs.Memory.{total, part}
use Rattle.memory.proofs.Cores.{split-flat-of}
use Rattle.protocol.specs.declared.Registers.{Registers}
use Rattle.protocol.specs.State.{Core, Semaphore, State, core, absent, cleared}
use Rattle.protocol.specs.Step.{step, run, taking_of, takings, encoded}
use Rattle.protocol.proofs.Steps.{run-append, takings-append}
use Rattle.protocol.specs.Fresh.{fresh_core}
use Rattle.records.specs.File.{cores}
use Rattle.taskset.specs.Judge.{judge}
use Rattle.taskset.specs.Trace.{trace_refusal}
use Rattle.taskset.specs.Task.{sizes_of}
use Rattle.taskset.specs.Starts.{start_data, start_shared, starts_of, start_buffer}
use Rattle.taskset.specs.Fresh.{fresh_of}
use Rattle.taskset.proofs.Accepted.{listed_at, start-sizes, length-buffer, length-shared, fresh-cores, fresh-core}
use Rattle.states.specs.declared.Held.{Held}
use Rattle.states.specs.Task.{task_of}
use Rattle.states.specs.Set.{AcceptedSet}
use Rattle.semaphore.specs.Line.{semaphore_of}
use Rattle.semaphore.proofs.Laws.{of-back}
use Rattle.states.specs.Machine.{no_registers, core_in, state_in, Sized, state_of, held_after, data_of}
use Rattle.states.specs.Fit.{Fit}
use Rattle.states.specs.Preparing.{held_refusal}
use Rattle.states.proofs.Accepted.{accepted-set}
use Rattle.states.proofs.Exactly.{not-refused, fit-accepted}
use Rattle.states.proofs.Executes.{executes}
use Rattle.states.proofs.Kept.{fit-kept}
use Rattle.states.proofs.Fresh.{fresh-fit}
use Rattle.runner.specs.Runs.{Left, left_as, all_below, ran_call}
use Rattle.machine.specs.Calls.{lent_fits, answer_of, table_of, fresh_refusal, fresh_call, run_refusal, run_call, step_refusal, stepped, step_call}
use Rattle.calls.specs.Calling.{Lending, entire, front, lent_of, replaced, Call, stepping, running, restored, leaves, calls, step_calls, whole_of, counts_as, steps_of, taken_of, Unchanged, tidied, RunIsSteps, CallsInterleaved}
use Rattle.runner.proofs.Running.{shared-in}
use Rattle.runner.proofs.End.{listed-is, data-back}
use Rattle.calls.proofs.Interleaving.{interleaved-machine}
use Rattle.machine.proofs.Calls.{refuse-none, granted, lent-sizes}
use Rattle.calls.proofs.Back.{line-few, state-back, sized-back, held_back, held-twice}

-- ---- one call

-- what a call left can be lent to the next
pub record Lendable (f t : List ℕ) (x : Left) : Type 0 where
  pub count : x.answer.state.count ≡ cores f
  pub line : x.answer.state.semaphore.waiting ≤ 4
  pub sized : Sized f x.answer.state x.memory x.shared
  pub fit : Fit f t (whole_of f x)

-- a call whose steps are ks, made with what x has, left y
pub record Counted (f t : List ℕ) (x y : Left) (ks : List ℕ) : Type 0 where
  pub whole : whole_of f y ≡ run (task_of f t) ks (whole_of f x)
  pub taken : y.answer.taken ≡ length (takings (task_of f t) ks (whole_of f x))
  pub lendable : Lendable f t y

pub run-fit : (f t : List ℕ) → AcceptedSet f t → (ks : List ℕ) (s : State) → Fit f t s → Fit f t (run (task_of f t) ks s)
run-fit f t ok [] s fit = fit
run-fit f t ok (k ∷ ks) s fit = run-fit f t ok ks (step (task_of f t) k s) (fit-kept f t ok (executes f t ok) k s fit)

-- what a memory lends whole, and what it is after a call that changes nothing
module _ (m : List ℕ) where
  pub lent-all : (a : Lending) → length (lent_of a m) ≡ length m → lent_of a m ≡ m
  lent-all entire e = refl
  lent-all (front n) e = take_all n m (omega (arith, sym (length-take n m) ∙ e))

  replaced-all : (a : Lending) (y : List ℕ) → length (lent_of a m) ≡ length m → replaced a m y ≡ y
  replaced-all entire y e = refl
  replaced-all (front n) y e = ap (λ (l : List ℕ). y ++ l) (drop_of_length-le m {i = n} (omega (arith, sym (length-take n m) ∙ e))) ∙ append-nil y

  replaced-same : (a : Lending) → replaced a m (lent_of a m) ≡ m
  replaced-same entire = refl
  replaced-same (front n) = take-append-drop n m

module _ (f t : List ℕ) (ok : AcceptedSet f t) (x : Left) (w : Lendable f t x) where
  -- the caller's state with a fit state s for its cores
  left_back : (s : State) → Fit f t s → (y : Left) → y.answer.state ≡ held_after (cores f) x.answer.state s → y.memory ≡ data_of s → y.shared ≡ s.plant.shared
      → (whole_of f y ≡ s) × Lendable f t y
  unfolding held_after
  left_back s fit y a b c =
      let back : whole_of f y ≡ s = (λ i. state_of f (a i) (b i) (c i)) ∙ state-back f t ok.few x.answer.state s fit in
      let sized = sized-back f t ok.few x.answer.state s fit in (
        back,
        record {
          count = ap (λ (h : Held). h.count) a ∙ w.count;
          line = let n : y.answer.state.semaphore.waiting ≡ length s.semaphore.line = ap (λ (h : Held). h.semaphore.waiting) a in omega (arith, n, line-few f t ok.few x.answer.state s fit);
          sized = record {
            memory = ap length b ∙ sized.memory;
            shared = ap length c ∙ sized.shared;
            places = ap (λ (h : Held). length h.places) a ∙ sized.places;
            offsets = ap (λ (h : Held). length h.offsets) a ∙ sized.offsets;
          };
          fit = subst (Fit f t) (sym back) fit;
        },
      )

  module _ (a b : Lending) where
    abbrev memory : List ℕ
    memory = lent_of a x.memory

    abbrev shared : List ℕ
    shared = lent_of b x.shared

    -- a call that is refused changes nothing
    refused : (ks : List ℕ) (y : Left) (r : ℕ) (list : List ℕ) → r ≢ 0 → y ≡ left_as (answer_of r x.answer.state) memory shared list
        → Counted f t x (restored a b x y) (pick (eqb y.answer.refusal 0) ks [])
    unfolding pick
    refused ks y r list n e = subst (λ (z : Left). Counted f t x (restored a b x z) (pick (eqb z.answer.refusal 0) ks [])) (sym e)
        (rw (ne_eqb r 0 n) record {
          whole = λ i. state_of f x.answer.state (replaced-same x.memory a i) (replaced-same x.shared b i);
          taken = refl;
          lendable = subst (Lendable f t) (sym (λ i. left_as (answer_of r x.answer.state) (replaced-same x.memory a i) (replaced-same x.shared b i) list))
              record { count = w.count; line = w.line; sized = w.sized; fit = w.fit };
        })

    module _ (p : length memory ≡ total (sizes_of f)) (q : length shared ≡ 1024) where
      pub memory-all : length memory ≡ length x.memory
      memory-all = p ∙ sym w.sized.memory

      pub shared-all : length shared ≡ length x.shared
      shared-all = q ∙ sym w.sized.shared

      -- a call that is not refused is its steps
      granted-call : (ks : List ℕ) (y : Left) → y.answer.refusal ≡ 0
          → y.answer.state ≡ held_after (cores f) x.answer.state (run (task_of f t) ks (whole_of f x))
          → y.memory ≡ data_of (run (task_of f t) ks (whole_of f x))
          → y.shared ≡ (run (task_of f t) ks (whole_of f x)).plant.shared
          → y.answer.taken ≡ length (takings (task_of f t) ks (whole_of f x))
          → Counted f t x (restored a b x y) (pick (eqb y.answer.refusal 0) ks [])
      unfolding pick
      granted-call ks y e u v z n =
          let back = left_back (run (task_of f t) ks (whole_of f x)) (run-fit f t ok ks (whole_of f x) w.fit) (restored a b x y) u (replaced-all x.memory a y.memory memory-all ∙ v) (replaced-all x.shared b y.shared shared-all ∙ z) in
          rw (eq-eqb _ _ e) record { whole = back.0; taken = n; lendable = back.1 }

  -- the call of a step, and of a run
  fits : lent_fits f (length x.memory) (length x.shared) ≡ true
  unfolding lent_fits
  fits = rw (eq-eqb _ _ w.sized.memory, eq-eqb _ _ w.sized.shared)

  held : held_refusal f t x.answer.state ≡ 0
  unfolding held_refusal
  held = next-none _ _ ok.trace (not-refused f t ok x.answer.state x.memory x.shared w.sized ((w.count, w.line), w.fit))

  pub step-granted : (k : ℕ) → k < cores f → step_call f t x.answer.state x.memory x.shared k ≡ stepped f t x.answer.state x.memory x.shared k
  unfolding step_call step_refusal
  step-granted k l = pick_true _ _ _ (eq-eqb _ _ (refuse-none f t x.answer.state _ _ true _ ok.file fits refl held (lt-ltb k (cores f) l)))

  pub step-counted : (a b : Lending) (k : ℕ) → Counted f t x (leaves f t (stepping a b k) x) (counts_as f t (stepping a b k) x)
  unfolding step_call step_refusal
  step-counted a b k = go (eqb (step_refusal f t x.answer.state (memory a b) (shared a b) k) 0) refl
    where
      go : (q : Bool) → eqb (step_refusal f t x.answer.state (memory a b) (shared a b) k) 0 ≡ q → Counted f t x (leaves f t (stepping a b k) x) (counts_as f t (stepping a b k) x)
      go true e =
          let known = granted f t x.answer.state _ _ _ _ (eqb-true _ _ e) in
          let m = lent-all x.memory a (memory-all a b known.memory known.shared-memory) in
          let sh = lent-all x.shared b (shared-all a b known.memory known.shared-memory) in
          let y : step_call f t x.answer.state (memory a b) (shared a b) k ≡ stepped f t x.answer.state x.memory x.shared k =
          pick_true _ _ _ e ∙ (λ i. stepped f t x.answer.state (m i) (sh i) k) in
          granted-call a b known.memory known.shared-memory (k ∷ []) (step_call f t x.answer.state (memory a b) (shared a b) k)
          (ap (λ (z : Left). z.answer.refusal) y)
          (ap (λ (z : Left). z.answer.state) y)
          (ap (λ (z : Left). z.memory) y)
          (ap (λ (z : Left). z.shared) y)
          (ap (λ (z : Left). z.answer.taken) y ∙ ap length (sym (append-nil (taking_of (task_of f t) k (whole_of f x)))))
      go false e = refused a b (k ∷ []) (step_call f t x.answer.state (memory a b) (shared a b) k) (step_refusal f t x.answer.state (memory a b) (shared a b) k) [] (eqb-false _ _ e) (pick-false _ _ _ e)

  pub run-counted : (a b : Lending) (order list : List ℕ) → Counted f t x (leaves f t (running a b order list) x) (counts_as f t (running a b order list) x)
  unfolding run_call run_refusal ran_call
  run-counted a b order list = go (eqb (run_refusal f t x.answer.state (memory a b) (shared a b) order list) 0) refl
    where
      go : (q : Bool) → eqb (run_refusal f t x.answer.state (memory a b) (shared a b) order list) 0 ≡ q → Counted f t x (leaves f t (running a b order list) x) (counts_as f t (running a b order list) x)
      go true e =
          let known = granted f t x.answer.state _ _ _ _ (eqb-true _ _ e) in
          let m = lent-all x.memory a (memory-all a b known.memory known.shared-memory) in
          let sh = lent-all x.shared b (shared-all a b known.memory known.shared-memory) in
          let y : run_call f t x.answer.state (memory a b) (shared a b) order list ≡ ran_call f t x.answer.state x.memory x.shared order list =
          pick_true _ _ _ e ∙ (λ i. ran_call f t x.answer.state (m i) (sh i) order list) in
          granted-call a b known.memory known.shared-memory order (run_call f t x.answer.state (memory a b) (shared a b) order list)
          (ap (λ (z : Left). z.answer.refusal) y)
          (ap (λ (z : Left). z.answer.state) y)
          (ap (λ (z : Left). z.memory) y)
          (ap (λ (z : Left). z.shared) y)
          (ap (λ (z : Left). z.answer.taken) y ∙ length-map (takings (task_of f t) order (whole_of f x)) encoded)
      go false e = refused a b order (run_call f t x.answer.state (memory a b) (shared a b) order list) (run_refusal f t x.answer.state (memory a b) (shared a b) order list) list (eqb-false _ _ e) (pick-false _ _ _ e)

  pub call-counted : (c : Call) → Counted f t x (leaves f t c x) (counts_as f t c x)
  call-counted (stepping a b k) = step-counted a b k
  call-counted (running a b order list) = run-counted a b order list

-- a refused call, whatever state and memories it was made with, leaves them
module _ (f t : List ℕ) (x : Left) (a b : Lending) where
  unchanged : (y : Left) (r : ℕ) (list : List ℕ) → y ≡ left_as (answer_of r x.answer.state) (lent_of a x.memory) (lent_of b x.shared) list → Unchanged x (restored a b x y)
  unchanged y r list e = subst (λ (z : Left). Unchanged x (restored a b x z)) (sym e)
      record { state = refl; memory = replaced-same x.memory a; shared = replaced-same x.shared b }

pub refused-leaves : (f t : List ℕ) (c : Call) (x : Left) → (leaves f t c x).answer.refusal ≢ 0 → Unchanged x (leaves f t c x)
unfolding step_call run_call ran_call
refused-leaves f t (stepping a b k) x n = by-pick
    (λ (y : Left). y.answer.refusal ≢ 0 → Unchanged x (restored a b x y)) (eqb (step_refusal f t x.answer.state (lent_of a x.memory) (lent_of b x.shared) k) 0) _ _
    (λ e m. absurd (m refl))
    (λ e m. unchanged f t x a b _ _ [] refl)
    n
refused-leaves f t (running a b order list) x n = by-pick
    (λ (y : Left). y.answer.refusal ≢ 0 → Unchanged x (restored a b x y)) (eqb (run_refusal f t x.answer.state (lent_of a x.memory) (lent_of b x.shared) order list) 0) _ _
    (λ e m. absurd (m refl))
    (λ e m. unchanged f t x a b _ _ list refl)
    n

-- ---- lists

pub calls-counted : (f t : List ℕ) → AcceptedSet f t → (cs : List Call) (x : Left) → Lendable f t x
    → (whole_of f (calls f t cs x) ≡ run (task_of f t) (steps_of f t cs x) (whole_of f x))
    × (taken_of f t cs x ≡ length (takings (task_of f t) (steps_of f t cs x) (whole_of f x)))
    × Lendable f t (calls f t cs x)
calls-counted f t ok [] x w = (refl, refl, w)
calls-counted f t ok (c ∷ cs) x w =
    let y = call-counted f t ok x w c in
    let more = calls-counted f t ok cs (leaves f t c x) y.lendable in
    let first = counts_as f t c x in
    let rest = steps_of f t cs (leaves f t c x) in (
      more.0 ∙ ap (run (task_of f t) rest) y.whole ∙ sym (run-append (task_of f t) first rest (whole_of f x)),
      ap₂ ◌+◌ y.taken (more.1 ∙ ap (λ (s : State). length (takings (task_of f t) rest s)) y.whole)
          ∙ sym (length-append (takings (task_of f t) first (whole_of f x)) (takings (task_of f t) rest (run (task_of f t) first (whole_of f x))))
          ∙ ap length (sym (takings-append (task_of f t) first rest (whole_of f x))),
      more.2,
    )

-- ---- a run

-- where every number is below n, each call leaves the caller's state h with the steps' state for its cores
pub record Follows (f t : List ℕ) (h : Held) (s : State) (x : Left) : Type 0 where
  pub lendable : Lendable f t x
  pub state : x.answer.state ≡ held_after (cores f) h s
  pub memory : x.memory ≡ data_of s
  pub shared : x.shared ≡ s.plant.shared
  pub whole : whole_of f x ≡ s

follows-step : (f t : List ℕ) → AcceptedSet f t → (h : Held) (s : State) (x : Left) → Follows f t h s x → (k : ℕ) → k < cores f
    → Follows f t h (step (task_of f t) k s) (leaves f t (stepping entire entire k) x)
unfolding pick
follows-step f t ok h s x w k l =
    let e = step-granted f t ok x w.lendable k l in
    let next : step (task_of f t) k (whole_of f x) ≡ step (task_of f t) k s = ap (step (task_of f t) k) w.whole in
    let y = step-counted f t ok x w.lendable entire entire k in
    record {
      lendable = y.lendable;
      state =
          ap (λ (z : Left). z.answer.state) e
          ∙ ap₂ (held_after (cores f)) w.state next
          ∙ held-twice (cores f) h s (step (task_of f t) k s);
      memory = ap (λ (z : Left). z.memory) e ∙ ap data_of next;
      shared = ap (λ (z : Left). z.shared) e ∙ ap (λ (z : State). z.plant.shared) next;
      whole =
          y.whole
          ∙ ap (λ (r : ℕ). run (task_of f t) (pick (eqb r 0) (k ∷ []) []) (whole_of f x)) (ap (λ (z : Left). z.answer.refusal) e)
          ∙ next;
    }

follows-steps : (f t : List ℕ) → AcceptedSet f t → (h : Held) (s : State) (x : Left) → Follows f t h s x → (ks : List ℕ) → all_below (cores f) ks ≡ true
    → Follows f t h (run (task_of f t) ks s) (step_calls f t ks x)
follows-steps f t ok h s x w [] e = w
follows-steps f t ok h s x w (k ∷ ks) e =
    let b = both_true _ _ e in
    follows-steps f t ok h (step (task_of f t) k s) (leaves f t (stepping entire entire k) x)
    (follows-step f t ok h s x w k (ltb-true k (cores f) b.0)) ks b.1

-- ---- the fresh state

-- a call stack of zeros
stack-zeros : (k : ℕ) → k < 4 → part (replicate 64 0) (16 * k) 16 ≡ replicate 16 0
unfolding part
stack-zeros zero l = refl
stack-zeros (suc zero) l = refl
stack-zeros (suc (suc zero)) l = refl
stack-zeros (suc (suc (suc zero))) l = refl
stack-zeros (suc (suc (suc (suc k)))) l = absurd (omega arith)

start-core : (f : List ℕ) → cores f ≤ 4 → (k : ℕ) → k < cores f
    → core_in f (replicate 4 (cleared 0 4)) (replicate 64 0) (replicate 64 0) (start_buffer f) k ≡ core (fresh_of f).plant k
unfolding start_buffer
start-core f few k i =
    same
    (get_or-replicate 4 k (cleared 0 4) no_registers (omega arith))
    (stack-zeros k (omega arith))
    (ap (λ (l : List (List ℕ)). get_or l k []) (split-flat-of (sizes_of f) (starts_of f) (start-sizes f)) ∙ listed_at (start_data f) (cores f) k [] i)
    ∙ sym (fresh-core f k i)
  where
    same : {r r' : Registers} {p p' m m' : List ℕ} → r ≡ r' → p ≡ p' → m ≡ m'
        → ◌≡◌ {A = Core} record { registers = r; stack = record { places = p; offsets = p }; memory = m } record { registers = r'; stack = record { places = p'; offsets = p' }; memory = m' }
    same a b x = λ z. record { registers = a z; stack = record { places = b z; offsets = b z }; memory = x z }

pub fresh-state : (f : List ℕ) → cores f ≤ 4 → state_of f (table_of (cores f) 4) (start_buffer f) (start_shared f) ≡ fresh_of f
unfolding state_in table_of
fresh-state f few =
    ap (λ (l : List Core). record { plant = record { cores = l; shared = start_shared f }; semaphore = record { holder = 0; line = [] } })
    (listed-is (core_in f (replicate 4 (cleared 0 4)) (replicate 64 0) (replicate 64 0) (start_buffer f)) (cores f) (map fresh_core (starts_of f)) absent (fresh-cores f) (start-core f few))

-- That f and t are bytes and that a state's arrays have their lengths is known of the types
module _ (f t : List ℕ) (bytes : (i : ℕ) → get_or f i 0 < 256) (trace-bytes : (i : ℕ) → get_or t i 0 < 256) where
  pub run-is-steps : (h : Held) → length h.cores ≡ 4 → length h.places ≡ 64 → length h.offsets ≡ 64 → (d sh order list : List ℕ)
      → run_refusal f t h d sh order list ≡ 0 → RunIsSteps f t h d sh order list
  unfolding run_call run_refusal ran_call state_in
  run-is-steps h four places offsets d sh order list e =
      let known = granted f t h _ _ _ _ e in
      let ok : AcceptedSet f t = accepted-set f t bytes trace-bytes known.accepted known.sound in
      let sized : Sized f h d sh = record { memory = known.memory; shared = known.shared-memory; places = places; offsets = offsets } in
      let fit = fit-accepted f t ok h d sh sized known.state in
      let few : length (semaphore_of h.semaphore).line ≤ 4 = line-few f t ok.few h (state_of f h d sh) fit.1 in
      let same : state_of f (tidied h) d sh ≡ state_of f h d sh = ap (λ (m : Semaphore). state_in f h.cores h.places h.offsets m d sh) (of-back (semaphore_of h.semaphore) few) in
      let start : Follows f t h (state_of f h d sh) (left_as (answer_of 0 (tidied h)) d sh []) = record {
        lendable = record {
          count = fit.0.0;
          line = few;
          sized = record { memory = known.memory; shared = known.shared-memory; places = places; offsets = offsets };
          fit = subst (Fit f t) (sym same) fit.1;
        };
        state = sym (held_back f h d sh four places offsets);
        memory = sym (data-back f h.cores h.places h.offsets (semaphore_of h.semaphore) d sh known.memory);
        shared = sym (shared-in f h.cores h.places h.offsets (semaphore_of h.semaphore) d sh);
        whole = same;
      } in
      let w = follows-steps f t ok h (state_of f h d sh) (left_as (answer_of 0 (tidied h)) d sh []) start order known.below in
      let q : run_call f t h d sh order list ≡ ran_call f t h d sh order list = pick_true _ _ _ (eq-eqb _ _ e) in
      record {
        state = ap (λ (z : Left). z.answer.state) q ∙ sym w.state;
        memory = ap (λ (z : Left). z.memory) q ∙ sym w.memory;
        shared = ap (λ (z : Left). z.shared) q ∙ sym w.shared;
        listed = ap (λ (z : Left). z.order) q;
        counted = ap (λ (z : Left). z.answer.taken) q ∙ length-map (takings (task_of f t) order (state_of f h d sh)) encoded;
      }

  module _ (d sh : List ℕ) (e : fresh_refusal f (length d) (length sh) ≡ 0) where
    abbrev started : Left
    started = left_as (answer_of 0 (table_of (cores f) 4)) (start_buffer f) (start_shared f) []

    fresh-left : fresh_call f d sh ≡ started
    unfolding fresh_call
    fresh-left = pick_true _ _ _ (eq-eqb _ _ e)

    fresh-lent : (judge f ≡ 0) × (length d ≡ total (sizes_of f)) × (length sh ≡ 1024)
    unfolding fresh_refusal
    fresh-lent =
        let a = next-zero _ _ e in
        let b = lent-sizes f (length d) (length sh) (unless-zero _ 20 a.1) in
        (a.0, b.0, b.1)

    -- the call for the fresh state leaves it
    pub fresh-whole : cores f ≤ 4 → whole_of f (fresh_call f d sh) ≡ fresh_of f
    fresh-whole few = ap (whole_of f) fresh-left ∙ fresh-state f few

    pub fresh-lendable : AcceptedSet f t → Lendable f t (fresh_call f d sh)
    unfolding table_of
    fresh-lendable ok = subst (Lendable f t) (sym fresh-left) record {
      count = refl;
      line = omega arith;
      sized = record { memory = length-buffer f; shared = length-shared f; places = length-replicate {A = ℕ} 64 0; offsets = length-replicate {A = ℕ} 64 0 };
      fit = subst (Fit f t) (sym (fresh-state f ok.few)) (fresh-fit f t ok);
    }

    pub calls-interleaved : trace_refusal f t ≡ 0 → (cs : List Call) → CallsInterleaved f t d sh cs
    calls-interleaved sound cs =
        let ok : AcceptedSet f t = accepted-set f t bytes trace-bytes fresh-lent.0 sound in
        let fresh-left = fresh-whole ok.few in
        let y = calls-counted f t ok cs (fresh_call f d sh) (fresh-lendable ok) in
        let ks = steps_of f t cs (fresh_call f d sh) in
        record {
          steps = y.0 ∙ ap (run (task_of f t) ks) fresh-left;
          taken = y.1 ∙ ap (λ (s : State). length (takings (task_of f t) ks s)) fresh-left;
          interleaved = interleaved-machine f t fresh-lent.0 ks;
        }
