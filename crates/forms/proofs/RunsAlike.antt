-- Two accepted files with the same cores, variables and code: every call is the same of both; and where their start values are the same, so is the fresh state.
-- In order: trace and task; the state, and its refusal; the calls; the two forms of a file. Assumes nothing.
use mathlib.Core.Path.{◌≡◌, refl, sym, ap, ap₂, ◌∙◌, subst}
use mathlib.Core.Bool.{Bool, true, not}
use mathlib.Core.List.{List, [], ◌∷◌, ◌++◌}
use Prim.Native.Nat.{ℕ, zero, suc, ◌+◌, ◌*◌}
use lib.Dec.{ltb, leb, eqb}
use lib.ListN.{length, get_or, replicate}
use Rattle.verdict.specs.Verdict.{pick, both, either, upto, next, unless}
use Rattle.verdict.proofs.Verdict.{pick_true}
use Rattle.memory.specs.Memory.{splice, read_le, part, word, total, split, flat}
use Rattle.protocol.specs.State.{Sample}
use Rattle.protocol.specs.Step.{in_line, step, run, taking_of, order_list}
use Rattle.protocol.specs.Registers.{flag_bound}
use Rattle.protocol.specs.Instruction.{instruction_by}
use Rattle.protocol.specs.Variables.{reads_of, writes_of}
use Rattle.protocol.specs.Fresh.{zeros}
use Rattle.processor.specs.Processor.{executed}
use Rattle.records.specs.File.{cores, data_size}
use Rattle.taskset.specs.Judge.{is_old, is_new, start_place, judge}
use Rattle.taskset.specs.Trace.{blank, trace_place, record_count, trace_refusal}
use Rattle.taskset.specs.Task.{listed, sizes_of, sample_at, samples_of}
use Rattle.taskset.specs.Starts.{with_pairs, start_data, with_written, start_shared, start_buffer}
use Rattle.taskset.proofs.Exact.{old-not-new}
use Rattle.taskset.proofs.Starts.{old-data}
use Rattle.semaphore.specs.Line.{semaphore_of}
use Rattle.states.specs.declared.Held.{Held}
use Rattle.states.specs.Task.{task_of}
use Rattle.states.specs.Machine.{no_registers, stack_in, state_in, state_of, held_after, data_of}
use Rattle.states.specs.Fit.{entry, execution_fit, exchanges_fit, freed_fit, core_fit, fit_at, may_wait, line_fit_in, line_fit, state_fit, state_refusal}
use Rattle.states.specs.Preparing.{held_refusal}
use Rattle.runner.specs.Runs.{all_below, Left, left_as, ran_call}
use Rattle.machine.specs.Calls.{lent_fits, call_refusal, answer_of, table_of, fresh_refusal, fresh_call, run_refusal, run_call, step_refusal, step_call}
use Rattle.calls.specs.Calling.{lent_of, Call, stepping, running, restored, leaves, calls, steps_in, steps_of}
use Rattle.forms.specs.Forms.{to_new, to_old}
use Rattle.forms.specs.BothWays.{SameTask, NoStarts, BecomesNew}
use Rattle.forms.specs.Alike.{RunsAlike}
use Rattle.forms.proofs.BothWays.{no-count, becomes-new, becomes-old}

module _ (f g t : List ℕ) (s : SameTask f g) (judged : judge f ≡ judge g) where
  -- ---- trace and task

  trace-place : (k : ℕ) → trace_place f t k ≡ trace_place g t k
  unfolding trace_place
  trace-place zero = refl
  trace-place (suc k) = ap₂ (λ (p n : ℕ). p + 2 + word t p * (4 + n)) (trace-place k) (s.input-size k)

  counts : (k : ℕ) → record_count f t k ≡ record_count g t k
  counts k = ap (λ (p : ℕ). pick (blank t) 1 (word t p)) (trace-place k)

  samples : (k : ℕ) → samples_of f t k ≡ samples_of g t k
  unfolding samples_of sample_at
  samples k = λ i.
      let size = s.input-size k i in
      listed (λ j. pick {A = Sample} (blank t) (record { time = 0; input = replicate size 0 })
      (record { time = read_le t (trace-place k i + 2 + j * (4 + size)) 4; input = part t (trace-place k i + 2 + j * (4 + size) + 4) size }))
      (counts k i) 0

  tasks : task_of f t ≡ task_of g t
  unfolding task_of
  tasks = λ i. record {
    samples = λ k. samples k i;
    reads = reads_of (s.all-variables i);
    writes = writes_of (s.all-variables i);
    limit = λ k. s.limits k i;
    instruction = instruction_by (λ k. s.limits k i) (λ k c. executed (s.code k i) c.registers c.memory);
  }

  -- ---- the state, and its refusal

  pub sizes : sizes_of f ≡ sizes_of g
  unfolding sizes_of
  sizes = λ i. listed (λ k. s.data-size k i) (s.number i) 0

  states : (h : Held) (d sh : List ℕ) → state_of f h d sh ≡ state_of g h d sh
  unfolding state_in
  states h d sh = λ i. record {
    plant = record {
      cores = listed (λ k. record { registers = get_or h.cores k no_registers; stack = stack_in h.places h.offsets k; memory = get_or (split (sizes i) d) k [] }) (s.number i) 0;
      shared = sh;
    };
    semaphore = semaphore_of h.semaphore;
  }

  fit : (h : Held) (k : ℕ) → fit_at f t h k ≡ fit_at g t h k
  unfolding fit_at core_fit
  fit h k = λ i.
      both (execution_fit (s.code k i) (s.data-size k i) (s.limits k i) (get_or h.cores k no_registers) (entry h.places k) (entry h.offsets k))
      (both (exchanges_fit (length (reads_of (s.all-variables i) k)) (length (writes_of (s.all-variables i) k)) (counts k i) h.semaphore.holder k (get_or h.cores k no_registers))
      (both (freed_fit (get_or h.cores k no_registers) (entry h.places k) (entry h.offsets k)) (ltb (get_or h.cores k no_registers).flags flag_bound)))

  line : (h : Held) (ks : List ℕ) → line_fit_in f t h ks ≡ line_fit_in g t h ks
  line h [] = refl
  line h (k ∷ ks) = λ i. both (not (in_line k ks)) (both (ltb k (s.number i)) (both (may_wait (counts k i) (get_or h.cores k no_registers)) (line h ks i)))

  state-refusal : (h : Held) → state_refusal f t h ≡ state_refusal g t h
  unfolding state_refusal state_fit line_fit
  state-refusal h = λ i.
      unless
      (both (eqb h.count (s.number i))
      (both (leb h.semaphore.holder (s.number i))
      (both (upto (λ k. fit h k i) (s.number i)) (both (leb h.semaphore.waiting 4) (line h (semaphore_of h.semaphore).line i)))))
      23

  trace-refusal : trace_refusal f t ≡ trace_refusal g t
  unfolding trace_refusal
  trace-refusal = ap (λ (p : ℕ). unless (either (blank t) (eqb p (length t))) 22) (trace-place (cores f) ∙ ap (trace_place g t) s.number)

  held-refusal : (h : Held) → held_refusal f t h ≡ held_refusal g t h
  unfolding held_refusal
  held-refusal h = ap₂ next trace-refusal (state-refusal h)

  pub fits : (buffer shared : ℕ) → lent_fits f buffer shared ≡ lent_fits g buffer shared
  unfolding lent_fits
  fits buffer shared = ap (λ (l : List ℕ). both (eqb buffer (total l)) (eqb shared 1024)) sizes

  call-refusal : (h : Held) (buffer shared : ℕ) (room named named' : Bool) → named ≡ named' → call_refusal f t h buffer shared room named ≡ call_refusal g t h buffer shared room named'
  unfolding call_refusal
  call-refusal h buffer shared room named named' e = λ i. next (judged i) (next (unless (both (fits buffer shared i) room) 21) (next (held-refusal h i) (unless (e i) 20)))

  -- ---- the calls

  step_same : (h : Held) (d sh : List ℕ) (k : ℕ) → step_call f t h d sh k ≡ step_call g t h d sh k
  unfolding step_call step_refusal
  step_same h d sh k = λ i.
      pick (eqb (refused i) 0)
      (left_as
      (record { refusal = 0; taken = length (taking_of (tasks i) k (states h d sh i)); state = held_after (s.number i) h (step (tasks i) k (states h d sh i)) })
      (data_of (step (tasks i) k (states h d sh i)))
      (step (tasks i) k (states h d sh i)).plant.shared
      [])
      (left_as (answer_of (refused i) h) d sh [])
    where
      refused : call_refusal f t h (length d) (length sh) true (ltb k (cores f)) ≡ call_refusal g t h (length d) (length sh) true (ltb k (cores g))
      refused = call-refusal h (length d) (length sh) true (ltb k (cores f)) (ltb k (cores g)) (ap (ltb k) s.number)

  run-same : (h : Held) (d sh order list : List ℕ) → run_call f t h d sh order list ≡ run_call g t h d sh order list
  unfolding run_call run_refusal ran_call
  run-same h d sh order list = λ i.
      pick (eqb (refused i) 0)
      (left_as
      (record { refusal = 0; taken = length (order_list (tasks i) order (states h d sh i)); state = held_after (s.number i) h (run (tasks i) order (states h d sh i)) })
      (data_of (run (tasks i) order (states h d sh i)))
      (run (tasks i) order (states h d sh i)).plant.shared
      (splice list 0 (order_list (tasks i) order (states h d sh i))))
      (left_as (answer_of (refused i) h) d sh list)
    where
      refused : call_refusal f t h (length d) (length sh) (leb (length order) (length list)) (all_below (cores f) order) ≡ call_refusal g t h (length d) (length sh) (leb (length order) (length list)) (all_below (cores g) order)
      refused = call-refusal h (length d) (length sh) (leb (length order) (length list)) (all_below (cores f) order) (all_below (cores g) order) (ap (λ (n : ℕ). all_below n order) s.number)

  leaves-same : (c : Call) (x : Left) → leaves f t c x ≡ leaves g t c x
  leaves-same (stepping a b k) x = ap (restored a b x) (step_same x.answer.state (lent_of a x.memory) (lent_of b x.shared) k)
  leaves-same (running a b order list) x = ap (restored a b x) (run-same x.answer.state (lent_of a x.memory) (lent_of b x.shared) order list)

  calls_same : (cs : List Call) (x : Left) → calls f t cs x ≡ calls g t cs x
  calls_same [] x = refl
  calls_same (c ∷ cs) x = calls_same cs (leaves f t c x) ∙ ap (calls g t cs) (leaves-same c x)

  steps-same : (cs : List Call) (x : Left) → steps_of f t cs x ≡ steps_of g t cs x
  steps-same [] x = refl
  steps-same (c ∷ cs) x =
      ap₂ (λ (a b : List ℕ). a ++ b) (ap (λ (y : Left). pick (eqb y.answer.refusal 0) (steps_in c) []) (leaves-same c x))
      (steps-same cs (leaves f t c x) ∙ ap (steps_of g t cs) (leaves-same c x))

  pub runs-alike : (d sh : List ℕ) → fresh_call f d sh ≡ fresh_call g d sh → (cs : List Call) → RunsAlike f g t d sh cs
  runs-alike d sh e cs = record {
    fresh = e;
    after = calls_same cs (fresh_call f d sh) ∙ ap (calls g t cs) e;
    steps = steps-same cs (fresh_call f d sh) ∙ ap (steps_of g t cs) e;
  }

-- ---- the two forms of a file

module _ (f : List ℕ) (accepted : judge f ≡ 0) (old : is_old f ≡ true) where
  new : BecomesNew f
  new = becomes-new f accepted old

  data-same : (k : ℕ) → start_data f k ≡ start_data (to_new f) k
  unfolding start_data with_pairs
  data-same k =
      old-data f (old-not-new f old) k
      ∙ ap zeros (new.same.data-size k)
      ∙ sym (ap (λ (n : ℕ). with_pairs (to_new f) (start_place (to_new f) k + 2) n (zeros (data_size (to_new f) k))) (pick_true (is_new (to_new f)) (word (to_new f) (start_place (to_new f) k)) 0 new.new ∙ no-count f accepted old k))

  pub fresh-same : (d sh : List ℕ) → fresh_call f d sh ≡ fresh_call (to_new f) d sh
  unfolding fresh_call fresh_refusal start_buffer start_shared
  fresh-same d sh = λ i.
      pick (eqb (refused i) 0)
      (left_as (answer_of 0 (table_of (new.same.number i) 4)) (flat (listed (λ k. data-same k i) (new.same.number i) 0)) (with_written (λ k. data-same k i) (new.same.all-variables i) (zeros 1024)) [])
      (left_as (answer_of (refused i) (table_of 0 0)) d sh [])
    where
      refused : next (judge f) (unless (lent_fits f (length d) (length sh)) 21) ≡ next (judge (to_new f)) (unless (lent_fits (to_new f) (length d) (length sh)) 21)
      refused = ap₂ (λ (r : ℕ) (b : Bool). next r (unless b 21)) (accepted ∙ sym new.accepted) (fits f (to_new f) [] new.same (accepted ∙ sym new.accepted) (length d) (length sh))

  pub new-runs-alike : (t d sh : List ℕ) (cs : List Call) → RunsAlike f (to_new f) t d sh cs
  new-runs-alike t d sh cs = runs-alike f (to_new f) t new.same (accepted ∙ sym new.accepted) d sh (fresh-same d sh) cs

pub old-runs-alike : (f : List ℕ) → judge f ≡ 0 → is_new f ≡ true → NoStarts f → (t d sh : List ℕ) (cs : List Call) → RunsAlike f (to_old f) t d sh cs
old-runs-alike f accepted new no_registers t d sh cs =
    let b = becomes-old f accepted new no_registers in
    let r : RunsAlike (to_old f) f t d sh cs = subst (λ (g : List ℕ). RunsAlike (to_old f) g t d sh cs) b.back (new-runs-alike (to_old f) b.accepted b.old t d sh cs) in
    record { fresh = sym r.fresh; after = sym r.after; steps = sym r.steps }
