-- Steps that carry a run on: one law for each outcome of an instruction, and for the idle steps of cores that wait. In order: an instruction;
-- a run hands its core over; waiting. Assumes nothing.
use mathlib.Core.Path.{◌≡◌, refl, sym, ap, ◌∙◌, subst, subst⁻¹}
use mathlib.Core.Bool.{true, not}
use mathlib.Core.Logic.{◌≢◌}
use mathlib.Core.List.{List, []}
use Prim.Native.Nat.{ℕ, zero, suc, ◌+◌, ◌-◌, ◌*◌, ◌<◌, ◌≤◌, min}
use native.Mathlib.Nat.{add-zero}
use native.Mathlib.Omega.{arith}
use borrow.Author.Tests.{not-true}
use lib.ListN.{length, get_or, set, length-set}
use lib.Seq.{get_or-set_same, set-set, set-get_or}
use Rattle.std.specs.Prelude.{Result, Ok, Err}
use Rattle.verdict.specs.Faults.{bit_of, fault_bit}
use Rattle.verdict.specs.declared.Fault.{Fault as Fault_of}
use Rattle.verdict.proofs.Verdict.{both_true}
use Rattle.memory.specs.Memory.{byte, part, split, total}
use Rattle.processor.specs.Typed.{outcome_of}
use Rattle.protocol.specs.declared.Registers.{Registers}
use Rattle.protocol.specs.declared.Outcome.{Outcome}
use Rattle.protocol.specs.declared.Outcome.TheVariants.{Fault as Failed, Next as Onward, Call as Calls, Return as Returns}
use Rattle.protocol.specs.Registers.{advanced, called, returned, cycle_ended, faulted, pushed, popped}
use Rattle.protocol.specs.State.{Semaphore, State}
use Rattle.protocol.specs.Modes.{executing}
use Rattle.protocol.specs.Step.{in_line, turn}
use Rattle.semaphore.specs.Line.{waits_at}
use Rattle.exchange.specs.declared.Cursor.{Cursor}
use Rattle.records.specs.File.{cores}
use Rattle.taskset.specs.Judge.{code_of}
use Rattle.taskset.specs.Task.{sizes_of}
use Rattle.states.specs.Set.{AcceptedSet}
use Rattle.states.specs.declared.CoreTask.{CoreTask}
use Rattle.states.specs.Tasks.{core_task}
use Rattle.states.specs.Machine.{no_registers}
use Rattle.steps.specs.Effects.{Idle, Fault, Next, Call, Return, CycleEnded, back_at, effect_of, Takes, Steps, InstructsIn}
use Rattle.steps.specs.Moving.{StepGiven, InstructionGiven}
use Rattle.steps.proofs.Given.{limit-low}
use Rattle.steps.proofs.Does.{does-wait}
use Rattle.order.specs.Order.{steps_on, Stretches, Waits}
use Rattle.runner.specs.Runs.{all_below}
use Rattle.runner.specs.Running.{faulted_by, executing_at, reached_of, reached_at, RunningAt, RunStands, CarriesRun, Reaches}
use Rattle.runner.specs.declared.Reached.{Reached}
use Rattle.order.proofs.Stretches.{step_in_lem, on-stretch}
use Rattle.runner.proofs.Running.{below_at}
use Rattle.runner.proofs.Loop.{ready, stays, plain-arm, stack-arm, after-advanced, after-called, after-returned, after-faulted, after-ended, returned-by, in-line}

-- ---- an instruction

-- no step yet
pub carry-none : (f t order : List ℕ) (k i : ℕ) (r : Registers) (places offsets d : List ℕ) → CarriesRun f t order k i r places offsets d i r places offsets d
carry-none f t order k i r places offsets d list₀ s₀ cs₀ places₀ offsets₀ cs h taken sh list cursor e w =
    subst (λ (u : List Registers). RunningAt f t order list₀ s₀ cs₀ places₀ offsets₀ i u places offsets h taken d sh list cursor) (sym (ap (set cs k) (sym e) ∙ set-get_or cs k no_registers)) w

-- with other names for the registers, the stacks and the data
pub carries-as : {f t order : List ℕ} {k from i : ℕ} {before : Registers} {p₀ o₀ d₀ places offsets d places' offsets' d' : List ℕ} {r r' : Registers}
    → r' ≡ r → places' ≡ places → offsets' ≡ offsets → d' ≡ d
    → CarriesRun f t order k from before p₀ o₀ d₀ i r places offsets d → CarriesRun f t order k from before p₀ o₀ d₀ i r' places' offsets' d'
carries-as {f} {t} {order} {k} {from} {i} {before} {p₀} {o₀} {d₀} {places} {offsets} {d} {places'} {offsets'} {d'} {r} {r'} a b e g w =
    subst⁻¹ (λ (u : Registers). CarriesRun f t order k from before p₀ o₀ d₀ i u places' offsets' d') a
    (subst⁻¹ (λ (u : List ℕ). CarriesRun f t order k from before p₀ o₀ d₀ i r u offsets' d') b
    (subst⁻¹ (λ (u : List ℕ). CarriesRun f t order k from before p₀ o₀ d₀ i r places u d') e
    (subst⁻¹ (λ (u : List ℕ). CarriesRun f t order k from before p₀ o₀ d₀ i r places offsets u) g w)))

pub instructs-as : {f t : List ℕ} {k : ℕ} {d d' : List ℕ} {r r' : Registers} (o : Outcome) → r ≡ r' → InstructsIn f t k r d o d' → InstructsIn f t k r' d o d'
instructs-as {f} {t} {k} {d} {d'} o e = subst (λ (u : Registers). InstructsIn f t k u d o d') e

-- the place of execution after an instruction
module _ (before : Registers) (counter offset depth count : ℕ) {counter' offset' depth' count' : ℕ} where
  pub advanced-at : {p : ℕ} → counter' ≡ p → offset' ≡ offset → depth' ≡ depth → count' ≡ count + 1
      → executing_at before counter' offset' depth' count' ≡ advanced p (executing_at before counter offset depth count)
  unfolding advanced
  advanced-at a b e n = λ i. executing_at before (a i) (b i) (e i) (n i)

  pub called_at : {p o : ℕ} → counter' ≡ p → offset' ≡ o → depth' ≡ depth + 1 → count' ≡ count + 1
      → executing_at before counter' offset' depth' count' ≡ called p o (executing_at before counter offset depth count)
  unfolding called
  called_at a b e n = λ i. executing_at before (a i) (b i) (e i) (n i)

  pub returned-at : {p o : ℕ} → counter' ≡ p → offset' ≡ o → depth' ≡ depth - 1 → count' ≡ count + 1
      → executing_at before counter' offset' depth' count' ≡ returned p o (executing_at before counter offset depth count)
  unfolding returned
  returned-at a b e n = λ i. executing_at before (a i) (b i) (e i) (n i)

-- the registers that an instruction does not change
pub record KeepsRest (before r : Registers) : Type 0 where
  pub exchange : r.exchange ≡ before.exchange
  pub cycles : r.cycles ≡ before.cycles
  pub time : r.time ≡ before.time

pub keeps_same : {r : Registers} → KeepsRest r r
keeps_same = record { exchange = refl; cycles = refl; time = refl }

pub keeps-executing : {before : Registers} {counter offset depth count : ℕ} → KeepsRest before (executing_at before counter offset depth count)
keeps-executing = record { exchange = refl; cycles = refl; time = refl }

keeps-faulted : {before r : Registers} (n : ℕ) → KeepsRest before r → KeepsRest before (faulted n r)
unfolding faulted
keeps-faulted n h = record { exchange = h.exchange; cycles = h.cycles; time = h.time }

keeps-ended : {before r : Registers} → KeepsRest before r → KeepsRest before (cycle_ended r)
unfolding cycle_ended
keeps-ended h = record { exchange = h.exchange; cycles = h.cycles; time = h.time }

-- the mode after a fault, and after the cycle's end
faulted-mode : (b : ℕ) (r : Registers) → (faulted b r).mode ≡ 5
unfolding faulted
faulted-mode b r = refl

ended-mode : (r : Registers) → (cycle_ended r).mode ≡ 3
unfolding cycle_ended
ended-mode r = refl

-- what a stretch hands over is what it promises: where it goes on, after a fault, and after the cycle's end
module _ {f t order : List ℕ} {k from : ℕ} {before : Registers} {p₀ o₀ d₀ : List ℕ} {x : Reached} {i : ℕ} {y : Registers} {places offsets d : List ℕ} (e : x ≡ reached_of i y) (l : from < i) where
  reaches : {r : Registers} → y ≡ r → KeepsRest before r → CarriesRun f t order k from before p₀ o₀ d₀ i r places offsets d → (r.mode ≡ executing → r.count + from ≡ before.count + i)
      → Reaches f t order k from before p₀ o₀ d₀ x places offsets d
  reaches {r} q h w n =
      subst⁻¹ (λ (z : Reached). Reaches f t order k from before p₀ o₀ d₀ z places offsets d) (e ∙ ap (reached_of i) q)
      record { onward = l; carries = carries-as same refl refl refl w; counted = n }
    where
      same : reached_at before (reached_of i r) ≡ r
      same = λ j. record { mode = r.mode; counter = r.counter; offset = r.offset; depth = r.depth; count = r.count; exchange = sym h.exchange j; cycles = sym h.cycles j; flags = r.flags; time = sym h.time j }

  pub reaches-on : {counter offset depth count : ℕ} → y ≡ executing_at before counter offset depth count
      → CarriesRun f t order k from before p₀ o₀ d₀ i (executing_at before counter offset depth count) places offsets d → count + from ≡ before.count + i
      → Reaches f t order k from before p₀ o₀ d₀ x places offsets d
  reaches-on q w n = reaches q keeps-executing w (λ m. n)

  pub reaches-fault : (n : ℕ) {r : Registers} → y ≡ faulted n r → KeepsRest before r → CarriesRun f t order k from before p₀ o₀ d₀ i (faulted n r) places offsets d
      → Reaches f t order k from before p₀ o₀ d₀ x places offsets d
  reaches-fault n {r} q h w = reaches q (keeps-faulted n h) w (λ m. absurd (omega (arith, sym (faulted-mode n r) ∙ m)))

  pub reaches-ended : {r : Registers} → y ≡ cycle_ended r → KeepsRest before r → CarriesRun f t order k from before p₀ o₀ d₀ i (cycle_ended r) places offsets d
      → Reaches f t order k from before p₀ o₀ d₀ x places offsets d
  reaches-ended {r} q h w = reaches q (keeps-ended h) w (λ m. absurd (omega (arith, sym (ended-mode r) ∙ m)))

-- what a typed command answers that did not end well
pub record Stopped {A : Type 0} (next : ℕ) (p : Result A Fault_of) (r : Registers) : Type 0 where
  pub bit : ℕ
  pub failed : outcome_of next p ≡ Failed bit
  pub marked : faulted_by (fault_bit p) r ≡ faulted bit r

pub stopped_by_lem : {A : Type 0} (next : ℕ) (p : Result A Fault_of) (r : Registers) → ((a : A) → p ≡ Ok a → ⊥) → Stopped next p r
stopped_by_lem next (Ok a) r n = absurd (n a refl)
stopped_by_lem next (Err f) r n = record { bit = bit_of f; failed = refl; marked = refl }

-- what holds of the run under way
module _ {f t order : List ℕ} {from i k : ℕ} {before r : Registers} {p₀ o₀ d₀ places offsets d : List ℕ} (s : RunStands f t order from k before p₀ o₀ d₀)
    (w : CarriesRun f t order k from before p₀ o₀ d₀ i r places offsets d) where
  under-way : RunningAt f t order s.list₀ s.s₀ s.cs₀ s.places₀ s.offsets₀ i (set s.cs k r) places offsets s.h s.taken d s.sh s.list s.cursor
  under-way = w _ _ _ _ _ _ _ _ _ _ _ s.here s.loops

  pub ready-now : {c : CoreTask} → c ≡ core_task f t k → StepGiven f t k c r (get_or (split (sizes_of f) d) k [])
  ready-now {c} e =
      subst (λ (u : Registers). StepGiven f t k c u (get_or (split (sizes_of f) d) k [])) (get_or-set_same s.cs k r no_registers (omega (arith, s.known, s.accepted.few, s.loops.running.four)))
      (ready s.accepted e under-way s.known)

  pub buffer-now : length d ≡ total (sizes_of f)
  buffer-now = under-way.running.buffer

  pub length-now : length d ≡ length d₀
  length-now = buffer-now ∙ sym s.loops.running.buffer

pub core-few : {f t order : List ℕ} {from k : ℕ} {before : Registers} {p₀ o₀ d₀ : List ℕ} → RunStands f t order from k before p₀ o₀ d₀ → k < 4
core-few s = omega (arith, s.known, s.accepted.few)

-- an instruction of core k at step i: any run that stood before step `from` stands before this one, and the core answers o
pub record Instructed (f t order : List ℕ) (k from : ℕ) (before : Registers) (p₀ o₀ d₀ : List ℕ) (i : ℕ) (r : Registers) (places offsets d : List ℕ) (o : Outcome) (d' : List ℕ) : Type 0 where
  pub accepted : AcceptedSet f t
  pub on : steps_on order i k ≡ true
  pub known : k < cores f
  pub carried : CarriesRun f t order k from before p₀ o₀ d₀ i r places offsets d
  pub answered : InstructsIn f t k r d o d'
  pub same : length d' ≡ length d

-- step i of a stretch: the core executes below its limit
pub record Turn (f t order : List ℕ) (k : ℕ) (c : CoreTask) (i : ℕ) (r : Registers) (d : List ℕ) : Type 0 where
  pub on : steps_on order i k ≡ true
  pub ready : StepGiven f t k c r (get_or (split (sizes_of f) d) k [])
  pub buffer : length d ≡ total (sizes_of f)
  pub executes : r.mode ≡ executing
  pub below : r.count < c.layout.limit
  pub low : c.layout.limit < 65536

module _ {f t order : List ℕ} {from k : ℕ} {before : Registers} {p₀ o₀ d₀ : List ℕ} (s : RunStands f t order from k before p₀ o₀ d₀) {c : CoreTask} (task : c ≡ core_task f t k)
    (mode : before.mode ≡ executing) (below : before.count ≡ c.layout.limit → ⊥) {end : ℕ} (st : Stretches order from (min (c.layout.limit - before.count) 256) k (end - from))
    {i counter offset depth : ℕ} {places offsets d : List ℕ} (l : from ≤ i) (h : i < end)
    (w : CarriesRun f t order k from before p₀ o₀ d₀ i (executing_at before counter offset depth (before.count + (i - from))) places offsets d) where
  pub turn-of : Turn f t order k c i (executing_at before counter offset depth (before.count + (i - from))) d
  turn-of =
      let ready = ready-now s w task in
      let limit = limit-low ready in
      let first = limit-low (ready-now s (carry-none f t order k from before p₀ o₀ d₀) task) in
      record {
        on = on-stretch st l (omega arith);
        ready = ready;
        buffer = buffer-now s w;
        executes = mode;
        below = under first.1;
        low = limit.0;
      }
    where
      under : before.count ≤ c.layout.limit → before.count + (i - from) < c.layout.limit
      under e = omega (arith, st.few)

  -- its instruction
  pub doing : {x : Registers} → x ≡ executing_at before counter offset depth (before.count + (i - from)) → (o : Outcome) {d' : List ℕ} → InstructsIn f t k x d o d' → length d' ≡ length d
      → Instructed f t order k from before p₀ o₀ d₀ i (executing_at before counter offset depth (before.count + (i - from))) places offsets d o d'
  doing e o y n = record { accepted = s.accepted; on = on-stretch st l (omega arith); known = s.known; carried = w; answered = instructs-as o e y; same = n }

-- what its function asks
pub given-at : {f t order : List ℕ} {k : ℕ} {c : CoreTask} {i : ℕ} {r : Registers} {d : List ℕ} → Turn f t order k c i r d → {x : Registers} → x ≡ r → {op : ℕ} → op ≡ byte (code_of f k) r.counter
    → InstructionGiven f t k c x d op
given-at {f} {t} {k = k} {c = c} {d = d} u e {op} a =
    subst⁻¹ (λ (y : Registers). InstructionGiven f t k c y d op) e
    record { ready = u.ready; buffer = u.buffer; executes = u.executes; below-limit = (λ z. omega (arith, u.below)); command = sym a }

module _ {f t order : List ℕ} {k from : ℕ} {before : Registers} {p₀ o₀ d₀ : List ℕ} {i : ℕ} {r : Registers} {places offsets d : List ℕ} {o : Outcome} {d' : List ℕ}
    (z : Instructed f t order k from before p₀ o₀ d₀ i r places offsets d o d') where
  here : (cs : List Registers) → length (set cs k r) ≡ 4 → get_or (set cs k r) k no_registers ≡ r
  here cs l = get_or-set_same cs k r no_registers (omega (arith, z.accepted.few, z.known, length-set cs k r))

  does : (cs : List Registers) → length (set cs k r) ≡ 4 → (h : Semaphore) (sh : List ℕ) → Steps f t k (get_or (set cs k r) k no_registers) d sh h (effect_of r.depth o) d' sh
  does cs l h sh = subst (λ (u : Registers). Steps f t k u d sh h (effect_of r.depth o) d' sh) (sym (here cs l)) (z.answered h sh)

  -- what the registers can take
  pub takes-outcome : (o₁ : Outcome) → o ≡ o₁ → Takes r (effect_of r.depth o₁)
  takes-outcome o₁ e = subst (λ (u : Outcome). Takes r (effect_of r.depth u)) e (z.answered record { holder = 0; line = [] } []).does.ready

  pub ended-takes : o ≡ Returns → r.depth ≡ 0 → r.count < 65535
  ended-takes e u = subst (Takes r) (ap back_at u) (takes-outcome Returns e)

  pub returned-takes : o ≡ Returns → r.depth ≢ 0 → (r.count < 65535) × (r.depth < 17)
  returned-takes e v = go r.depth refl v
    where
      go : (n : ℕ) → r.depth ≡ n → n ≢ 0 → (r.count < 65535) × (r.depth < 17)
      go zero q u = absurd (u refl)
      go (suc n) q u =
          let y : Takes r (Return n) = subst (Takes r) (ap back_at q) (takes-outcome Returns e) in
          (y.0, omega (arith, y.2))

  pub carry-next : (p : ℕ) → o ≡ Onward p → CarriesRun f t order k from before p₀ o₀ d₀ (i + 1) (advanced p r) places offsets d'
  carry-next p e list₀ s₀ cs₀ places₀ offsets₀ cs h taken sh list cursor u x =
      let v = z.carried list₀ s₀ cs₀ places₀ offsets₀ cs h taken sh list cursor u x in
      let q : advanced p r ≡ advanced p (get_or (set cs k r) k no_registers) = ap (advanced p) (sym (here cs v.running.four)) in
      plain-arm v z.accepted (step_in_lem order i k z.on).0 (step_in_lem order i k z.on).1 z.known (does cs v.running.four h sh) z.same
      (Next p) (ap (effect_of r.depth) e) refl refl q refl (sym (set-set cs k r (advanced p r))) refl refl refl (after-advanced p q refl) refl

  pub carry-fault : (n : ℕ) → o ≡ Failed n → CarriesRun f t order k from before p₀ o₀ d₀ (i + 1) (faulted n r) places offsets d'
  carry-fault n e list₀ s₀ cs₀ places₀ offsets₀ cs h taken sh list cursor u x =
      let v = z.carried list₀ s₀ cs₀ places₀ offsets₀ cs h taken sh list cursor u x in
      let q : faulted n r ≡ faulted n (get_or (set cs k r) k no_registers) = ap (faulted n) (sym (here cs v.running.four)) in
      plain-arm v z.accepted (step_in_lem order i k z.on).0 (step_in_lem order i k z.on).1 z.known (does cs v.running.four h sh) z.same
      (Fault n) (ap (effect_of r.depth) e) refl refl q refl (sym (set-set cs k r (faulted n r))) refl refl refl (after-faulted n q refl) refl

  pub carry-ended : o ≡ Returns → r.depth ≡ 0 → CarriesRun f t order k from before p₀ o₀ d₀ (i + 1) (cycle_ended r) places offsets d'
  carry-ended e a list₀ s₀ cs₀ places₀ offsets₀ cs h taken sh list cursor u x =
      let v = z.carried list₀ s₀ cs₀ places₀ offsets₀ cs h taken sh list cursor u x in
      let q : cycle_ended r ≡ cycle_ended (get_or (set cs k r) k no_registers) = ap cycle_ended (sym (here cs v.running.four)) in
      plain-arm v z.accepted (step_in_lem order i k z.on).0 (step_in_lem order i k z.on).1 z.known (does cs v.running.four h sh) z.same
      CycleEnded (ap (effect_of r.depth) e ∙ ap back_at a) refl refl q refl (sym (set-set cs k r (cycle_ended r))) refl refl refl (after-ended q refl) refl

  pub carry-call : (next target offset : ℕ) → o ≡ Calls next target offset
      → CarriesRun f t order k from before p₀ o₀ d₀ (i + 1) (called target offset r) (set places (16 * k + r.depth) next) (set offsets (16 * k + r.depth) r.offset) d'
  unfolding pushed
  carry-call next target offset e list₀ s₀ cs₀ places₀ offsets₀ cs h taken sh list cursor u x =
      let v = z.carried list₀ s₀ cs₀ places₀ offsets₀ cs h taken sh list cursor u x in
      let q : called target offset r ≡ called target offset (get_or (set cs k r) k no_registers) = ap (called target offset) (sym (here cs v.running.four)) in
      stack-arm v z.accepted (step_in_lem order i k z.on).0 (step_in_lem order i k z.on).1 z.known (does cs v.running.four h sh) z.same
      (Call next target offset) (ap (effect_of r.depth) e) refl q r.depth next r.offset (takes-outcome (Calls next target offset) e).1
      (ap (λ (a : Registers). pushed a.depth next a.offset record { places = part places (16 * k) 16; offsets = part offsets (16 * k) 16 }) (sym (here cs v.running.four)))
      refl (sym (set-set cs k r (called target offset r))) refl refl refl (after-called target offset q refl) refl

  pub carry-return : (n : ℕ) → o ≡ Returns → r.depth ≡ suc n
      → CarriesRun f t order k from before p₀ o₀ d₀ (i + 1) (returned (get_or places (16 * k + n) 0) (get_or offsets (16 * k + n) 0) r) (set places (16 * k + n) 0) (set offsets (16 * k + n) 0) d'
  unfolding popped
  carry-return n e a list₀ s₀ cs₀ places₀ offsets₀ cs h taken sh list cursor u x =
      let v = z.carried list₀ s₀ cs₀ places₀ offsets₀ cs h taken sh list cursor u x in
      let m : n < 16 = (subst (Takes r) (ap back_at a) (takes-outcome Returns e)).2 in
      let q : returned (get_or places (16 * k + n) 0) (get_or offsets (16 * k + n) 0) r ≡ returned (get_or places (16 * k + n) 0) (get_or offsets (16 * k + n) 0) (get_or (set cs k r) k no_registers)
      = ap (returned (get_or places (16 * k + n) 0) (get_or offsets (16 * k + n) 0)) (sym (here cs v.running.four)) in
      stack-arm v z.accepted (step_in_lem order i k z.on).0 (step_in_lem order i k z.on).1 z.known (does cs v.running.four h sh) z.same
      (Return n) (ap (effect_of r.depth) e ∙ ap back_at a) refl (returned-by (get_or (set cs k r) k no_registers) places offsets k n q refl refl m) n 0 0 m refl
      refl (sym (set-set cs k r _)) refl refl refl (after-returned _ _ q refl) refl

-- ---- a run hands its core over

pub stands : {f t : List ℕ} {order list₀ : List ℕ} {s₀ : State} {cs₀ : List Registers} {places₀ offsets₀ : List ℕ}
    {i : ℕ} {cs : List Registers} {places offsets : List ℕ} {h : Semaphore} {taken : ℕ} {d sh list : List ℕ} {cursor : Cursor} {k : ℕ} → AcceptedSet f t
    → RunningAt f t order list₀ s₀ cs₀ places₀ offsets₀ i cs places offsets h taken d sh list cursor → k < cores f → RunStands f t order i k (get_or cs k no_registers) places offsets d
stands {list₀ = list₀} {s₀ = s₀} {cs₀ = cs₀} {places₀ = places₀} {offsets₀ = offsets₀} {cs = cs} {h = h} {taken = taken} {sh = sh} {list = list} {cursor = cursor} ok w ik = record {
  accepted = ok;
  known = ik;
  list₀ = list₀;
  s₀ = s₀;
  cs₀ = cs₀;
  places₀ = places₀;
  offsets₀ = offsets₀;
  cs = cs;
  h = h;
  taken = taken;
  sh = sh;
  list = list;
  cursor = cursor;
  here = refl;
  loops = w;
}

-- ---- waiting

-- the step of a core that waits changes nothing
pub idle : {f t : List ℕ} {order list₀ : List ℕ} {s₀ : State} {cs₀ : List Registers} {places₀ offsets₀ : List ℕ}
    {i : ℕ} {cs : List Registers} {places offsets : List ℕ} {h : Semaphore} {taken : ℕ} {d sh list : List ℕ} {cursor : Cursor} → AcceptedSet f t
    → RunningAt f t order list₀ s₀ cs₀ places₀ offsets₀ i cs places offsets h taken d sh list cursor → i < length order → {k : ℕ} → k ≡ get_or order i 0 → k < cores f
    → waits_at h k ≡ true → RunningAt f t order list₀ s₀ cs₀ places₀ offsets₀ (i + 1) cs places offsets h taken d sh list cursor
idle {f} {cs = cs} {h = h} {d = d} ok w b {k} e ik z =
    let a = both_true (in_line k h.line) (not (turn h k)) z in
    plain-arm w ok b e ik
    record { memory = get_or (split (sizes_of f) d) k []; does = does-wait _ _ _ _ _ _ a.0 (not-true _ a.1) (in-line w ik a.0); kept = sym (set-get_or (split (sizes_of f) d) k []) }
    refl Idle refl refl refl refl refl (sym (set-get_or cs k no_registers)) refl refl refl (stays (λ a. a) refl) refl

-- and so do the steps of such cores from i up to j, n of them
pub idle-on : {f t : List ℕ} {order list₀ : List ℕ} {s₀ : State} {cs₀ : List Registers} {places₀ offsets₀ : List ℕ}
    {i : ℕ} {cs : List Registers} {places offsets : List ℕ} {h : Semaphore} {taken : ℕ} {d sh list : List ℕ} {cursor : Cursor} → AcceptedSet f t → all_below (cores f) order ≡ true
    → RunningAt f t order list₀ s₀ cs₀ places₀ offsets₀ i cs places offsets h taken d sh list cursor → (n : ℕ) → i + n ≤ length order → Waits order h i (i + n)
    → RunningAt f t order list₀ s₀ cs₀ places₀ offsets₀ (i + n) cs places offsets h taken d sh list cursor
idle-on {f} {t} {order} {list₀} {s₀} {cs₀} {places₀} {offsets₀} {i} {cs} {places} {offsets} {h} {taken} {d} {sh} {list} {cursor} ok low w zero b z =
    subst (λ (j : ℕ). RunningAt f t order list₀ s₀ cs₀ places₀ offsets₀ j cs places offsets h taken d sh list cursor) (sym (add-zero i)) w
idle-on {f} {t} {order} {list₀} {s₀} {cs₀} {places₀} {offsets₀} {i} {cs} {places} {offsets} {h} {taken} {d} {sh} {list} {cursor} ok low w (suc n) b z =
    let within : i + n < length order = omega arith in
    let on = idle-on ok low w n (omega arith) (λ m a c. z m a (omega arith)) in
    let next : (i + n) + 1 ≡ i + suc n = omega arith in
    subst (λ (j : ℕ). RunningAt f t order list₀ s₀ cs₀ places₀ offsets₀ j cs places offsets h taken d sh list cursor) next
    (idle ok on within refl (below_at (cores f) order (i + n) low within) (z (i + n) (omega arith) (omega arith)))

-- the step of a core that waits, and those of such cores that follow it
pub waited : {f t : List ℕ} {order list₀ : List ℕ} {s₀ : State} {cs₀ : List Registers} {places₀ offsets₀ : List ℕ}
    {i : ℕ} {cs : List Registers} {places offsets : List ℕ} {h : Semaphore} {taken : ℕ} {d sh list : List ℕ} {cursor : Cursor} → AcceptedSet f t → all_below (cores f) order ≡ true
    → RunningAt f t order list₀ s₀ cs₀ places₀ offsets₀ i cs places offsets h taken d sh list cursor → i < length order → waits_at h (get_or order i 0) ≡ true
    → (j : ℕ) → i + 1 ≤ j → j ≤ length order → Waits order h (i + 1) j
    → RunningAt f t order list₀ s₀ cs₀ places₀ offsets₀ j cs places offsets h taken d sh list cursor
waited {f} {t} {order} {list₀} {s₀} {cs₀} {places₀} {offsets₀} {i} {cs} {places} {offsets} {h} {taken} {d} {sh} {list} {cursor} ok low w b e j a c z =
    let n = j - (i + 1) in
    let q : (i + 1) + n ≡ j = omega arith in
    let first = idle ok w b refl (below_at (cores f) order i low b) e in
    subst (λ (m : ℕ). RunningAt f t order list₀ s₀ cs₀ places₀ offsets₀ m cs places offsets h taken d sh list cursor) q
    (idle-on ok low first n (rw q c) (λ m u v. z m u (rw q at v)))
