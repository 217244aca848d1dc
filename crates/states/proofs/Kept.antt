-- Every step of a core keeps a state fit. In order: the flag byte; an instruction; the nine cases of a step.
-- Assumes nothing.
use mathlib.Core.Path.{◌≡◌, refl, ap, ◌∙◌}
use mathlib.Core.Logic.{◌≢◌, ◌⊎◌, inl, inr}
use mathlib.Core.Bool.{Bool}
use mathlib.Core.List.{List, ◌∷◌}
use Prim.Native.Nat.{ℕ, zero, suc, ◌+◌, ◌≤◌, ◌<◌}
use native.Mathlib.Omega.{arith}
use lib.Dec.{eqb, ltb, ltb→lt}
use lib.ListN.{length, take, drop, length-drop, length-set}
use Rattle.memory.proofs.Laws.{length-splice}
use borrow.Author.Tests.{eqb-false}
use Rattle.verdict.specs.Verdict.{upto}
use Rattle.verdict.proofs.Verdict.{below, by-pick}
use Rattle.protocol.specs.declared.Registers.{Registers}
use Rattle.protocol.specs.declared.Stack.{Stack}
use Rattle.protocol.specs.declared.Outcome.{Outcome}
use Rattle.protocol.specs.declared.Outcome.TheVariants.{Fault, Next, Call, Return}
use Rattle.protocol.specs.Registers.{with_flag, warm, read_acquired, byte_copied, read_released, write_acquired, write_released, advanced, called, returned, cycle_ended, faulted, flag_bound}
use Rattle.protocol.specs.State.{Core, Semaphore, State, Task, Move, Sample, mode}
use Rattle.protocol.specs.Step.{acquired_by, released, uncopied, read_taken, read_next, read_done, write_taken, write_next, write_done, step, Taking, taking_of}
use Rattle.protocol.specs.Instruction.{Executed, back_from, applied_by, applied, halted, limited, instruction_by}
use Rattle.protocol.specs.Variables.{reads_of, writes_of}
use Rattle.protocol.specs.Laws.{Laws, SemaphoreHeld}
use Rattle.protocol.specs.Fair.{FitLine}
use Rattle.protocol.proofs.Lined.{Lined, fit-step}
use Rattle.protocol.proofs.View.{after, at, read_byte, write_byte, Moves, rests, waits, takes_read, reads_on, reads_last, runs, takes_write, writes_on, writes_last, view, inside}
use Rattle.protocol.proofs.Steps.{each, lengths, SameLengths, held-step}
use Rattle.protocol.proofs.Copy.{copy-length}
use Rattle.processor.specs.Placed.{Placed}
use Rattle.processor.specs.Processor.{executed}
use Rattle.records.specs.File.{cores, data_size, limit}
use Rattle.taskset.specs.Judge.{code_of}
use Rattle.taskset.specs.Task.{variables_of, samples_of, sample_at}
use Rattle.taskset.specs.Trace.{record_count}
use Rattle.states.specs.Task.{task_of}
use Rattle.states.specs.Fit.{FitCore, Fit}
use Rattle.states.specs.Set.{AcceptedSet}
use Rattle.states.proofs.Line.{records-left}
use Rattle.taskset.proofs.Accepted.{length-listed}

-- ---- the flag byte stays lawful

lawful : ℕ → ℕ → Bool
lawful b f = ltb (with_flag b f) flag_bound

cooler : ℕ → Bool
cooler f = ltb (warm f) flag_bound

flag-lawful : (b f : ℕ) → b < 7 → f < flag_bound → with_flag b f < flag_bound
unfolding lawful with_flag
flag-lawful b f h k = ltb→lt (with_flag b f) flag_bound (below (lawful b) flag_bound (below (λ i. upto (lawful i) flag_bound) 7 tt b h) f k)

warm_lawful : (f : ℕ) → f < flag_bound → warm f < flag_bound
unfolding cooler warm
warm_lawful f k = ltb→lt (warm f) flag_bound (below cooler flag_bound tt f k)

-- ---- an instruction

-- a fault has one of the lawful bits
abbrev pub Bits : Outcome → Type 0
Bits (Fault b) = b < 7
Bits (Next p) = Unit {0}
Bits (Call next target offset) = Unit {0}
Bits Return = Unit {0}

-- what an outcome leaves of a core in mode 2, but for its places
record Sane (c c' : Core) : Type 0 where
  modes : (mode c' ≡ 2) ⊎ ((mode c' ≡ 3) ⊎ (mode c' ≡ 5))
  shallow : mode c' ≡ 3 → c'.registers.depth ≡ 0
  counts : c'.registers.count ≤ c.registers.count + 1
  exchange : c'.registers.exchange ≡ c.registers.exchange
  cycles : c'.registers.cycles ≡ c.registers.cycles
  flags : c.registers.flags < flag_bound → c'.registers.flags < flag_bound

sane-back : (d : ℕ) (m : List ℕ) (c : Core) → mode c ≡ 2 → c.registers.depth ≡ d → Sane c (back_from d m c)
unfolding cycle_ended returned
sane-back zero m c e h = record { modes = inr (inl refl); shallow = λ f. h; counts = omega arith; exchange = refl; cycles = refl; flags = λ f. f }
sane-back (suc d) m c e h = record { modes = inl e; shallow = λ f. absurd (omega arith); counts = omega arith; exchange = refl; cycles = refl; flags = λ f. f }

sane : (o : Outcome) (m : List ℕ) (c : Core) → mode c ≡ 2 → Bits o → Sane c (applied_by o m c)
unfolding faulted advanced called
sane (Fault b) m c e h =
    record { modes = inr (inr refl); shallow = λ f. absurd (omega arith); counts = omega arith; exchange = refl; cycles = refl; flags = flag-lawful b c.registers.flags h }
sane (Next p) m c e h = record { modes = inl e; shallow = λ f. absurd (omega arith); counts = omega arith; exchange = refl; cycles = refl; flags = λ f. f }
sane (Call next target offset) m c e h =
    record { modes = inl e; shallow = λ f. absurd (omega arith); counts = omega arith; exchange = refl; cycles = refl; flags = λ f. f }
sane Return m c e h = sane-back c.registers.depth m c e refl

-- the count after an instruction is within the limit, if it was before
within-limit : (l : ℕ) (x : Executed) (c : Core) → mode c ≡ 2 → c.registers.count ≤ l → Bits x.outcome → (Sane c (applied (limited l x c) c)) × ((applied (limited l x c) c).registers.count ≤ l)
unfolding limited applied faulted
within-limit l x c e h b =
    by-pick (λ y. (Sane c (applied_by y.outcome y.memory c)) × ((applied_by y.outcome y.memory c).registers.count ≤ l)) (eqb c.registers.count l) (halted 1 c.memory) x
    (λ z. (sane (Fault 1) c.memory c e (omega arith), stopped))
    (λ z. let s = sane x.outcome x.memory c e b in (s, let n : (c.registers.count ≡ l → ⊥) = eqb-false c.registers.count l z in let k = s.counts in omega arith))
  where
    stopped : (faulted 1 c.registers).count ≤ l
    stopped = h

instruction-sane : (f t : List ℕ) (k : ℕ) (c : Core) → mode c ≡ 2 → c.registers.count ≤ limit f k → Bits (executed (code_of f k) c.registers c.memory).outcome
    → (Sane c ((task_of f t).instruction k c)) × (((task_of f t).instruction k c).registers.count ≤ limit f k)
unfolding task_of instruction_by
instruction-sane f t k c e h b = within-limit (limit f k) (executed (code_of f k) c.registers c.memory) c e h b

-- ---- the cases of a step

-- what the processor keeps of a core's places, and its faults
pub record Executes (f t : List ℕ) : Type 0 where
  pub placed : (k : ℕ) → k < cores f → (c : Core) → mode c ≡ 2 → length c.memory ≡ data_size f k → Placed (code_of f k) (data_size f k) c.registers c.stack
      → Placed (code_of f k) (data_size f k) ((task_of f t).instruction k c).registers ((task_of f t).instruction k c).stack
  pub bits : (k : ℕ) (c : Core) → Bits (executed (code_of f k) c.registers c.memory).outcome
  pub laws : Laws (task_of f t)

-- Placed says nothing of the other registers
placed_by : {c : List ℕ} {n : ℕ} (r r' : Registers) {k : Stack} → r'.counter ≡ r.counter → r'.offset ≡ r.offset → r'.depth ≡ r.depth → Placed c n r k → Placed c n r' k
placed_by r r' a b d p = record {
  counter = rw a p.counter;
  offset = rw b p.offset;
  depth = rw d p.depth;
  places = p.places;
  offsets = p.offsets;
  freed = λ i h. p.freed i (rw d at h);
  sixteen = p.sixteen;
}

drop-long : {A : Type 0} (l : List A) (n : ℕ) (x : A) (xs : List A) → drop n l ≡ x ∷ xs → n < length l
drop-long l n x xs e = let h : length (drop n l) ≡ length (x ∷ xs) = ap length e in omega (arith, length-drop n l)

drop_more : {A : Type 0} (l : List A) (n : ℕ) (x : A) (xs : List A) → drop 1 (drop n l) ≡ x ∷ xs → n + 1 ≤ length l
drop_more l n x xs e =
    let h : length (drop 1 (drop n l)) ≡ length (x ∷ xs) = ap length e in
    omega (arith, length-drop 1 (drop n l), length-drop n l)

read_length : (t : Task) (k : ℕ) (s : State) → length (read_byte t k s) ≡ length (at s k).memory
read_length t k s = copy-length (take 1 (uncopied (at s k) (t.reads k))) s.plant.shared (at s k).memory

module _ (f t : List ℕ) (ok : AcceptedSet f t) (ex : Executes f t) (k : ℕ) (s : State) (fit : Fit f t s) where
  -- core k and the rest of the state after a step
  fit-after : (c : Core) (sh : List ℕ) (h : Semaphore) → k < length s.plant.cores → FitCore f t k c → SemaphoreHeld (after s k c sh h) → FitLine (task_of f t) (after s k c sh h) → length sh ≡ 1024 → Fit f t (after s k c sh h)
  fit-after c sh h i x held line long = record {
    table = length-set s.plant.cores k c ∙ fit.table;
    each = each (λ j y. j < cores f → FitCore f t j y) s.plant.cores k c i (λ z. x) (λ j n z. fit.each j z);
    held = held;
    line = line;
    shared = long;
  }

  mine : k < length s.plant.cores → FitCore f t k (at s k)
  mine i = fit.each k (rw fit.table at i)

  there : k < length s.plant.cores → k < cores f
  there i = rw fit.table at i

  by-takes_read : (r : Sample) (rs : List Sample) → k < length s.plant.cores → mode (at s k) ≡ 0 → drop (at s k).registers.cycles (samples_of f t k) ≡ r ∷ rs
      → FitCore f t k (read_taken r (at s k))
  unfolding read_taken read_acquired samples_of
  by-takes_read r rs i e d =
      let x = mine i in
      record {
        modes = omega arith;
        placed = placed_by (at s k).registers _ refl refl refl x.placed;
        shallow = λ a b. x.shallow (omega arith) (omega arith);
        counts = x.counts;
        reading = λ a. omega arith;
        writing = λ a. absurd (omega arith);
        outside = λ a b. refl;
        cycles = x.cycles;
        under-way = λ a b. omega (arith, drop-long (samples_of f t k) (at s k).registers.cycles r rs d, length-listed (sample_at f t k) (record_count f t k) 0);
        flags = x.flags;
        size = length-splice (at s k).memory 0 r.input ∙ x.size;
      }

  by-reads_on : (m : Move) (ms : List Move) → k < length s.plant.cores → mode (at s k) ≡ 1 → drop 1 (uncopied (at s k) (reads_of (variables_of f) k)) ≡ m ∷ ms
      → length (read_byte (task_of f t) k s) ≡ length (at s k).memory → FitCore f t k (read_next (read_byte (task_of f t) k s) (at s k))
  unfolding read_next byte_copied
  by-reads_on m ms i e d l =
      let x = mine i in
      record {
        modes = x.modes;
        placed = placed_by (at s k).registers _ refl refl refl x.placed;
        shallow = x.shallow;
        counts = x.counts;
        reading = λ a. drop_more (reads_of (variables_of f) k) (at s k).registers.exchange m ms d;
        writing = λ a. absurd (omega arith);
        outside = λ a b. absurd (a e);
        cycles = x.cycles;
        under-way = x.under-way;
        flags = x.flags;
        size = l ∙ x.size;
      }

  by-reads_last : k < length s.plant.cores → mode (at s k) ≡ 1 → length (read_byte (task_of f t) k s) ≡ length (at s k).memory
      → FitCore f t k (read_done (read_byte (task_of f t) k s) (at s k))
  unfolding read_done read_released
  by-reads_last i e l =
      let x = mine i in
      let zero : (at s k).registers.depth ≡ 0 = x.shallow (omega arith) (omega arith) in
      record {
        modes = omega arith;
        placed = record {
          counter = ok.start k (there i);
          offset = (ok.data-size k (there i)).0;
          depth = omega arith;
          places = x.placed.places;
          offsets = x.placed.offsets;
          freed = λ j h. x.placed.freed j (rw zero (omega arith));
          sixteen = x.placed.sixteen;
        };
        shallow = λ a b. refl;
        counts = omega arith;
        reading = λ a. absurd (omega arith);
        writing = λ a. absurd (omega arith);
        outside = λ a b. refl;
        cycles = x.cycles;
        under-way = λ a b. x.under-way (omega arith) (omega arith);
        flags = x.flags;
        size = l ∙ x.size;
      }

  by_runs : k < length s.plant.cores → mode (at s k) ≡ 2 → FitCore f t k ((task_of f t).instruction k (at s k))
  by_runs i e =
      let x = mine i in
      let y = run-sane x in
      let z : Sane (at s k) ((task_of f t).instruction k (at s k)) = y.0 in
      record {
        modes = small z.modes;
        placed = ex.placed k (there i) (at s k) e x.size x.placed;
        shallow = λ a b. z.shallow (third z.modes a b);
        counts = y.1;
        reading = λ a. absurd (not-one z.modes a);
        writing = λ a. absurd (not-four z.modes a);
        outside = λ a b. z.exchange ∙ x.outside (omega arith) (omega arith);
        cycles = rw z.cycles x.cycles;
        under-way = λ a b. rw z.cycles (x.under-way (omega arith) (omega arith));
        flags = z.flags x.flags;
        size = ex.laws.keeps k (at s k) e ∙ x.size;
      }
    where
      run-sane : FitCore f t k (at s k) → (Sane (at s k) ((task_of f t).instruction k (at s k))) × (((task_of f t).instruction k (at s k)).registers.count ≤ limit f k)
      run-sane x = instruction-sane f t k (at s k) e x.counts (ex.bits k (at s k))

      small : {m : ℕ} → (m ≡ 2) ⊎ ((m ≡ 3) ⊎ (m ≡ 5)) → m ≤ 5
      small (inl a) = omega arith
      small (inr (inl a)) = omega arith
      small (inr (inr a)) = omega arith

      third : {m : ℕ} → (m ≡ 2) ⊎ ((m ≡ 3) ⊎ (m ≡ 5)) → m ≢ 2 → m ≢ 5 → m ≡ 3
      third (inl a) b d = absurd (b a)
      third (inr (inl a)) b d = a
      third (inr (inr a)) b d = absurd (d a)

      not-one : {m : ℕ} → (m ≡ 2) ⊎ ((m ≡ 3) ⊎ (m ≡ 5)) → m ≡ 1 → ⊥
      not-one (inl a) b = omega arith
      not-one (inr (inl a)) b = omega arith
      not-one (inr (inr a)) b = omega arith

      not-four : {m : ℕ} → (m ≡ 2) ⊎ ((m ≡ 3) ⊎ (m ≡ 5)) → m ≡ 4 → ⊥
      not-four (inl a) b = omega arith
      not-four (inr (inl a)) b = omega arith
      not-four (inr (inr a)) b = omega arith

  by-takes_write : k < length s.plant.cores → mode (at s k) ≡ 3 → FitCore f t k (write_taken (at s k))
  unfolding write_taken write_acquired
  by-takes_write i e =
      let x = mine i in
      record {
        modes = omega arith;
        placed = placed_by (at s k).registers _ refl refl refl x.placed;
        shallow = λ a b. x.shallow (omega arith) (omega arith);
        counts = x.counts;
        reading = λ a. absurd (omega arith);
        writing = λ a. omega arith;
        outside = λ a b. refl;
        cycles = x.cycles;
        under-way = λ a b. x.under-way (omega arith) (omega arith);
        flags = x.flags;
        size = x.size;
      }

  by-writes_on : (m : Move) (ms : List Move) → k < length s.plant.cores → mode (at s k) ≡ 4 → drop 1 (uncopied (at s k) (writes_of (variables_of f) k)) ≡ m ∷ ms
      → FitCore f t k (write_next (at s k))
  unfolding write_next byte_copied
  by-writes_on m ms i e d =
      let x = mine i in
      record {
        modes = x.modes;
        placed = placed_by (at s k).registers _ refl refl refl x.placed;
        shallow = x.shallow;
        counts = x.counts;
        reading = λ a. absurd (omega arith);
        writing = λ a. drop_more (writes_of (variables_of f) k) (at s k).registers.exchange m ms d;
        outside = λ a b. absurd (b e);
        cycles = x.cycles;
        under-way = x.under-way;
        flags = x.flags;
        size = x.size;
      }

  by-writes_last : k < length s.plant.cores → mode (at s k) ≡ 4 → FitCore f t k (write_done (at s k))
  unfolding write_done write_released
  by-writes_last i e =
      let x = mine i in
      record {
        modes = omega arith;
        placed = placed_by (at s k).registers _ refl refl refl x.placed;
        shallow = λ a b. x.shallow (omega arith) (omega arith);
        counts = x.counts;
        reading = λ a. absurd (omega arith);
        writing = λ a. absurd (omega arith);
        outside = λ a b. refl;
        cycles = omega (arith, x.under-way (omega arith) (omega arith));
        under-way = λ a b. absurd (omega arith);
        flags = warm_lawful (at s k).registers.flags x.flags;
        size = x.size;
      }

  fit-moved : (s' : State) (ts : List Taking) → Moves (task_of f t) k s s' ts → SemaphoreHeld s' → FitLine (task_of f t) s' → SameLengths s s' → Fit f t s'
  unfolding task_of
  fit-moved s' ts (rests z) held line same = fit
  fit-moved s' ts (waits i z b) held line same = record { table = fit.table; each = fit.each; held = held; line = line; shared = fit.shared }
  fit-moved s' ts (takes_read r rs i g b e d) held line same = fit-after (read_taken r (at s k)) s.plant.shared (acquired_by k s.semaphore) i (by-takes_read r rs i e d) held line fit.shared
  fit-moved s' ts (reads_on m ms i e d) held line same =
      fit-after (read_next (read_byte (task_of f t) k s) (at s k)) s.plant.shared s.semaphore i (by-reads_on m ms i e d (read_length (task_of f t) k s)) held line fit.shared
  fit-moved s' ts (reads_last i e d) held line same =
      fit-after (read_done (read_byte (task_of f t) k s) (at s k)) s.plant.shared (released s.semaphore) i (by-reads_last i e (read_length (task_of f t) k s)) held line fit.shared
  fit-moved s' ts (runs i e) held line same = fit-after ((task_of f t).instruction k (at s k)) s.plant.shared s.semaphore i (by_runs i e) held line fit.shared
  fit-moved s' ts (takes_write i g b e) held line same = fit-after (write_taken (at s k)) s.plant.shared (acquired_by k s.semaphore) i (by-takes_write i e) held line fit.shared
  fit-moved s' ts (writes_on m ms i e d) held line same =
      fit-after (write_next (at s k)) (write_byte (task_of f t) k s) s.semaphore i (by-writes_on m ms i e d) held line (same.shared ∙ fit.shared)
  fit-moved s' ts (writes_last i e d) held line same =
      fit-after (write_done (at s k)) (write_byte (task_of f t) k s) (released s.semaphore) i (by-writes_last i e) held line (same.shared ∙ fit.shared)

  -- a core in a cycle has records left
  lined : Lined (task_of f t) s
  lined = record {
    fit = fit.line;
    held = fit.held;
    supplied = λ j a b. records-left f t j (at s j).registers.cycles ((fit.each j (rw fit.table at (inside s.plant.cores j (mode (at s j)) refl (omega arith)))).under-way a b);
  }

-- Every step of every core keeps a fit state fit
pub fit-kept : (f t : List ℕ) → AcceptedSet f t → Executes f t → (k : ℕ) (s : State) → Fit f t s → Fit f t (step (task_of f t) k s)
fit-kept f t ok ex k s fit =
    let same = lengths (task_of f t) ex.laws k s in
    fit-moved f t ok ex k s fit (step (task_of f t) k s) (taking_of (task_of f t) k s) (view (task_of f t) k s) (held-step (task_of f t) ex.laws k s fit.held)
    (fit-step (task_of f t) ex.laws k s (lined f t ok ex k s fit) (step (task_of f t) k s) (taking_of (task_of f t) k s) (view (task_of f t) k s)) same
