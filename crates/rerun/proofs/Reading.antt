-- A reading done whole, with the execution after it, is what the whole-exchange machine does. In order: core k of a state; the next record; the core as its
-- execution starts; the state then; its end. Assumes nothing.
use mathlib.Core.Path.{◌≡◌, refl, sym, ap, ◌∙◌, subst}
use mathlib.Core.Logic.{◌≢◌, inl, inr}
use mathlib.Core.List.{List, [], ◌∷◌}
use Prim.Native.Nat.{ℕ, zero, suc, ◌-◌, ◌≤◌, ◌<◌}
use native.Mathlib.Decide.{ℕ_discrete}
use native.Mathlib.Omega.{arith}
use lib.ListN.{length, get_or, set, drop, replicate, length-set}
use lib.Seq.{get_or-set_same, get_or-set_other, set-set, drop-cons}
use Rattle.memory.specs.Memory.{split, total}
use Rattle.memory.proofs.Laws.{length-splice}
use Rattle.memory.proofs.Cores.{length-split}
use Rattle.protocol.specs.declared.Registers.{Registers}
use Rattle.protocol.specs.Registers.{read_acquired, read_released}
use Rattle.protocol.specs.State.{Core, Plant, Semaphore, State, Task, Sample, absent, core, mode, put, untaken}
use Rattle.protocol.specs.Step.{copy, read_taken, read_done, step, run, Taking, reading}
use Rattle.protocol.specs.Whole.{execute, whole_one, whole}
use Rattle.protocol.specs.Laws.{Still, Holding}
use Rattle.protocol.specs.Variables.{reads_of}
use Rattle.protocol.proofs.Copy.{copy-length}
use Rattle.protocol.proofs.Steps.{each, others-stay, nobody}
use Rattle.protocol.proofs.Whole.{Sim, sim-run, sim-still, sim-at-rest, ended_in, ended}
use Rattle.records.specs.File.{cores}
use Rattle.taskset.specs.Task.{sizes_of, variables_of, sample_at, samples_of}
use Rattle.taskset.specs.Trace.{record_count}
use Rattle.taskset.proofs.Accepted.{length-listed, listed_at, sizes-length}
use Rattle.states.specs.declared.CoreTask.{CoreTask}
use Rattle.states.specs.Task.{task_of}
use Rattle.states.specs.Tasks.{core_task}
use Rattle.states.specs.Machine.{no_registers, stack_in, core_in, state_in}
use Rattle.states.specs.Fit.{FitCore, Fit}
use Rattle.states.specs.Set.{AcceptedSet}
use Rattle.states.proofs.Executes.{executes}
use Rattle.states.proofs.Tables.{listed-set}
use Rattle.steps.specs.Moving.{StepGiven}
use Rattle.runner.specs.Executing.{Standing, ExecutionGiven, Executes, Stretch}
use Rattle.runner.proofs.Running.{core-in, cores-in, shared-in, semaphore-in}
use Rattle.rerun.specs.Rerunning.{data_in, Exchanging, Resting, brought_to, Reading, Reread, ReadsWhole}

-- ---- core k of a state

same-core : {a b : Registers} {c d : _} {l m : List ℕ} → a ≡ b → c ≡ d → l ≡ m → ◌≡◌ {A = Core} record { registers = a; stack = c; memory = l } record { registers = b; stack = d; memory = m }
same-core p q r = λ i. record { registers = p i; stack = q i; memory = r i }

-- other registers of core k and other data of it, in a state from its parts
pub put_in : (f : List ℕ) (cs : List Registers) (places offsets : List ℕ) (h : Semaphore) (d sh : List ℕ) (k : ℕ) (r : Registers) (m d' sh' : List ℕ) → k < cores f → cores f ≤ length cs
    → split (sizes_of f) d' ≡ set (split (sizes_of f) d) k m
    → state_in f (set cs k r) places offsets h d' sh'
    ≡ record {
      plant = record { cores = set (state_in f cs places offsets h d sh).plant.cores k record { registers = r; stack = stack_in places offsets k; memory = m }; shared = sh' };
      semaphore = h;
    }
unfolding state_in
put_in f cs places offsets h d sh k r m d' sh' i n e =
    ap (λ (l : List Core). record { plant = record { cores = l; shared = sh' }; semaphore = h })
    (listed-set (core_in f cs places offsets d) (core_in f (set cs k r) places offsets d') (cores f) k _ i here others)
  where
    here : core_in f (set cs k r) places offsets d' k ≡ record { registers = r; stack = stack_in places offsets k; memory = m }
    here = same-core (get_or-set_same cs k r no_registers (omega arith)) refl
        (ap (λ (l : List (List ℕ)). get_or l k []) e ∙ get_or-set_same (split (sizes_of f) d) k m [] (rw (length-split (sizes_of f) d, sizes-length f) i))

    others : (j : ℕ) → j ≢ k → core_in f (set cs k r) places offsets d' j ≡ core_in f cs places offsets d j
    others j q = same-core (get_or-set_other cs k j r no_registers q) refl (ap (λ (l : List (List ℕ)). get_or l j []) e ∙ get_or-set_other (split (sizes_of f) d) k j m [] q)

-- steps of core k alone leave the other cores
others-run : (t : Task) (k : ℕ) (n : ℕ) (s : State) (j : ℕ) → j ≢ k → core (run t (replicate n k) s).plant j ≡ core s.plant j
others-run t k zero s j q = refl
others-run t k (suc n) s j q = others-run t k n (step t k s) j q ∙ others-stay t k s j q

-- ---- the next record

pub samples-length : (f t : List ℕ) (k : ℕ) → length ((task_of f t).samples k) ≡ record_count f t k
unfolding task_of samples_of
samples-length f t k = length-listed (sample_at f t k) (record_count f t k) 0

pub record-next : (f t : List ℕ) (k i : ℕ) → i < record_count f t k → drop i ((task_of f t).samples k) ≡ sample_at f t k i ∷ drop (suc i) ((task_of f t).samples k)
unfolding task_of samples_of
record-next f t k i h =
    drop-cons (samples_of f t k) i (sample_at f t k i) (rw (length-listed (sample_at f t k) (record_count f t k) 0) h)
    ∙ ap (λ (x : Sample). x ∷ drop (suc i) (samples_of f t k)) (listed_at (sample_at f t k) (record_count f t k) i (sample_at f t k i) h)

whole-read : (t : Task) (k : ℕ) (p : Plant) (c : Core) (x : Sample) (xs : List Sample) → core p k ≡ c → mode c ≡ 0 → drop c.registers.cycles (t.samples k) ≡ x ∷ xs
    → whole_one t (reading k) p ≡ put p k (execute t (suc (t.limit k)) k (read_done (copy (t.reads k) p.shared (read_taken x c).memory) (read_taken x c)))
unfolding whole_one
whole-read t k p c x xs q e d = rw (q, e, d)

-- ---- the core as its execution starts

abbrev pub started_at : List ℕ → List ℕ → ℕ → Registers → Registers
started_at f t k r = read_released (read_acquired (sample_at f t k r.cycles).time r)

abbrev started_core : List ℕ → List ℕ → ℕ → List ℕ → Core → Core
started_core f t k sh c = record { registers = started_at f t k c.registers; stack = c.stack; memory = brought_to f t k c.registers sh c.memory }

read-started : (f t : List ℕ) (k : ℕ) (sh : List ℕ) (c : Core)
    → read_done (copy ((task_of f t).reads k) sh (read_taken (sample_at f t k c.registers.cycles) c).memory) (read_taken (sample_at f t k c.registers.cycles) c) ≡ started_core f t k sh c
unfolding task_of read_done read_taken
read-started f t k sh c = refl

started-mode : (f t : List ℕ) (k : ℕ) (r : Registers) → (started_at f t k r).mode ≡ 2
unfolding read_released
started-mode f t k r = refl

started-count : (f t : List ℕ) (k : ℕ) (r : Registers) → (started_at f t k r).count ≡ 0
unfolding read_released
started-count f t k r = refl

fit-started : (f t : List ℕ) → AcceptedSet f t → (k : ℕ) → k < cores f → (sh : List ℕ) (c : Core) → FitCore f t k c → mode c ≡ 0 → c.registers.cycles < record_count f t k → FitCore f t k (started_core f t k sh c)
unfolding read_released read_acquired
fit-started f t ok k i sh c x e due =
    let nothing : c.registers.depth ≡ 0 = x.shallow (omega arith) (omega arith) in
    record {
      modes = omega arith;
      placed = record {
        counter = ok.start k i;
        offset = (ok.data-size k i).0;
        depth = omega arith;
        places = x.placed.places;
        offsets = x.placed.offsets;
        freed = λ j h. x.placed.freed j (rw nothing (omega arith));
        sixteen = x.placed.sixteen;
      };
      shallow = λ a b. refl;
      counts = omega arith;
      reading = λ a. absurd (omega arith);
      writing = λ a. absurd (omega arith);
      outside = λ a b. refl;
      cycles = x.cycles;
      under-way = λ a b. due;
      flags = x.flags;
      size = copy-length (reads_of (variables_of f) k) sh _ ∙ length-splice c.memory 0 (sample_at f t k c.registers.cycles).input ∙ x.size;
    }

-- ---- the state then

ended-started : (t : Task) (k : ℕ) (sh : List ℕ) (c : Core) → mode c ≡ 2 → c.registers.count ≡ 0 → execute t (suc (t.limit k)) k c ≡ ended t k sh c
ended-started t k sh c e z =
    let all : t.limit k ≡ t.limit k - c.registers.count = omega (arith, z) in
    ap (λ (n : ℕ). execute t (suc n) k c) all ∙ sym (ap (λ (m : ℕ). ended_in m t k sh c) e)

-- a plant at rest but for a core k whose execution starts is, brought to its end, the plant with that execution
sim-started : (t : Task) (p : Plant) (k : ℕ) (c : Core) → k < length p.cores → ((j : ℕ) → Still (core p j)) → mode c ≡ 2 → c.registers.count ≡ 0
    → Sim t record { plant = put p k c; semaphore = untaken } (put p k (execute t (suc (t.limit k)) k c))
sim-started t p k c i still e z =
    let rest : Sim t record { plant = p; semaphore = untaken } p = sim-at-rest t record { plant = p; semaphore = untaken } still in
    record {
      same_length = length-set p.cores k _ ∙ sym (length-set p.cores k c);
      same-core = λ j. go rest j (ℕ_discrete j k);
      same-shared = refl;
      bounded = each (λ j y. mode y ≡ 2 → y.registers.count ≤ t.limit j) p.cores k c i (λ a. omega arith) (λ j n a. absurd ((still j).1 a));
    }
  where
    go : Sim t record { plant = p; semaphore = untaken } p → (j : ℕ) → Dec (j ≡ k) → core (put p k (execute t (suc (t.limit k)) k c)) j ≡ ended t j p.shared (core (put p k c) j)
    go rest j (yes q) = rw (q, get_or-set_same p.cores k (execute t (suc (t.limit k)) k c) absent i, get_or-set_same p.cores k c absent i) (ended-started t k p.shared c e z)
    go rest j (no q) = rw (get_or-set_other p.cores k j (execute t (suc (t.limit k)) k c) absent q, get_or-set_other p.cores k j c absent q) (rest.same-core j)

fit-put : (f t : List ℕ) (p : Plant) (k : ℕ) (c : Core) → k < cores f → Fit f t record { plant = p; semaphore = untaken } → FitCore f t k c → mode c ≡ 2
    → Fit f t record { plant = put p k c; semaphore = untaken }
fit-put f t p k c i fit x e = record {
  table = length-set p.cores k c ∙ fit.table;
  each = each (λ j y. j < cores f → FitCore f t j y) p.cores k c (rw fit.table i) (λ z. x) (λ j n z. fit.each j z);
  held = record { held = λ j h. absurd (each (λ j y. Holding y → ⊥) p.cores k c (rw fit.table i) executing (λ j n. nobody record { plant = p; semaphore = untaken } fit.held refl j) j h); holding = λ j q. absurd (let z : ⊥ = omega arith in z) };
  line = record { once = tt; below = λ j h. absurd h; modes = λ j h. absurd h; records = λ j h. absurd h };
  shared = fit.shared;
}
  where
    executing : Holding c → ⊥
    executing (inl a) = omega arith
    executing (inr a) = omega arith

-- ---- its end

-- the state as the execution starts stands
module _ (f t : List ℕ) (ok : AcceptedSet f t) (k : ℕ) (ik : k < cores f) (cs : List Registers) (places offsets d sh : List ℕ) (x : Resting f t cs places offsets d sh)
    (s : Registers) (d₁ : List ℕ) (idle : (get_or cs k no_registers).mode ≡ 0) (due : (get_or cs k no_registers).cycles < record_count f t k) (e : s ≡ started_at f t k (get_or cs k no_registers))
    (m : split (sizes_of f) d₁ ≡ set (split (sizes_of f) d) k (brought_to f t k (get_or cs k no_registers) sh (get_or (split (sizes_of f) d) k []))) (long : length d₁ ≡ length d) where
  abbrev rest : Plant
  rest = (state_in f cs places offsets untaken d sh).plant

  abbrev mine : Core
  mine = core_in f cs places offsets d k

  abbrev middle : State
  middle = state_in f (set cs k s) places offsets untaken d₁ sh

  few : cores f ≤ length cs
  few = omega (arith, ok.few, x.stands.four)

  here : core rest k ≡ mine
  here = core-in f cs places offsets untaken d sh k ik

  inside : k < length rest.cores
  inside = rw (cores-in f cs places offsets untaken d sh) ik

  at_rest : state_in f cs places offsets untaken d sh ≡ record { plant = rest; semaphore = untaken }
  unfolding state_in
  at_rest = refl

  shared-rest : rest.shared ≡ sh
  shared-rest = shared-in f cs places offsets untaken d sh

  middle-is : middle ≡ record { plant = put rest k (started_core f t k sh mine); semaphore = untaken }
  middle-is =
      ap (λ (u : Registers). state_in f (set cs k u) places offsets untaken d₁ sh) e
      ∙ put_in f cs places offsets untaken d sh k (started_at f t k (get_or cs k no_registers)) _ d₁ sh ik few m
      ∙ ap (λ (l : List ℕ). record { plant = record { cores = set rest.cores k (started_core f t k sh mine); shared = l }; semaphore = untaken }) (sym shared-rest)

  fit-middle : Fit f t middle
  fit-middle = subst (Fit f t) (sym middle-is)
      (fit-put f t rest k (started_core f t k sh mine) ik (subst (Fit f t) at_rest x.stands.fit)
      (fit-started f t ok k ik sh mine (subst (FitCore f t k) here (x.stands.fit.each k ik)) idle due) (started-mode f t k (get_or cs k no_registers)))

  pub standing-middle : Standing f t (set cs k s) places offsets d₁ sh
  standing-middle = record { four = length-set cs k s ∙ x.stands.four; entries = x.stands.entries; buffer = long ∙ x.stands.buffer; fit = fit-middle }

  abbrev done : Plant
  done = put rest k (execute (task_of f t) (suc ((task_of f t).limit k)) k (started_core f t k sh mine))

  sim-middle : Sim (task_of f t) middle done
  sim-middle = subst (λ (z : State). Sim (task_of f t) z done) (sym middle-is)
      (sim-started (task_of f t) rest k (started_core f t k sh mine) inside x.still (started-mode f t k (get_or cs k no_registers)) (started-count f t k (get_or cs k no_registers)))

  whole_is : whole_one (task_of f t) (reading k) rest ≡ done
  whole_is =
      whole-read (task_of f t) k rest mine _ _ here idle (record-next f t k (get_or cs k no_registers).cycles due)
      ∙ ap (λ (l : List ℕ). put rest k (execute (task_of f t) (suc ((task_of f t).limit k)) k (read_done (copy ((task_of f t).reads k) l (read_taken (sample_at f t k (get_or cs k no_registers).cycles) mine).memory) (read_taken (sample_at f t k (get_or cs k no_registers).cycles) mine)))) shared-rest
      ∙ ap (λ (c : Core). put rest k (execute (task_of f t) (suc ((task_of f t).limit k)) k c)) (read-started f t k sh mine)

  module _ (r' : Registers) (places' offsets' d' : List ℕ) (y : Stretch f t k (set cs k s) places offsets d₁ sh r' places' offsets' d') (left : r'.mode ≢ 2) where
    abbrev last : State
    last = state_in f (set (set cs k s) k r') places' offsets' untaken d' sh

    sim-last : Sim (task_of f t) last done
    sim-last =
        subst (λ (z : State). Sim (task_of f t) z done) y.moved
        (subst (λ (xs : List Taking). Sim (task_of f t) (run (task_of f t) (replicate y.steps k) middle) (whole (task_of f t) xs done)) y.none-taken
        (sim-run (task_of f t) (executes f t ok).laws (replicate y.steps k) middle done sim-middle fit-middle.held))

    own-mode : mode (core last.plant k) ≡ r'.mode
    own-mode = ap (λ (c : Core). mode c) (core-in f (set (set cs k s) k r') places' offsets' untaken d' sh k ik)
        ∙ ap (λ (u : Registers). u.mode) (get_or-set_same (set cs k s) k r' no_registers (rw (length-set cs k s) (omega (arith, few))))

    other-mode : (j : ℕ) → j ≢ k → mode (core last.plant j) ≡ mode (core rest j)
    other-mode j n =
        ap (λ (z : State). mode (core z.plant j)) (sym y.moved)
        ∙ ap (λ (c : Core). mode c) (others-run (task_of f t) k y.steps middle j n)
        ∙ ap (λ (z : State). mode (core z.plant j)) middle-is
        ∙ ap (λ (c : Core). mode c) (get_or-set_other rest.cores k j (started_core f t k sh mine) absent n)

    not-executing : (j : ℕ) → mode (core last.plant j) ≢ 2
    not-executing j = go (ℕ_discrete j k)
      where
        go : Dec (j ≡ k) → mode (core last.plant j) ≢ 2
        go (yes q) a = left (sym own-mode ∙ ap (λ (i : ℕ). mode (core last.plant i)) (sym q) ∙ a)
        go (no n) a = (x.still j).1 (sym (other-mode j n) ∙ a)

    free-last : last.semaphore.holder ≡ 0
    free-last = ap (λ (h : Semaphore). h.holder) (semaphore-in f (set (set cs k s) k r') places' offsets' untaken d' sh)

    still-last : (j : ℕ) → Still (core last.plant j)
    still-last j = (
      λ a. nobody last y.stands.fit.held free-last j (inl a),
      not-executing j,
      λ a. nobody last y.stands.fit.held free-last j (inr a),
    )

    pub reread-is : Reread f t k cs places offsets d sh r' places' offsets' d'
    reread-is = record {
      plant = ap (λ (l : List Registers). (state_in f l places' offsets' untaken d' sh).plant) (sym (set-set cs k s r')) ∙ sim-still (task_of f t) last done sim-last still-last ∙ sym whole_is;
      entries = y.stands.entries;
      buffer = y.stands.buffer;
      spare = y.spare;
    }

-- for every state at rest in which core k has the registers r
pub reads-of : (f t : List ℕ) → AcceptedSet f t → (k : ℕ) → k < cores f → (r : Registers) (places offsets d sh : List ℕ) → r.mode ≡ 0 → r.cycles < record_count f t k
    → (s : Registers) (d₁ : List ℕ) → s ≡ started_at f t k r → split (sizes_of f) d₁ ≡ set (split (sizes_of f) d) k (brought_to f t k r sh (get_or (split (sizes_of f) d) k [])) → length d₁ ≡ length d
    → (r' : Registers) (places' offsets' d' : List ℕ) → Executes f t k s places offsets d₁ r' places' offsets' d' → r'.mode ≢ 2
    → ReadsWhole f t k r places offsets d sh r' places' offsets' d'
reads-of f t ok k ik r places offsets d sh idle due s d₁ e m long r' places' offsets' d' w left cs here x =
    let idle' : (get_or cs k no_registers).mode ≡ 0 = ap (λ (u : Registers). u.mode) here ∙ idle in
    let due' : (get_or cs k no_registers).cycles < record_count f t k = subst (λ (u : Registers). u.cycles < record_count f t k) (sym here) due in
    let e' : s ≡ started_at f t k (get_or cs k no_registers) = e ∙ ap (started_at f t k) (sym here) in
    let m' : split (sizes_of f) d₁ ≡ set (split (sizes_of f) d) k (brought_to f t k (get_or cs k no_registers) sh (get_or (split (sizes_of f) d) k [])) =
    m ∙ ap (λ (u : Registers). set (split (sizes_of f) d) k (brought_to f t k u sh (get_or (split (sizes_of f) d) k []))) (sym here) in
    reread-is f t ok k ik cs places offsets d sh x s d₁ idle' due' e' m' long r' places' offsets' d'
    (w (set cs k s) sh (get_or-set_same cs k s no_registers (omega (arith, ok.few, x.stands.four))) (standing-middle f t ok k ik cs places offsets d sh x s d₁ idle' due' e' m' long)) left

-- some state stands as the execution starts
pub started-stands : (f t : List ℕ) → AcceptedSet f t → (k : ℕ) → k < cores f → (r : Registers) (places offsets d sh : List ℕ) → r.mode ≡ 0 → r.cycles < record_count f t k
    → (s : Registers) (d₁ : List ℕ) → s ≡ started_at f t k r → split (sizes_of f) d₁ ≡ set (split (sizes_of f) d) k (brought_to f t k r sh (get_or (split (sizes_of f) d) k [])) → length d₁ ≡ length d
    → (cs : List Registers) → get_or cs k no_registers ≡ r → Resting f t cs places offsets d sh → ExecutionGiven f t k s places offsets d₁
started-stands f t ok k ik r places offsets d sh idle due s d₁ e m long cs here x =
    record {
      accepted = ok;
      known = ik;
      cs = set cs k s;
      sh = sh;
      here = get_or-set_same cs k s no_registers (omega (arith, ok.few, x.stands.four));
      stands = standing-middle f t ok k ik cs places offsets d sh x s d₁ (ap (λ (u : Registers). u.mode) here ∙ idle) (subst (λ (u : Registers). u.cycles < record_count f t k) (sym here) due)
          (e ∙ ap (started_at f t k) (sym here)) (m ∙ ap (λ (u : Registers). set (split (sizes_of f) d) k (brought_to f t k u sh (get_or (split (sizes_of f) d) k []))) (sym here)) long;
    }

-- a core that rests is one that a step's functions may be given
pub ready_of : (f t : List ℕ) → AcceptedSet f t → (k : ℕ) → k < cores f → (c : CoreTask) → c ≡ core_task f t k → (r : Registers) (cs : List Registers) (places offsets d sh : List ℕ) → get_or cs k no_registers ≡ r
    → Resting f t cs places offsets d sh → StepGiven f t k c r (get_or (split (sizes_of f) d) k [])
ready_of f t ok k ik c e r cs places offsets d sh here x = subst (λ (u : Registers). StepGiven f t k c u (get_or (split (sizes_of f) d) k [])) here record {
  accepted = ok;
  known = ik;
  task = e;
  stack = stack_in places offsets k;
  fit = subst (FitCore f t k) (core-in f cs places offsets untaken d sh k ik) (x.stands.fit.each k ik);
}

pub count-is : (f t : List ℕ) (k : ℕ) (c : CoreTask) → c ≡ core_task f t k → c.count ≡ record_count f t k
unfolding core_task
count-is f t k c e = ap (λ (x : CoreTask). x.count) e

-- what the exchange asks
pub reading-asks : {f t : List ℕ} {k : ℕ} {c : CoreTask} {first end : ℕ} {r : Registers} {places offsets d sh : List ℕ} → Reading f t k c first end r places offsets d sh
    → Exchanging f t k c first end r (data_in f k d) sh × (r.cycles < c.count) × (length d ≡ total (sizes_of f))
reading-asks {f} {t} {k} {c} {first} {end} {r} {places} {offsets} {d} {sh} x = (
  record {
    ready = ready_of f t x.accepted k x.known c x.task r x.cs places offsets d sh x.here x.rests;
    from = x.from;
    upto = x.upto;
    shared = sym (ap length (shared-in f x.cs places offsets untaken d sh)) ∙ x.rests.stands.fit.shared;
  },
  rw (count-is f t k c x.task) x.due,
  x.rests.stands.buffer,
)
