-- Each case of a step, from what the functions of a step are given of their core (`StepGiven`). In order: input records; what an instruction
-- answers; the code of a core; the cases with the core's task: the record of a cycle, the bytes of an exchange, the instruction; the data of
-- core k in the buffer of all. Assumes nothing.
use mathlib.Core.Path.{◌≡◌, refl, sym, ap, ap₂, ◌∙◌, subst, subst⁻¹}
use mathlib.Core.Logic.{◌≢◌, inl, inr}
use mathlib.Core.Bool.{true, false}
use mathlib.Core.List.{List, [], ◌∷◌, ◌++◌}
use Prim.Native.Nat.{ℕ, zero, suc, ◌+◌, ◌-◌, ◌*◌, ◌≤◌, ◌<◌}
use native.Mathlib.Omega.{arith}
use borrow.Author.Tests.{eq-eqb, ne_eqb}
use lib.Dec.{eqb}
use lib.ListN.{length, get_or, set, take, drop, replicate, drop_of_length-le}
use lib.Seq.{drop-cons, drop-drop, map-set_same, set-get_or}
use Rattle.verdict.proofs.Verdict.{pick_true, pick-false, by-pick}
use Rattle.memory.specs.Memory.{byte, splice, part, read_le, start, total, split}
use Rattle.memory.proofs.Cores.{split_at, flat-set, split-flat-of, lengths-split, start-end}
use Rattle.protocol.specs.declared.Registers.{Registers}
use Rattle.protocol.specs.declared.Outcome.{Outcome}
use Rattle.protocol.specs.declared.Outcome.TheVariants.{Fault as Failed, Next as Onward, Call as Calls, Return as Returns}
use Rattle.protocol.specs.State.{Core, Semaphore, Sample}
use Rattle.protocol.specs.Step.{turn, copy}
use Rattle.protocol.specs.Variables.{reads_of, writes_of}
use Rattle.protocol.specs.Instruction.{Executed, halted, applied, limited, instruction_by}
use Rattle.records.specs.File.{cores, data_size, input_size, limit}
use Rattle.taskset.specs.Judge.{code_of}
use Rattle.taskset.specs.Trace.{record_count, sample_place}
use Rattle.taskset.specs.Task.{sizes_of, variables_of, sample_at, samples_of}
use Rattle.taskset.proofs.Accepted.{base-start, length-listed, listed_at, core-facts}
use Rattle.exchange.specs.Laid.{exchange_bytes}
use Rattle.exchange.proofs.Moves.{left-more, left-last, left-none}
use Rattle.exchange.proofs.Cursors.{length-reads, length-writes}
use Rattle.exchange.proofs.Records.{bytes-few}
use Rattle.code.specs.Commands.{Kind, Returns as Ends, Jumps, Branches, Calls as Enters, Passes}
use Rattle.code.specs.Flow.{kind_at}
use Rattle.code.specs.Code.{judge_code, is_start}
use Rattle.processor.specs.Executable.{Executable}
use Rattle.processor.specs.Placed.{Leads}
use Rattle.processor.specs.Processor.{Decided, refused, decided, answer, controlled, executed}
use Rattle.processor.proofs.Accepted.{inside-code}
use Rattle.processor.proofs.Kept.{executed-leads}
use Rattle.states.specs.declared.CoreTask.{CoreTask}
use Rattle.states.specs.Task.{task_of}
use Rattle.states.specs.Tasks.{core_task}
use Rattle.steps.specs.Effects.{Effect, Idle, Joined, ReadAcquired, ByteRead, ReadReleased, ByteWritten, WriteReleased, back_at, effect_of, Takes, Does, Alone, Steps, InstructsIn}
use Rattle.steps.specs.Bytes.{Ahead, BytesRead, BytesWritten}
use Rattle.steps.specs.Moving.{StepGiven, AtInstruction}
use Rattle.steps.proofs.Does.{does-spent, does-joined-0, does-read-acquired, does-byte-read, does-read-released, does-byte-written, does-write-released, Leaves, does-instruction}

-- ---- input records

samples-left : (f t : List ℕ) (k i : ℕ) → i < record_count f t k → drop i (samples_of f t k) ≡ sample_at f t k i ∷ drop (suc i) (samples_of f t k)
unfolding samples_of
samples-left f t k i h =
    drop-cons (samples_of f t k) i (sample_at f t k i) (omega (arith, length-listed (sample_at f t k) (record_count f t k) 0))
    ∙ ap (λ (y : Sample). y ∷ drop (suc i) (samples_of f t k)) (listed_at (sample_at f t k) (record_count f t k) i (sample_at f t k i) h)

samples-spent : (f t : List ℕ) (k i : ℕ) → record_count f t k ≤ i → drop i (samples_of f t k) ≡ []
unfolding samples_of
samples-spent f t k i h = drop_of_length-le (samples_of f t k) {i = i} (omega (arith, length-listed (sample_at f t k) (record_count f t k) 0))

-- ---- what an instruction answers

-- a fault leaves the data
controlled-leaves : (i : Kind) (next target depth : ℕ) (d : List ℕ) (x : Decided)
    → Leaves (controlled i next target depth d x).outcome (controlled i next target depth d x).memory d
controlled-leaves Ends next target depth d x = tt
controlled-leaves Jumps next target depth d x = tt
controlled-leaves Branches next target depth d (refused b) = refl
controlled-leaves Branches next target depth d (decided made offset m) = tt
controlled-leaves Enters next target depth d (refused b) =
    by-pick (λ (y : Executed). Leaves y.outcome y.memory d) (eqb depth 16) (halted 5 d) (halted b d) (λ e. refl) (λ e. refl)
controlled-leaves Enters next target depth d (decided made offset m) =
    by-pick (λ (y : Executed). Leaves y.outcome y.memory d) (eqb depth 16) (halted 5 d) (answer (Calls next target offset) d) (λ e. refl) (λ e. tt)
controlled-leaves Passes next target depth d (refused b) = refl
controlled-leaves Passes next target depth d (decided made offset m) = tt

executed-leaves : (c : List ℕ) (r : Registers) (d : List ℕ) → Leaves (executed c r d).outcome (executed c r d).memory d
unfolding executed
executed-leaves c r d = controlled-leaves (kind_at c r.counter) _ _ _ d _

-- the registers can take what an instruction answers
back-takes : (r : Registers) (n : ℕ) → r.depth ≡ n → r.count < 65535 → r.depth ≤ 16 → Takes r (back_at n)
back-takes r zero e h l = h
back-takes r (suc n) e h l = (h, omega arith, omega arith)

takes-outcome : (r : Registers) (c : List ℕ) (size : ℕ) (o : Outcome) → Leads c size r.depth o → r.count < 65535 → r.depth ≤ 16 → Takes r (effect_of r.depth o)
takes-outcome r c size (Failed b) a h l = a
takes-outcome r c size (Onward p) a h l = h
takes-outcome r c size (Calls next target offset) a h l = (h, a.3)
takes-outcome r c size Returns a h l = back-takes r r.depth refl h l

-- ---- the code of a core

module _ {f t : List ℕ} {k : ℕ} {c : CoreTask} {counter : ℕ} (w : AtInstruction f t k c counter) where
  pub code_inside : c.layout.code + c.layout.length ≤ length f
  unfolding core_task
  code_inside = rw w.task (w.accepted.code_inside k w.known)

  -- as the file lends it
  pub code_is : (e : ℕ) → e ≡ c.layout.code + c.layout.length → take (e - c.layout.code) (drop c.layout.code f) ≡ code_of f k
  unfolding core_task part
  code_is e p =
      let n : e - c.layout.code ≡ c.layout.length = omega arith in
      ap (λ (q : ℕ). take q (drop c.layout.code f)) n ∙ ap (λ (x : CoreTask). take x.layout.length (drop x.layout.code f)) w.task

  pub start-in : (e : ℕ) → e ≡ c.layout.code + c.layout.length → (judge_code (take (e - c.layout.code) (drop c.layout.code f)) ≡ 0) × (is_start (take (e - c.layout.code) (drop c.layout.code f)) counter ≡ true)
  start-in e p = rw (code_is e p) (w.accepted.code k w.known, w.start)

-- ---- the cases with the core's task

module _ {f t : List ℕ} {k : ℕ} {c : CoreTask} {r : Registers} {d : List ℕ} (w : StepGiven f t k c r d) where
  -- ---- mode 0: the record of a cycle

  count-is : c.count ≡ record_count f t k
  unfolding core_task
  count-is = ap (λ (x : CoreTask). x.count) w.task

  inputs_are : c.layout.inputs ≡ input_size f k
  unfolding core_task
  inputs_are = ap (λ (x : CoreTask). x.layout.inputs) w.task

  -- its place
  record_is : c.records + r.cycles * (4 + c.layout.inputs) ≡ sample_place f t k r.cycles
  unfolding core_task
  record_is = ap (λ (x : CoreTask). x.records + r.cycles * (4 + x.layout.inputs)) w.task

  pub record-inside : (length t ≡ 0 → ⊥) → r.cycles < c.count → c.records + r.cycles * (4 + c.layout.inputs) + (4 + c.layout.inputs) ≤ length t
  record-inside b h = omega (arith, record_is, inputs_are, w.accepted.records (ne_eqb _ _ b) k w.known r.cycles (omega (arith, count-is)))

  pub inputs-inside : c.layout.inputs ≤ length d
  inputs-inside = omega (arith, inputs_are, w.accepted.inputs k w.known, w.fit.size)

  pub spent : (h : Semaphore) → r.mode ≡ 0 → c.count ≤ r.cycles → Alone f t k r d h Idle d
  unfolding task_of
  spent h m l sh = does-spent (task_of f t) k r d sh h m (samples-spent f t k r.cycles (omega (arith, count-is)))

  -- out of its turn
  pub joined : (h : Semaphore) → r.mode ≡ 0 → r.cycles < c.count → turn h k ≡ false → Alone f t k r d h Joined d
  unfolding task_of
  joined h m l u sh =
      does-joined-0 (task_of f t) k r d sh h (sample_at f t k r.cycles) (drop (suc r.cycles) (samples_of f t k)) m (samples-left f t k r.cycles (omega (arith, count-is))) u

  -- what the record holds: as it stands in the trace, or as a trace of no bytes means it
  pub stored-time : (length t ≡ 0 → ⊥) → (x place : ℕ) → place ≡ c.records + r.cycles * (4 + c.layout.inputs) → x ≡ read_le t place 4 → x ≡ (sample_at f t k r.cycles).time
  unfolding sample_at
  stored-time b x place p e = e ∙ ap (λ (q : ℕ). read_le t q 4) (p ∙ record_is) ∙ sym (ap (λ (y : Sample). y.time) (pick-false _ _ _ (ne_eqb _ _ b)))

  pub stored-input : (length t ≡ 0 → ⊥) → (d' : List ℕ) (place : ℕ) → place ≡ c.records + r.cycles * (4 + c.layout.inputs) → d' ≡ splice d 0 (part t (place + 4) c.layout.inputs)
      → d' ≡ splice d 0 (sample_at f t k r.cycles).input
  unfolding sample_at
  stored-input b d' place p g =
      g ∙ ap₂ (λ (q n : ℕ). splice d 0 (part t (q + 4) n)) (p ∙ record_is) inputs_are
      ∙ sym (ap (λ (y : Sample). splice d 0 y.input) (pick-false _ _ _ (ne_eqb _ _ b)))

  pub blank-time : length t ≡ 0 → 0 ≡ (sample_at f t k r.cycles).time
  unfolding sample_at
  blank-time b = sym (ap (λ (y : Sample). y.time) (pick_true _ _ _ (eq-eqb _ _ b)))

  pub blank-input : length t ≡ 0 → (d' : List ℕ) → d' ≡ splice d 0 (replicate c.layout.inputs 0) → d' ≡ splice d 0 (sample_at f t k r.cycles).input
  unfolding sample_at
  blank-input b d' g =
      g ∙ ap (λ (n : ℕ). splice d 0 (replicate n 0)) inputs_are ∙ sym (ap (λ (y : Sample). splice d 0 y.input) (pick_true _ _ _ (eq-eqb _ _ b)))

  pub read-acquired : (h : Semaphore) (time : ℕ) (d' : List ℕ) → r.mode ≡ 0 → r.cycles < c.count → time ≡ (sample_at f t k r.cycles).time
      → d' ≡ splice d 0 (sample_at f t k r.cycles).input → turn h k ≡ true → Alone f t k r d h (ReadAcquired time) d'
  unfolding task_of
  read-acquired h time d' m l e g u sh =
      does-read-acquired (task_of f t) k r d sh h (sample_at f t k r.cycles) (drop (suc r.cycles) (samples_of f t k)) time d' m
      (samples-left f t k r.cycles (omega (arith, count-is))) e g u

  -- ---- modes 1 and 4: the bytes of an exchange

  pub core-few : k < 4
  core-few = omega (arith, w.known, w.accepted.few)

  reads-are : c.reads ≡ length (reads_of (variables_of f) k)
  unfolding core_task
  reads-are = ap (λ (x : CoreTask). x.reads) w.task

  writes_are : c.writes ≡ length (writes_of (variables_of f) k)
  unfolding core_task
  writes_are = ap (λ (x : CoreTask). x.writes) w.task

  pub reads-left : r.exchange < c.reads → r.exchange < exchange_bytes f (4 + k)
  reads-left h = omega (arith, reads-are, length-reads f k core-few)

  pub writes-left : r.exchange < c.writes → r.exchange < exchange_bytes f k
  writes-left h = omega (arith, writes_are, length-writes f k core-few)

  pub reads_bytes : c.reads ≡ exchange_bytes f (4 + k)
  reads_bytes = reads-are ∙ length-reads f k core-few

  pub writes_bytes : c.writes ≡ exchange_bytes f k
  writes_bytes = writes_are ∙ length-writes f k core-few

  -- bytes that leave one are bytes of the exchange
  pub reading-ahead : (n : ℕ) → Ahead c r n → r.mode ≡ 1 → r.exchange + n ≤ exchange_bytes f (4 + k)
  reading-ahead n (inl a) m = omega (arith, a.1, reads_bytes)
  reading-ahead n (inr a) m = absurd (omega (arith, a.0))

  pub writing-ahead : (n : ℕ) → Ahead c r n → r.mode ≢ 1 → (r.mode ≡ 4) × (r.exchange + n ≤ exchange_bytes f k)
  writing-ahead n (inl a) m = absurd (m a.0)
  writing-ahead n (inr a) m = (a.0, omega (arith, a.1, writes_bytes))

  cycles-few : r.mode ≡ 4 → r.cycles < 65535
  cycles-few m = omega (arith, w.fit.under-way (omega arith) (omega arith), w.accepted.counts k)

  module _ (sh : List ℕ) (h : Semaphore) where
    pub read_none : r.mode ≡ 1 → c.reads ≤ r.exchange → Does (task_of f t) k r d sh h ReadReleased d sh
    unfolding task_of
    read_none m l =
        let e = left-none (reads_of (variables_of f) k) (sym reads-are) r.exchange l in
        does-read-released (task_of f t) k r d sh h [] d m e refl refl

    pub read-last : (d' : List ℕ) → r.mode ≡ 1 → c.reads ≤ r.exchange + 1 → d' ≡ copy (take 1 (drop r.exchange (reads_of (variables_of f) k))) sh d
        → Does (task_of f t) k r d sh h ReadReleased d' sh
    unfolding task_of
    read-last d' m l e =
        does-read-released (task_of f t) k r d sh h (drop r.exchange (reads_of (variables_of f) k)) d' m refl
        (left-last (reads_of (variables_of f) k) (sym reads-are) r.exchange l) e

    pub read_more : (d' : List ℕ) → r.mode ≡ 1 → r.exchange + 1 < c.reads → d' ≡ copy (take 1 (drop r.exchange (reads_of (variables_of f) k))) sh d
        → Does (task_of f t) k r d sh h ByteRead d' sh
    unfolding task_of
    read_more d' m l e =
        let n = left-more (reads_of (variables_of f) k) (sym reads-are) r.exchange l in
        does-byte-read (task_of f t) k r d sh h (drop r.exchange (reads_of (variables_of f) k)) n.head n.tail d' m refl n.is e
        (omega (arith, reads-left (omega arith), bytes-few f (4 + k) w.accepted.laid))

    pub write-none : r.mode ≡ 4 → c.writes ≤ r.exchange → Does (task_of f t) k r d sh h WriteReleased d sh
    unfolding task_of
    write-none m l =
        let e = left-none (writes_of (variables_of f) k) (sym writes_are) r.exchange l in
        does-write-released (task_of f t) k r d sh h [] sh m e refl refl (cycles-few m)

    pub write-last : (sh' : List ℕ) → r.mode ≡ 4 → c.writes ≤ r.exchange + 1 → sh' ≡ copy (take 1 (drop r.exchange (writes_of (variables_of f) k))) d sh
        → Does (task_of f t) k r d sh h WriteReleased d sh'
    unfolding task_of
    write-last sh' m l e =
        does-write-released (task_of f t) k r d sh h (drop r.exchange (writes_of (variables_of f) k)) sh' m refl
        (left-last (writes_of (variables_of f) k) (sym writes_are) r.exchange l) e (cycles-few m)

    pub write-more : (sh' : List ℕ) → r.mode ≡ 4 → r.exchange + 1 < c.writes → sh' ≡ copy (take 1 (drop r.exchange (writes_of (variables_of f) k))) d sh
        → Does (task_of f t) k r d sh h ByteWritten d sh'
    unfolding task_of
    write-more sh' m l e =
        let n = left-more (writes_of (variables_of f) k) (sym writes_are) r.exchange l in
        does-byte-written (task_of f t) k r d sh h (drop r.exchange (writes_of (variables_of f) k)) n.head n.tail sh' m refl n.is e
        (omega (arith, writes-left (omega arith), bytes-few f k w.accepted.laid))

  -- ---- mode 2: the instruction

  limit_is : c.layout.limit ≡ limit f k
  unfolding core_task
  limit_is = ap (λ (x : CoreTask). x.layout.limit) w.task

  pub at-instruction : AtInstruction f t k c r.counter
  at-instruction = record { accepted = w.accepted; known = w.known; task = w.task; start = w.fit.placed.counter }

  pub limit-low : (c.layout.limit < 65536) × (r.count ≤ c.layout.limit)
  limit-low = (omega (arith, w.accepted.limits k w.known, limit_is), omega (arith, w.fit.counts, limit_is))

  pub executable : (e : ℕ) → e ≡ c.layout.code + c.layout.length → Executable (take (e - c.layout.code) (drop c.layout.code f)) r d
  executable e p = rw (code_is at-instruction e p) record {
    accepted = w.accepted.code k w.known;
    short = omega (arith, w.accepted.code-length k w.known, (core-facts f w.accepted.file k w.known).code-length);
    start = w.fit.placed.counter;
    small = omega (arith, w.fit.size, w.accepted.data-size k w.known);
  }

  -- the code is short
  pub counter-low : r.counter < 8192
  counter-low = let x = executable (c.layout.code + c.layout.length) refl in omega (arith, inside-code _ _ _ x, x.short)

  module _ (x : Core) (p : x.registers ≡ r) (q : x.memory ≡ d) where
    at-limit : r.count ≡ c.layout.limit → (task_of f t).instruction k x ≡ applied (halted 1 d) x
    unfolding task_of instruction_by limited
    at-limit e =
        ap (λ (y : Executed). applied y x)
        (pick_true _ _ _ (eq-eqb x.registers.count (limit f k) (ap (λ (u : Registers). u.count) p ∙ e ∙ limit_is)) ∙ ap (halted 1) q)

    below-limit : r.count ≢ c.layout.limit → (task_of f t).instruction k x ≡ applied (executed (code_of f k) r d) x
    unfolding task_of instruction_by limited
    below-limit n =
        ap (λ (y : Executed). applied y x)
        (pick-false _ _ _ (ne_eqb x.registers.count (limit f k) (λ z. n (sym (ap (λ (u : Registers). u.count) p) ∙ z ∙ sym limit_is)))
        ∙ ap₂ (executed (code_of f k)) p q)

  pub limit-reached : (h : Semaphore) → r.mode ≡ 2 → r.count ≡ c.layout.limit → Alone f t k r d h (effect_of r.depth (Failed 1)) d
  limit-reached h m e sh =
      does-instruction (task_of f t) k r d sh h (halted 1 d) d m (λ x p q. at-limit x p q e) refl refl (omega arith)

  pub instruction-done : (h : Semaphore) (e : ℕ) (o : Outcome) (d' : List ℕ) → r.mode ≡ 2 → r.count ≢ c.layout.limit → e ≡ c.layout.code + c.layout.length
      → answer o d' ≡ executed (take (e - c.layout.code) (drop c.layout.code f)) r d → Alone f t k r d h (effect_of r.depth o) d'
  instruction-done h e o d' m n p a sh =
      let b : answer o d' ≡ executed (code_of f k) r d = a ∙ ap (λ (u : List ℕ). executed u r d) (code_is at-instruction e p) in
      let offset : r.offset < length d = omega (arith, w.fit.placed.offset, w.fit.size) in
      let leads : Leads (code_of f k) (length d) r.depth o = subst⁻¹ (λ (y : Executed). Leads (code_of f k) (length d) r.depth y.outcome) b
      (executed-leads (code_of f k) r d offset w.fit.placed.depth (w.accepted.code k w.known) w.fit.placed.counter) in
      let count : r.count < 65535 = omega (arith, w.fit.counts, w.accepted.limits k w.known, limit_is) in
      does-instruction (task_of f t) k r d sh h (answer o d') d' m (λ x u v. below-limit x u v n ∙ ap (λ (y : Executed). applied y x) (sym b)) refl
      (subst⁻¹ (λ (y : Executed). Leaves y.outcome y.memory d) b (executed-leaves (code_of f k) r d))
      (takes-outcome r (code_of f k) (length d) o leads count w.fit.placed.depth)

-- ---- the data of core k in the buffer of all

-- other data m in the stretch that was lent
stretch-set : (ns s m : List ℕ) (k a e : ℕ) → k < length ns → length s ≡ total ns → a ≡ start ns k → e ≡ a + get_or ns k 0
    → length m ≡ length (get_or (split ns s) k []) → split ns (take a s ++ (m ++ drop (e - a) (drop a s))) ≡ set (split ns s) k m
stretch-set ns s m k a e h n p q l =
    let z : a + (e - a) ≡ start ns k + get_or ns k 0 = omega arith in
    ap (split ns) (ap₂ (λ (i : ℕ) (u : List ℕ). take i s ++ (m ++ u)) p (drop-drop (e - a) a s ∙ ap (λ (i : ℕ). drop i s) z) ∙ sym (flat-set ns s k m h (sym n)))
    ∙ split-flat-of ns (set (split ns s) k m) (map-set_same length (split ns s) k m [] l ∙ lengths-split ns s (omega arith))

module _ {f t : List ℕ} {k : ℕ} {c : CoreTask} {r : Registers} (d : List ℕ) (w : StepGiven f t k c r (get_or (split (sizes_of f) d) k [])) (n : length d ≡ total (sizes_of f)) where
  size-at : get_or (sizes_of f) k 0 ≡ data_size f k
  unfolding sizes_of
  size-at = listed_at (data_size f) (cores f) k 0 w.known

  core_at_lem : k < length (sizes_of f)
  unfolding sizes_of
  core_at_lem = omega (arith, length-listed (data_size f) (cores f) 0, w.known)

  base-is : c.layout.base ≡ start (sizes_of f) k
  unfolding core_task
  base-is = ap (λ (x : CoreTask). x.layout.base) w.task ∙ base-start f k (omega (arith, w.known))

  size_is : c.layout.size ≡ get_or (sizes_of f) k 0
  unfolding core_task
  size_is = ap (λ (x : CoreTask). x.layout.size) w.task ∙ sym size-at

  pub stretch-inside : c.layout.base + c.layout.size ≤ length d
  stretch-inside = omega (arith, base-is, size_is, start-end (sizes_of f) k core_at_lem, n)

  -- the limit is reached: a fault, and the buffer stays
  pub limit-in : r.mode ≡ 2 → r.count ≡ c.layout.limit → InstructsIn f t k r d (Failed 1) d
  limit-in i j h sh = record {
    memory = get_or (split (sizes_of f) d) k [];
    does = limit-reached w h i j sh;
    kept = sym (set-get_or (split (sizes_of f) d) k []);
  }

  module _ (e : ℕ) (p : e ≡ c.layout.base + c.layout.size) where
    pub stretch-is : take (e - c.layout.base) (drop c.layout.base d) ≡ get_or (split (sizes_of f) d) k []
    stretch-is =
        let l : e - c.layout.base ≡ get_or (sizes_of f) k 0 = omega (arith, size_is) in
        ap₂ (λ (i j : ℕ). take i (drop j d)) l base-is ∙ sym (split_at (sizes_of f) d k core_at_lem)

    pub stretch-kept : (m : List ℕ) → length m ≡ length (take (e - c.layout.base) (drop c.layout.base d))
        → split (sizes_of f) (take c.layout.base d ++ (m ++ drop (e - c.layout.base) (drop c.layout.base d))) ≡ set (split (sizes_of f) d) k m
    stretch-kept m l =
        stretch-set (sizes_of f) d m k c.layout.base e core_at_lem (n) base-is (omega (arith, size_is)) (l ∙ ap length stretch-is)

    -- the step in the stretch is the step in the buffer
    pub steps-in : (h : Semaphore) (z : Effect) (m sh sh' : List ℕ) → Does (task_of f t) k r (take (e - c.layout.base) (drop c.layout.base d)) sh h z m sh'
        → length m ≡ length (take (e - c.layout.base) (drop c.layout.base d))
        → Steps f t k r d sh h z (take c.layout.base d ++ (m ++ drop (e - c.layout.base) (drop c.layout.base d))) sh'
    steps-in h z m sh sh' q l = record {
      memory = m;
      does = subst (λ (u : List ℕ). Does (task_of f t) k r u sh h z m sh') stretch-is q;
      kept = stretch-kept m l;
    }

    -- an instruction in the stretch is one in the buffer; u is where the code ends
    module _ (u : ℕ) (q : u ≡ c.layout.code + c.layout.length) where
      here : StepGiven f t k c r (take (e - c.layout.base) (drop c.layout.base d))
      here = subst⁻¹ (StepGiven f t k c r) stretch-is w

      pub executable-in : Executable (take (u - c.layout.code) (drop c.layout.code f)) r (take (e - c.layout.base) (drop c.layout.base d))
      executable-in = executable here u q

      pub command-in : {op : ℕ} → byte (code_of f k) r.counter ≡ op → byte (take (u - c.layout.code) (drop c.layout.code f)) r.counter ≡ op
      command-in i = ap (λ (y : List ℕ). byte y r.counter) (code_is (at-instruction w) u q) ∙ i

      pub instructs-in : r.mode ≡ 2 → r.count ≢ c.layout.limit → (o : Outcome) (m : List ℕ)
          → answer o m ≡ executed (take (u - c.layout.code) (drop c.layout.code f)) r (take (e - c.layout.base) (drop c.layout.base d)) → length m ≡ length (take (e - c.layout.base) (drop c.layout.base d))
          → InstructsIn f t k r d o (take c.layout.base d ++ (m ++ drop (e - c.layout.base) (drop c.layout.base d)))
      instructs-in i j o m a l h sh = steps-in h (effect_of r.depth o) m sh sh (instruction-done here h u o m i j q a sh) l

    -- several bytes in the stretch are those in the buffer
    pub bytes-read-in : (x count : ℕ) (m sh : List ℕ) → m ≡ copy (take count (drop x (reads_of (variables_of f) k))) sh (take (e - c.layout.base) (drop c.layout.base d))
        → length m ≡ length (take (e - c.layout.base) (drop c.layout.base d)) → BytesRead f k x count sh d (take c.layout.base d ++ (m ++ drop (e - c.layout.base) (drop c.layout.base d)))
    bytes-read-in x count m sh q l =
        stretch-kept m l ∙ ap (set (split (sizes_of f) d) k) (q ∙ ap (copy (take count (drop x (reads_of (variables_of f) k))) sh) stretch-is)

    pub bytes-written-in : (x count : ℕ) (sh sh' : List ℕ) → sh' ≡ copy (take count (drop x (writes_of (variables_of f) k))) (take (e - c.layout.base) (drop c.layout.base d)) sh
        → BytesWritten f k x count d sh sh'
    bytes-written-in x count sh sh' q = q ∙ ap (λ (l : List ℕ). copy (take count (drop x (writes_of (variables_of f) k))) l sh) stretch-is
