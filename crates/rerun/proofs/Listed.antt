-- The list of a rerun, byte by byte. In order: a byte; a state at rest; one taking more; a list that is refused; the start; the end. Assumes nothing.
use mathlib.Core.Path.{◌≡◌, refl, sym, ap, ap₂, ◌∙◌, subst}
use mathlib.Core.Logic.{◌≢◌, ◌⊎◌, inl, inr}
use mathlib.Core.Bool.{Bool, true, false}
use mathlib.Core.List.{List, [], ◌∷◌, ◌++◌, map, map-append}
use Prim.Native.Nat.{ℕ, suc, ◌+◌, ◌-◌, ◌≤◌, ◌<◌}
use native.Mathlib.Numerals.{add-one}
use native.Mathlib.Omega.{arith}
use borrow.Author.Tests.{lt-ltb, le-ltb, ltb-true, ltb-false, eqb-true}
use lib.Dec.{ltb, eqb}
use lib.ListN.{length, get_or, set, take, drop, drop_of_length-le, take-append-drop, length-set}
use lib.Seq.{take-suc, drop-cons, get_or-set_other, set-get_or}
use Rattle.verdict.specs.Verdict.{pick, both}
use Rattle.verdict.proofs.Verdict.{pick_true, both_true}
use Rattle.memory.specs.Memory.{split, total}
use Rattle.protocol.specs.declared.Registers.{Registers}
use Rattle.protocol.specs.Registers.{write_released}
use Rattle.protocol.specs.State.{Core, Plant, State, Task, core, mode, untaken}
use Rattle.protocol.specs.Step.{copy, write_done, Taking, reading, writing}
use Rattle.protocol.specs.Whole.{whole_one, whole}
use Rattle.protocol.specs.Variables.{writes_of}
use Rattle.protocol.specs.Rerun.{any_left, accepts, legal, rerun_end, decoded, Producing}
use Rattle.protocol.proofs.View.{inside}
use Rattle.protocol.proofs.Whole.{whole_append}
use Rattle.protocol.proofs.Rerun.{legal-append, rerun-holds}
use Rattle.records.specs.File.{cores}
use Rattle.taskset.specs.Task.{sizes_of, variables_of}
use Rattle.taskset.specs.Trace.{record_count}
use Rattle.taskset.specs.Fresh.{fresh_of}
use Rattle.taskset.proofs.Accepted.{fresh-of}
use Rattle.states.specs.declared.Held.{Held}
use Rattle.states.specs.Task.{task_of}
use Rattle.states.specs.Machine.{no_registers, stack_in, core_in, state_in}
use Rattle.states.specs.Fit.{Fit}
use Rattle.states.specs.Set.{AcceptedSet}
use Rattle.states.proofs.Executes.{executes}
use Rattle.states.proofs.Fresh.{fresh-fit}
use Rattle.runner.proofs.Running.{core-in, cores-in, shared-in, semaphore-in}
use Rattle.calls.proofs.Calling.{run-fit}
use Rattle.takings.specs.Takings.{named_core, due_by}
use Rattle.rerun.specs.Rerunning.{Resting, Reread, Rerunning}
use Rattle.rerun.proofs.Reading.{put_in, samples-length, record-next}

-- ---- a byte: core k has it to do exactly if the whole-exchange machine has

any_left_lem : (f t : List ℕ) (k i : ℕ) → any_left (drop i ((task_of f t).samples k)) ≡ ltb i (record_count f t k)
any_left_lem f t k i = go (ltb i (record_count f t k)) refl
  where
    go : (b : Bool) → ltb i (record_count f t k) ≡ b → any_left (drop i ((task_of f t).samples k)) ≡ b
    go true e = ap any_left (record-next f t k i (ltb-true i (record_count f t k) e))
    go false e = ap any_left (drop_of_length-le ((task_of f t).samples k) {i = i} (omega (arith, samples-length f t k, ltb-false i (record_count f t k) e)))

module _ (f t : List ℕ) (p : Plant) (r : Registers) (k : ℕ) (e : (core p k).registers ≡ r) where
  accepts-reading : accepts (task_of f t) (reading k) p ≡ both (eqb r.mode 0) (ltb r.cycles (record_count f t k))
  unfolding accepts
  accepts-reading = ap (λ (u : Registers). both (eqb u.mode 0) (any_left (drop u.cycles ((task_of f t).samples k)))) e ∙ ap (both (eqb r.mode 0)) (any_left_lem f t k r.cycles)

  accepts-writing : accepts (task_of f t) (writing k) p ≡ eqb r.mode 3
  unfolding accepts
  accepts-writing = ap (λ (u : Registers). eqb u.mode 3) e

pub due-is : (f t : List ℕ) (p : Plant) (b : ℕ) (r : Registers) → (core p (named_core b)).registers ≡ r → accepts (task_of f t) (decoded b) p ≡ due_by b r (record_count f t (named_core b))
unfolding pick
due-is f t p b r e = go (ltb b 16) e
  where
    go : (q : Bool) → (core p (pick q b (b - 16))).registers ≡ r
        → accepts (task_of f t) (pick q (reading b) (writing (b - 16))) p ≡ pick q (both (eqb r.mode 0) (ltb r.cycles (record_count f t (pick q b (b - 16))))) (eqb r.mode 3)
    go true e = accepts-reading f t p r b e
    go false e = accepts-writing f t p r (b - 16) e

-- a byte that names no core has nothing to do
accepted-known : (t : Task) (x : Taking) (k : ℕ) (p : Plant) → (x ≡ reading k) ⊎ (x ≡ writing k) → accepts t x p ≡ true → k < length p.cores
unfolding accepts
accepted-known t x k p (inl e) a = let u = both_true _ _ (ap (λ (y : Taking). accepts t y p) (sym e) ∙ a) in inside p.cores k 0 (eqb-true _ _ u.0) (omega arith)
accepted-known t x k p (inr e) a = inside p.cores k 3 (eqb-true _ _ (ap (λ (y : Taking). accepts t y p) (sym e) ∙ a)) (omega arith)

which : (b : ℕ) → (decoded b ≡ reading (named_core b)) ⊎ (decoded b ≡ writing (named_core b))
unfolding pick
which b = go (ltb b 16)
  where
    go : (q : Bool) → (pick q (reading b) (writing (b - 16)) ≡ reading (pick q b (b - 16))) ⊎ (pick q (reading b) (writing (b - 16)) ≡ writing (pick q b (b - 16)))
    go true = inl refl
    go false = inr refl

pub unknown-refused : (t : Task) (b : ℕ) (p : Plant) → length p.cores ≤ named_core b → accepts t (decoded b) p ≡ false
unknown-refused t b p h = go (accepts t (decoded b) p) refl
  where
    go : (q : Bool) → accepts t (decoded b) p ≡ q → q ≡ false
    go true e = absurd (let z : ⊥ = omega (arith, accepted-known t (decoded b) (named_core b) p (which b) e) in z)
    go false e = refl

read_byte_lem : (b : ℕ) → b < 16 → decoded b ≡ reading (named_core b)
unfolding pick
read_byte_lem b h = rw (lt-ltb b 16 h)

write_byte_lem : (b : ℕ) → 16 ≤ b → decoded b ≡ writing (named_core b)
unfolding pick
write_byte_lem b h = rw (le-ltb b 16 h)

-- what the whole-exchange machine does at a writing
whole-written : (f t : List ℕ) (p : Plant) (k : ℕ) (c : Core) → core p k ≡ c → mode c ≡ 3
    → whole_one (task_of f t) (writing k) p
    ≡ record { cores = set p.cores k record { registers = write_released c.registers; stack = c.stack; memory = c.memory }; shared = copy (writes_of (variables_of f) k) c.memory p.shared }
unfolding whole_one task_of write_done
whole-written f t p k c q e = rw (q, e)

-- ---- a list byte by byte

pub bytes-to : (list : List ℕ) (i : ℕ) → i < length list → map decoded (take (i + 1) list) ≡ map decoded (take i list) ++ (decoded (get_or list i 0) ∷ [])
bytes-to list i h =
    ap (λ (n : ℕ). map decoded (take n list)) (add-one i) ∙ ap (map decoded) (take-suc list i 0 h) ∙ map-append decoded (take i list) (get_or list i 0 ∷ [])

bytes-from : (list : List ℕ) (i : ℕ) → i < length list → map decoded list ≡ map decoded (take i list) ++ (decoded (get_or list i 0) ∷ map decoded (drop (suc i) list))
bytes-from list i h =
    ap (map decoded) (sym (take-append-drop i list) ∙ ap (λ (l : List ℕ). take i list ++ l) (drop-cons list i 0 h))
    ∙ map-append decoded (take i list) (get_or list i 0 ∷ drop (suc i) list)

-- ---- a state at rest

module _ (f t list : List ℕ) (ok : AcceptedSet f t) (h : Held) (i : ℕ) (cs : List Registers) (places offsets d sh : List ℕ) (w : Rerunning f t list h i cs places offsets d sh) where
  abbrev now : State
  now = state_in f cs places offsets untaken d sh

  abbrev far : List Taking
  far = map decoded (take i list)

  pub now-is : now ≡ rerun_end (task_of f t) far (fresh_of f)
  now-is = whole-state w.plant (semaphore-in f cs places offsets untaken d sh)
    where
      whole-state : now.plant ≡ whole (task_of f t) far (fresh_of f).plant → now.semaphore ≡ untaken → now ≡ rerun_end (task_of f t) far (fresh_of f)
      whole-state a b = λ z. record { plant = a z; semaphore = b z }

  small : length (fresh_of f).plant.cores ≤ 16
  small = omega (arith, (fresh-fit f t ok).table, ok.few)

  made : Producing (task_of f t) (fresh_of f) (take i list) (rerun_end (task_of f t) far (fresh_of f))
  made = (rerun-holds (task_of f t) (executes f t ok).laws (fresh_of f) (fresh-of f) small (take i list)).produced (rerun_end (task_of f t) far (fresh_of f)) (pick_true _ _ _ w.lawful)

  pub at_rest : Resting f t cs places offsets d sh
  at_rest = record {
    stands = record {
      four = w.four;
      entries = w.entries;
      buffer = w.buffer;
      fit = subst (Fit f t) (made.end ∙ sym now-is) (run-fit f t ok made.steps (fresh_of f) (fresh-fit f t ok));
    };
    still = λ j. settled (ap (λ (s : State). mode (core s.plant j)) now-is) (made.settled j);
  }
    where
      settled : {m n : ℕ} → m ≡ n → (n ≡ 0) ⊎ ((n ≡ 3) ⊎ (n ≡ 5)) → (m ≢ 1) × (m ≢ 2) × (m ≢ 4)
      settled q (inl e) = omega arith
      settled q (inr (inl e)) = omega arith
      settled q (inr (inr e)) = omega arith

  known-cores : length now.plant.cores ≡ cores f
  known-cores = cores-in f cs places offsets untaken d sh

  own : (k : ℕ) → k < cores f → core now.plant k ≡ core_in f cs places offsets d k
  own k j = core-in f cs places offsets untaken d sh k j

  -- ---- the taking at byte i

  module _ (less : i < length list) (b : ℕ) (byte : b ≡ get_or list i 0) where
    -- the whole list is refused, where this taking is not to do
    pub list-refused : accepts (task_of f t) (decoded b) now.plant ≡ false → legal (task_of f t) (map decoded list) (fresh_of f).plant ≡ false
    list-refused e =
        ap (λ (xs : List Taking). legal (task_of f t) xs (fresh_of f).plant) (bytes-from list i less)
        ∙ legal-append (task_of f t) far (decoded (get_or list i 0) ∷ map decoded (drop (suc i) list)) (fresh_of f).plant
        ∙ go _ w.lawful (ap₂ (λ (x : ℕ) (p : Plant). accepts (task_of f t) (decoded x) p) (sym byte) (sym w.plant) ∙ e)
      where
        go : {a c : Bool} (r : Bool) → a ≡ true → c ≡ false → both a (both c r) ≡ false
        go r p q = rw (p, q)

    pub none_named : cores f ≤ named_core b → accepts (task_of f t) (decoded b) now.plant ≡ false
    none_named j = unknown-refused (task_of f t) b now.plant (rw known-cores j)

    pub due-here : named_core b < cores f → (count : ℕ) → count ≡ record_count f t (named_core b) → accepts (task_of f t) (decoded b) now.plant ≡ due_by b (get_or cs (named_core b) no_registers) count
    due-here j count e = due-is f t now.plant b (get_or cs (named_core b) no_registers) (ap (λ (c : Core). c.registers) (own (named_core b) j)) ∙ ap (due_by b (get_or cs (named_core b) no_registers)) (sym e)

    -- one taking more
    pub taken-on : accepts (task_of f t) (decoded b) now.plant ≡ true
        → (cs' : List Registers) (places' offsets' d' sh' : List ℕ) → (state_in f cs' places' offsets' untaken d' sh').plant ≡ whole_one (task_of f t) (decoded b) now.plant
        → length cs' ≡ 4 → (length places' ≡ 64) × (length offsets' ≡ 64) → length d' ≡ total (sizes_of f) → length sh' ≡ 1024
        → ((j : ℕ) → cores f ≤ j → (get_or cs' j no_registers ≡ get_or cs j no_registers) × (stack_in places' offsets' j ≡ stack_in places offsets j))
        → Rerunning f t list h (i + 1) cs' places' offsets' d' sh'
    taken-on a cs' places' offsets' d' sh' e four entries buffer shared spare = record {
      within = omega arith;
      lawful = ap (λ (xs : List Taking). legal (task_of f t) xs (fresh_of f).plant) (bytes-to list i less)
          ∙ legal-append (task_of f t) far (decoded (get_or list i 0) ∷ []) (fresh_of f).plant
          ∙ go w.lawful (ap₂ (λ (x : ℕ) (p : Plant). accepts (task_of f t) (decoded x) p) (sym byte) (sym w.plant) ∙ a);
      plant = e
          ∙ ap₂ (λ (x : ℕ) (p : Plant). whole_one (task_of f t) (decoded x) p) byte w.plant
          ∙ sym (whole_append (task_of f t) far (decoded (get_or list i 0) ∷ []) (fresh_of f).plant)
          ∙ ap (λ (xs : List Taking). whole (task_of f t) xs (fresh_of f).plant) (sym (bytes-to list i less));
      four = four;
      entries = entries;
      buffer = buffer;
      shared = shared;
      spare = λ j g. ((spare j g).0 ∙ (w.spare j g).0, (spare j g).1 ∙ (w.spare j g).1);
    }
      where
        go : {a c : Bool} → a ≡ true → c ≡ true → both a (both c true) ≡ true
        go p q = rw (p, q)

    -- a reading: what the function promises of it
    pub read-on : b < 16 → named_core b < cores f → accepts (task_of f t) (decoded b) now.plant ≡ true → (cs' : List Registers) (r' : Registers) (places' offsets' d' : List ℕ)
        → cs' ≡ set cs (named_core b) r' → Reread f t (named_core b) cs places offsets d sh r' places' offsets' d'
        → Rerunning f t list h (i + 1) cs' places' offsets' d' sh
    read-on small ik a cs' r' places' offsets' d' ce y =
        let k = named_core b in
        let which-is : decoded b ≡ reading k = read_byte_lem b small in
        taken-on a cs' places' offsets' d' sh
        (ap (λ (l : List Registers). (state_in f l places' offsets' untaken d' sh).plant) ce ∙ y.plant ∙ ap (λ (x : Taking). whole_one (task_of f t) x now.plant) (sym which-is))
        (ap length ce ∙ length-set cs k r' ∙ w.four) y.entries y.buffer w.shared
        (λ j g. (ap (λ (l : List Registers). get_or l j no_registers) ce ∙ get_or-set_other cs k j r' no_registers (apart j g), y.spare j g))
      where
        apart : (j : ℕ) → cores f ≤ j → j ≢ named_core b
        apart j g u = omega arith

    -- a writing
    pub write-on : 16 ≤ b → named_core b < cores f → accepts (task_of f t) (decoded b) now.plant ≡ true → (cs' : List Registers) (sh' : List ℕ)
        → cs' ≡ set cs (named_core b) (write_released (get_or cs (named_core b) no_registers)) → sh' ≡ copy (writes_of (variables_of f) (named_core b)) (get_or (split (sizes_of f) d) (named_core b) []) sh → length sh' ≡ length sh
        → Rerunning f t list h (i + 1) cs' places offsets d sh'
    write-on large ik a cs' sh' ce se long =
        let k = named_core b in
        let which-is : decoded b ≡ writing k = write_byte_lem b large in
        let three : (get_or cs k no_registers).mode ≡ 3 = eqb-true _ _ (sym (accepts-writing f t now.plant (get_or cs k no_registers) k (ap (λ (c : Core). c.registers) (own k ik))) ∙ ap (λ (x : Taking). accepts (task_of f t) x now.plant) (sym which-is) ∙ a) in
        taken-on a cs' places offsets d sh'
        (ap (λ (l : List Registers). (state_in f l places offsets untaken d sh').plant) ce
        ∙ ap (λ (s : State). s.plant) (put_in f cs places offsets untaken d sh k (write_released (get_or cs k no_registers)) (get_or (split (sizes_of f) d) k []) d sh' ik (omega (arith, ok.few, w.four)) (sym (set-get_or (split (sizes_of f) d) k [])))
        ∙ ap (λ (l : List ℕ). record { cores = set now.plant.cores k record { registers = write_released (get_or cs k no_registers); stack = stack_in places offsets k; memory = get_or (split (sizes_of f) d) k [] }; shared = l })
        (se ∙ ap (copy (writes_of (variables_of f) k) (get_or (split (sizes_of f) d) k [])) (sym (shared-in f cs places offsets untaken d sh)))
        ∙ sym (whole-written f t now.plant k (core_in f cs places offsets d k) (own k ik) three)
        ∙ ap (λ (x : Taking). whole_one (task_of f t) x now.plant) (sym which-is))
        (ap length ce ∙ length-set cs k _ ∙ w.four) w.entries w.buffer (long ∙ w.shared)
        (λ j g. (ap (λ (l : List Registers). get_or l j no_registers) ce ∙ get_or-set_other cs k j _ no_registers (apart j g), refl))
      where
        apart : (j : ℕ) → cores f ≤ j → j ≢ named_core b
        apart j g u = omega arith
