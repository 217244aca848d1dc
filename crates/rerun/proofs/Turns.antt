-- One byte of the list, as the loop over it meets it: what its calls ask, and what each way leaves. Assumes nothing.
use mathlib.Core.Path.{◌≡◌, refl, sym, ap, ◌∙◌, subst}
use mathlib.Core.Bool.{Bool, true, false}
use mathlib.Core.List.{List, [], map}
use Prim.Native.Nat.{ℕ, ◌+◌, ◌*◌, ◌≤◌, ◌<◌}
use native.Mathlib.Omega.{arith}
use borrow.Author.Tests.{lt-ltb, le-ltb, ltb-true, ltb-false, eqb-true}
use lib.Dec.{ltb, eqb}
use lib.ListN.{length, get_or, set}
use Rattle.verdict.specs.Verdict.{pick}
use Rattle.verdict.proofs.Verdict.{both_true}
use Rattle.memory.specs.Memory.{split, total}
use Rattle.exchange.proofs.Records.{place_of}
use Rattle.protocol.specs.declared.Registers.{Registers}
use Rattle.protocol.specs.Registers.{write_released}
use Rattle.protocol.specs.State.{untaken}
use Rattle.protocol.specs.Step.{copy}
use Rattle.protocol.specs.Variables.{writes_of}
use Rattle.protocol.proofs.Copy.{copy-length}
use Rattle.protocol.specs.Rerun.{accepts, legal, decoded}
use Rattle.records.specs.File.{cores, variables, record_place}
use Rattle.taskset.specs.declared.Layout.{Layout}
use Rattle.taskset.specs.Layout.{layout_of}
use Rattle.taskset.specs.Task.{sizes_of, variables_of}
use Rattle.taskset.specs.Trace.{record_count}
use Rattle.taskset.specs.Fresh.{fresh_of}
use Rattle.states.specs.declared.Held.{Held}
use Rattle.states.specs.declared.CoreTask.{CoreTask}
use Rattle.states.specs.Task.{task_of}
use Rattle.states.specs.Tasks.{core_task}
use Rattle.states.specs.Machine.{no_registers, core_in, state_in}
use Rattle.states.specs.Fit.{FitCore}
use Rattle.states.specs.Set.{AcceptedSet}
use Rattle.runner.proofs.Running.{core-in, shared-in}
use Rattle.machine.specs.Calls.{lent_fits}
use Rattle.takings.specs.Takings.{named_core, due_by}
use Rattle.rerun.specs.Rerunning.{data_in, Exchanging, Reading, ReadsWhole, Due, Took, Rerunning}
use Rattle.rerun.proofs.Reading.{count-is, ready_of}
use Rattle.rerun.proofs.Listed.{at_rest, list-refused, none_named, due-here, read-on, write-on}

-- ---- the layout

module _ {f t : List ℕ} (ok : AcceptedSet f t) {l : Layout} (e : l ≡ layout_of f) where
  pub first-is : l.first ≡ record_place f 0
  first-is = ap (λ (x : Layout). x.first) e

  variables-are : l.variables ≡ variables f
  variables-are = ap (λ (x : Layout). x.variables) e

  pub end_is : l.first + 12 * l.variables ≡ record_place f (variables f)
  end_is = omega (arith, first-is, variables-are, place_of f (variables f))

  pub cores-are : l.cores ≡ cores f
  cores-are = ap (λ (x : Layout). x.cores) e

  pub few-variables : l.variables ≤ 64
  few-variables = omega (arith, variables-are, ok.laid.few)

  pub near_first : l.first ≤ 100
  near_first = omega (arith, first-is, ok.few)

-- ---- a byte

due-read : (b : ℕ) (r : Registers) (count : ℕ) → b < 16 → due_by b r count ≡ true → (r.mode ≡ 0) × (r.cycles < count)
unfolding pick
due-read b r count h e =
    let d = rw (lt-ltb b 16 h) at e in
    let a = both_true (eqb r.mode 0) (ltb r.cycles count) d in
    (eqb-true _ _ a.0, ltb-true _ _ a.1)

due-write : (b : ℕ) (r : Registers) (count : ℕ) → 16 ≤ b → due_by b r count ≡ true → r.mode ≡ 3
unfolding pick
due-write b r count h e = let d = rw (le-ltb b 16 h) at e in eqb-true _ _ d

-- what the ways to take it are given
module _ {f t : List ℕ} {b k : ℕ} {c : CoreTask} {first end : ℕ} {r : Registers} {places offsets d sh : List ℕ} (x : Due f t b k c first end r places offsets d sh) where
  pub reading-due : b < 16 → Reading f t k c first end r places offsets d sh
  reading-due small =
      let y = due-read b r c.count small x.due in
      record {
        accepted = x.accepted;
        known = x.known;
        task = x.task;
        from = x.from;
        upto = x.upto;
        idle = y.0;
        due = rw (count-is f t k c x.task) at y.1;
        cs = x.cs;
        here = x.here;
        rests = x.rests;
      }

  pub writing-due : Exchanging f t k c first end r (data_in f k d) sh × (length d ≡ total (sizes_of f))
  writing-due = (
    record {
      ready = ready_of f t x.accepted k x.known c x.task r x.cs places offsets d sh x.here x.rests;
      from = x.from;
      upto = x.upto;
      shared = sym (ap length (shared-in f x.cs places offsets untaken d sh)) ∙ x.rests.stands.fit.shared;
    },
    x.rests.stands.buffer,
  )

  pub cycles-due : 16 ≤ b → r.cycles < 65535
  cycles-due large =
      let y : (get_or x.cs k no_registers).mode ≡ 3 = ap (λ (q : Registers). q.mode) x.here ∙ due-write b r c.count large x.due in
      let core : FitCore f t k (core_in f x.cs places offsets d k) = subst (FitCore f t k) (core-in f x.cs places offsets untaken d sh k x.known) (x.rests.stands.fit.each k x.known) in
      omega (arith, core.under-way (omega (arith, y)) (omega (arith, y)), x.accepted.counts k, ap (λ (q : Registers). q.cycles) x.here)

-- with other names for its parts
pub rerunning-as : {f t list : List ℕ} {h : Held} {i : ℕ} {cs cs' : List Registers} {places places' offsets offsets' d d' sh sh' : List ℕ} → d' ≡ d → sh' ≡ sh → cs' ≡ cs → places' ≡ places → offsets' ≡ offsets
    → Rerunning f t list h i cs places offsets d sh → Rerunning f t list h i cs' places' offsets' d' sh'
rerunning-as a b e p o w = rw (a, b, e, p, o) w

module _ {f t list : List ℕ} (ok : AcceptedSet f t) {h : Held} {i : ℕ} {cs : List Registers} {places offsets d sh : List ℕ} (w : Rerunning f t list h i cs places offsets d sh) (less : i < length list)
    (b : ℕ) (byte : b ≡ get_or list i 0) (k : ℕ) (named : k ≡ named_core b) where
  -- it names no core
  pub no-core : cores f ≤ k → legal (task_of f t) (map decoded list) (fresh_of f).plant ≡ false
  no-core g = list-refused f t list ok h i cs places offsets d sh w less b byte (none_named f t list ok h i cs places offsets d sh w less b byte (subst (λ (n : ℕ). cores f ≤ n) named g))

  module _ (ik : k < cores f) (c : CoreTask) (task : c ≡ core_task f t k) where
    accepts-is : accepts (task_of f t) (decoded b) (state_in f cs places offsets untaken d sh).plant ≡ due_by b (get_or cs k no_registers) c.count
    accepts-is =
        due-here f t list ok h i cs places offsets d sh w less b byte (subst (λ (n : ℕ). n < cores f) named ik) c.count (count-is f t k c task ∙ ap (record_count f t) named)
        ∙ ap (λ (n : ℕ). due_by b (get_or cs n no_registers) c.count) (sym named)

    -- its core does not have it to do
    pub not-due : due_by b (get_or cs k no_registers) c.count ≡ false → legal (task_of f t) (map decoded list) (fresh_of f).plant ≡ false
    not-due e = list-refused f t list ok h i cs places offsets d sh w less b byte (accepts-is ∙ e)

    module _ (due : due_by b (get_or cs k no_registers) c.count ≡ true) where
      accepted : accepts (task_of f t) (decoded b) (state_in f cs places offsets untaken d sh).plant ≡ true
      accepted = accepts-is ∙ due

      pub due-given : (first end : ℕ) → first ≡ record_place f 0 → end ≡ record_place f (variables f) → Due f t b k c first end (get_or cs k no_registers) places offsets d sh
      due-given first end a z = record {
        accepted = ok;
        known = ik;
        task = task;
        from = a;
        upto = z;
        due = due;
        cs = cs;
        here = refl;
        rests = at_rest f t list ok h i cs places offsets d sh w;
      }

      -- a reading
      reading-on : b < 16 → (r' : Registers) (places' offsets' d' : List ℕ) → ReadsWhole f t k (get_or cs k no_registers) places offsets d sh r' places' offsets' d'
          → (cs' : List Registers) → cs' ≡ set cs k r' → Rerunning f t list h (i + 1) cs' places' offsets' d' sh
      reading-on small r' places' offsets' d' y cs' ce =
          read-on f t list ok h i cs places offsets d sh w less b byte small (subst (λ (n : ℕ). n < cores f) named ik) accepted cs' r' places' offsets' d' (ce ∙ ap (λ (n : ℕ). set cs n r') named)
          (subst (λ (n : ℕ). ReadsWhole f t n (get_or cs n no_registers) places offsets d sh r' places' offsets' d') named y cs refl (at_rest f t list ok h i cs places offsets d sh w))

      -- a writing
      writing-on : 16 ≤ b → (sh' : List ℕ) → sh' ≡ copy (writes_of (variables_of f) k) (get_or (split (sizes_of f) d) k []) sh
          → (cs' : List Registers) (r' : Registers) → r' ≡ write_released (get_or cs k no_registers) → cs' ≡ set cs k r' → Rerunning f t list h (i + 1) cs' places offsets d sh'
      writing-on large sh' se cs' r' re ce =
          write-on f t list ok h i cs places offsets d sh w less b byte large (subst (λ (n : ℕ). n < cores f) named ik) accepted cs' sh'
          (ce ∙ ap (set cs k) re ∙ ap (λ (n : ℕ). set cs n (write_released (get_or cs n no_registers))) named)
          (se ∙ ap (λ (n : ℕ). copy (writes_of (variables_of f) n) (get_or (split (sizes_of f) d) n []) sh) named) (ap length se ∙ copy-length (writes_of (variables_of f) k) (get_or (split (sizes_of f) d) k []) sh)

      -- the loop goes on
      pub took-on : {r' : Registers} {places' offsets' d' sh' : List ℕ} → Took f t b k (get_or cs k no_registers) places offsets d sh r' places' offsets' d' sh'
          → (cs' : List Registers) → cs' ≡ set cs k r' → Rerunning f t list h (i + 1) cs' places' offsets' d' sh'
      took-on {r'} {places'} {offsets'} {d'} {sh'} y cs' ce = go (ltb b 16) refl
        where
          go : (x : Bool) → ltb b 16 ≡ x → Rerunning f t list h (i + 1) cs' places' offsets' d' sh'
          go true e =
              let q = y.reads (ltb-true _ _ e) in
              rerunning-as refl q.1 refl refl refl (reading-on (ltb-true _ _ e) r' places' offsets' d' q.0 cs' ce)
          go false e =
              let q = y.writes (ltb-false _ _ e) in
              rerunning-as q.4 refl refl q.2 q.3 (writing-on (ltb-false _ _ e) sh' q.1 cs' r' q.0 ce)

pub known-few : {f t : List ℕ} → AcceptedSet f t → {l : Layout} → l ≡ layout_of f → {k : ℕ} → k < l.cores → k < 4
known-few ok e h = omega (arith, cores-are ok e, ok.few)

pub lent-lengths : (f : List ℕ) (buffer shared : ℕ) → lent_fits f buffer shared ≡ true → (buffer ≡ total (sizes_of f)) × (shared ≡ 1024)
unfolding lent_fits
lent-lengths f buffer shared e = let b = both_true _ _ e in (eqb-true _ _ b.0, eqb-true _ _ b.1)
