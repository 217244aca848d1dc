-- The instructions fault in the order of specs/Faults. In order: the data part; control, by the code byte; the limit; a core's step. Assumes nothing.
use mathlib.Core.Path.{◌≡◌, refl, ap, ◌∙◌, subst}
use mathlib.Core.Bool.{Bool, true, false}
use mathlib.Core.List.{List}
use mathlib.Core.Option.{Option, none, some, get_or, none-ne-some}
use Prim.Native.Nat.{ℕ, ◌≤◌, ◌<◌}
use native.Mathlib.Omega.{arith}
use borrow.Author.Tests.{eqb-true}
use lib.Dec.{eqb}
use lib.ListN.{length}
use Rattle.verdict.specs.Numbers.{index_bit, limit_bit, divisor_bit, address_bit, call_bit, conversion_bit}
use Rattle.verdict.specs.Verdict.{pick}
use Rattle.verdict.proofs.Verdict.{by-pick}
use Rattle.memory.specs.Memory.{byte, read_le}
use Rattle.values.specs.Types.{width_of}
use Rattle.values.specs.Commands.{any_beyond}
use Rattle.conversions.specs.Conversions.{Result, stores, not-held, converted}
use Rattle.std.specs.Prelude.{Err}
use Rattle.verdict.specs.declared.Fault.TheVariants.{Address}
use Rattle.conversions.specs.Data.{ended, settled, tried, converting}
use Rattle.packed.specs.Packed.{packed, unpacked}
use Rattle.packed.specs.Data.{packing, unpacking}
use Rattle.protocol.specs.declared.Registers.{Registers}
use Rattle.protocol.specs.declared.Outcome.{Outcome}
use Rattle.protocol.specs.declared.Outcome.TheVariants.{Fault, Next, Call, Return as Returned}
use Rattle.protocol.specs.State.{Core, Task, core, put}
use Rattle.protocol.specs.Instruction.{Executed, applied_by, applied, halted, limited, instruction_by}
use Rattle.protocol.specs.Step.{step}
use Rattle.code.specs.declared.Instruction.{Instruction}
use Rattle.code.specs.declared.Instruction.TheVariants.{Return, Jump, JumpZero, JumpNotZero, CallInstance, CallFunction, MoveConstant, CopyMemory, ReadElement, WriteElement, Typed, CycleTime, FlagByte, Convert, Pack, Unpack, Unknown}
use Rattle.code.specs.Commands.{row_of, Kind, Returns, Jumps, Branches, Calls, Passes}
use Rattle.code.specs.Flow.{kind_at, target_at, after}
use Rattle.code.specs.Instructions.{typed_at, instruction_at}
use Rattle.code.proofs.Laws.{is, kind-passes}
use Rattle.processor.specs.Processor.{Decided, refused, decided, fault_if, at, of_element, of_conversion, data_part, answer, branched, call_made, passed, controlled, executed}
use Rattle.operands.specs.Faults.{FaultTests, bit_if, fault_order, is_not_held, tests_of, tests_at, fault_of, stopped_by, FaultsInOrder, FaultsStop}

-- ---- the data part: what is tried after the limit and the nested call

-- the fault that it decides, if any
abbrev fault_in : Decided → Option ℕ
fault_in (refused b) = some b
fault_in (decided made offset m) = none

-- the order from the addresses on
abbrev from_address : FaultTests → Option ℕ
from_address x =
    bit_if x.address address_bit
    (bit_if x.index index_bit (bit_if x.element-address address_bit (bit_if x.divisor divisor_bit (bit_if x.result conversion_bit none))))

record Finds (x : Decided) (fault : Option ℕ) : Type 0 where
  found : fault_in x ≡ fault

-- a test that the instruction has; one that it does not have
tested : (test : Bool) (b : ℕ) (x : Decided) (later : Option ℕ) → Finds x later → Finds (fault_if test b x) (bit_if test b later)
unfolding pick
tested true b x later f = record { found = refl }
tested false b x later f = f

untested : (b : ℕ) (x : Decided) (later : Option ℕ) → Finds x later → Finds x (bit_if false b later)
unfolding pick
untested b x later f = f

-- it has none from the index on; from the divisor on; of the result
fine-index : (made : Bool) (offset : ℕ) (m : List ℕ)
    → Finds (decided made offset m) (bit_if false index_bit (bit_if false address_bit (bit_if false divisor_bit (bit_if false conversion_bit none))))
unfolding pick
fine-index made offset m = record { found = refl }

fine-divisor : (made : Bool) (offset : ℕ) (m : List ℕ) → Finds (decided made offset m) (bit_if false divisor_bit (bit_if false conversion_bit none))
unfolding pick
fine-divisor made offset m = record { found = refl }

fine-result : (made : Bool) (offset : ℕ) (m : List ℕ) → Finds (decided made offset m) (bit_if false conversion_bit none)
unfolding pick
fine-result made offset m = record { found = refl }

module _ (limit : ℕ) (c : List ℕ) (r : Registers) (d : List ℕ) where
  -- a conversion to a type t from a type u, with the result y
  converts : (t u to source : ℕ) (y : Result)
      → Finds (of_conversion r (tried t u d to source y))
      (bit_if (any_beyond (length d) to (width_of t) source (width_of u)) address_bit
      (bit_if false index_bit (bit_if false address_bit (bit_if false divisor_bit (bit_if (is_not_held y) conversion_bit none)))))
  unfolding tried pick
  converts t u to source y = go (any_beyond (length d) to (width_of t) source (width_of u)) y
    where
      go : (b : Bool) (y : Result) → Finds (of_conversion r (pick b (ended (Err Address) d) (settled t d to y))) (bit_if b address_bit (bit_if (is_not_held y) conversion_bit none))
      go true y = record { found = refl }
      go false (stores p) = record { found = refl }
      go false not-held = record { found = refl }

  data-part : (i : Instruction) → Finds (data_part i c r d) (from_address (tests_of limit r d i))
  unfolding tests_of data_part of_element converting packing unpacking
  data-part Return = untested _ _ _ (fine-index _ _ _)
  data-part (Jump t) = untested _ _ _ (fine-index _ _ _)
  data-part (JumpZero a t) = tested _ _ _ _ (fine-index _ _ _)
  data-part (JumpNotZero a t) = tested _ _ _ _ (fine-index _ _ _)
  data-part (CallInstance i t) = tested _ _ _ _ (fine-index _ _ _)
  data-part (CallFunction t) = untested _ _ _ (fine-index _ _ _)
  data-part (MoveConstant to n) = tested _ _ _ _ (fine-index _ _ _)
  data-part (CopyMemory to from n) = tested _ _ _ _ (fine-index _ _ _)
  data-part (ReadElement v a i size count) = tested _ _ _ _ (tested _ _ _ _ (tested _ _ _ _ (fine-divisor _ _ _)))
  data-part (WriteElement v a i size count) = tested _ _ _ _ (tested _ _ _ _ (tested _ _ _ _ (fine-divisor _ _ _)))
  data-part (Typed code t to a b) = tested _ _ _ _ (untested _ _ _ (untested _ _ _ (tested _ _ _ _ (fine-result _ _ _))))
  data-part (CycleTime to) = tested _ _ _ _ (fine-index _ _ _)
  data-part (FlagByte to) = tested _ _ _ _ (fine-index _ _ _)
  data-part (Convert from to destination source) = converts to from (at r destination) (at r source) (converted from to (read_le d (at r source) (width_of from)))
  data-part (Pack t destination source) = converts t t (at r destination) (at r source) (packed t (read_le d (at r source) (width_of t)))
  data-part (Unpack t destination source) = converts t t (at r destination) (at r source) (unpacked t (read_le d (at r source) (width_of t)))
  data-part Unknown = untested _ _ _ (fine-index _ _ _)

-- ---- control

-- What an instruction answers on the data d: this fault, if it is one, and then the same data
record Ends (d : List ℕ) (x : Executed) (fault : Option ℕ) : Type 0 where
  same-fault : fault_of x.outcome ≡ fault
  same-data : (b : ℕ) → fault ≡ some b → x.memory ≡ d

-- the test of a nested call, and what the data part decides, by the kind of the instruction
abbrev ByKind : ℕ → Kind → Bool → Decided → Type 0
ByKind depth Returns nested x = (nested ≡ false) × (fault_in x ≡ none)
ByKind depth Jumps nested x = (nested ≡ false) × (fault_in x ≡ none)
ByKind depth Branches nested x = nested ≡ false
ByKind depth Calls nested x = nested ≡ eqb depth 16
ByKind depth Passes nested x = nested ≡ false

module _ (d : List ℕ) where
  no-fault : (o : Outcome) (m : List ℕ) → fault_of o ≡ none → Ends d (answer o m) none
  no-fault o m e = record { same-fault = e; same-data = λ b f. absurd (none-ne-some b f) }

  faults : (b : ℕ) → Ends d (halted b d) (some b)
  faults b = record { same-fault = refl; same-data = λ b f. refl }

  ends-tested : (test : Bool) (b : ℕ) (x : Executed) (later : Option ℕ) → Ends d x later → Ends d (pick test (halted b d) x) (bit_if test b later)
  unfolding pick
  ends-tested true b x later e = faults b
  ends-tested false b x later e = e

  -- what the data part decides is what it ends with, of each kind of instruction
  branch-ends : (next target : ℕ) (x : Decided) → Ends d (branched next target d x) (fault_in x)
  branch-ends next target (refused b) = faults b
  branch-ends next target (decided made offset m) = no-fault _ _ refl

  call_ends : (next target : ℕ) (x : Decided) → Ends d (call_made next target d x) (fault_in x)
  call_ends next target (refused b) = faults b
  call_ends next target (decided made offset m) = no-fault _ _ refl

  pass-ends : (next : ℕ) (x : Decided) → Ends d (passed next d x) (fault_in x)
  pass-ends next (refused b) = faults b
  pass-ends next (decided made offset m) = no-fault _ _ refl

  controls : (depth next target : ℕ) (k : Kind) (nested : Bool) (x : Decided) → ByKind depth k nested x
      → Ends d (controlled k next target depth d x) (bit_if nested call_bit (fault_in x))
  unfolding pick
  controls depth next target Returns nested x h = rw (h.0, h.1) (no-fault _ _ refl)
  controls depth next target Jumps nested x h = rw (h.0, h.1) (no-fault _ _ refl)
  controls depth next target Branches nested x h = rw h (branch-ends next target x)
  controls depth next target Calls nested x h = rw h (ends-tested (eqb depth 16) call_bit (call_made next target d x) (fault_in x) (call_ends next target x))
  controls depth next target Passes nested x h = rw h (pass-ends next x)

module _ (limit : ℕ) (c : List ℕ) (r : Registers) (d : List ℕ) where
  abbrev here : Instruction
  here = instruction_at c r.counter

  -- from code byte 6 on there are no calls
  calls-none : 6 ≤ byte c r.counter → (tests_of limit r d here).nested-call ≡ false
  unfolding instruction_at typed_at tests_of
  calls-none h =
      let P : Instruction → Type 0 = λ (i : Instruction). (tests_of limit r d i).nested-call ≡ false in
      by-pick P _ _ _ (λ z. refl)
      (λ z. by-pick P _ _ _ (λ z. refl)
      (λ z. by-pick P _ _ _ (λ z. refl)
      (λ z. by-pick P _ _ _ (λ z. refl)
      (λ z. by-pick P _ _ _ (λ z. absurd (low 4 (eqb-true _ 4 z) (omega arith)))
      (λ z. by-pick P _ _ _ (λ z. absurd (low 5 (eqb-true _ 5 z) (omega arith)))
      (λ z. by-pick P _ _ _ (λ z. refl)
      (λ z. by-pick P _ _ _ (λ z. refl)
      (λ z. by-pick P _ _ _ (λ z. refl)
      (λ z. by-pick P _ _ _ (λ z. refl)
      (λ z. by-pick P _ _ _ (λ z. refl)
      (λ z. by-pick P _ _ _ (λ z. refl)
      (λ z. by-pick P _ _ _ (λ z. refl)
      (λ z. by-pick P _ _ _ (λ z. refl)
      (λ z. by-pick P _ _ _ (λ z. refl)
      (λ z. by-pick P _ _ _ (λ z. refl)
      (λ z. by-pick P _ _ _ (λ z. refl) (λ z. refl)))))))))))))))))
    where
      low : (k : ℕ) → byte c r.counter ≡ k → k < 6 → ⊥
      low k e l = omega arith

  by_kind : ByKind r.depth (kind_at c r.counter) (tests_of limit r d here).nested-call (data_part here c r d)
  unfolding data_part tests_of instruction_at row_of pick kind_at
  by_kind =
      is _ (byte c r.counter) 0 (λ e. rw e (refl, refl))
      (λ n0. is _ (byte c r.counter) 1 (λ e. rw e (refl, refl))
      (λ n1. is _ (byte c r.counter) 2 (λ e. rw e refl)
      (λ n2. is _ (byte c r.counter) 3 (λ e. rw e refl)
      (λ n3. is _ (byte c r.counter) 4 (λ e. rw e refl)
      (λ n4. is _ (byte c r.counter) 5 (λ e. rw e refl)
      (λ n5. rw (kind-passes c r.counter (omega arith)) (calls-none (omega arith))))))))

  after-limit : Ends d (executed c r d) (bit_if (tests_of limit r d here).nested-call call_bit (from_address (tests_of limit r d here)))
  unfolding executed
  after-limit =
      subst (λ (o : Option ℕ). Ends d (executed c r d) (bit_if (tests_of limit r d here).nested-call call_bit o)) (data-part limit c r d here).found
      (controls d r.depth (after c r.counter) (target_at c r.counter) (kind_at c r.counter) (tests_of limit r d here).nested-call (data_part here c r d) by_kind)

-- ---- the limit, which every instruction has

limit-tested : (limit : ℕ) (r : Registers) (d : List ℕ) (i : Instruction) → (tests_of limit r d i).limit-reached ≡ eqb r.count limit
unfolding tests_of
limit-tested limit r d Return = refl
limit-tested limit r d (Jump t) = refl
limit-tested limit r d (JumpZero a t) = refl
limit-tested limit r d (JumpNotZero a t) = refl
limit-tested limit r d (CallInstance i t) = refl
limit-tested limit r d (CallFunction t) = refl
limit-tested limit r d (MoveConstant to n) = refl
limit-tested limit r d (CopyMemory to from n) = refl
limit-tested limit r d (ReadElement v a i size count) = refl
limit-tested limit r d (WriteElement v a i size count) = refl
limit-tested limit r d (Typed code t to a b) = refl
limit-tested limit r d (CycleTime to) = refl
limit-tested limit r d (FlagByte to) = refl
limit-tested limit r d (Convert from to destination source) = refl
limit-tested limit r d (Pack t destination source) = refl
limit-tested limit r d (Unpack t destination source) = refl
limit-tested limit r d Unknown = refl

module _ (limit : ℕ) (c : List ℕ) (x : Core) where
  in_order : Ends x.memory (limited limit (executed c x.registers x.memory) x) (fault_order (tests_at limit c x))
  unfolding limited fault_order
  in_order =
      rw (limit-tested limit x.registers x.memory (instruction_at c x.registers.counter))
      (ends-tested x.memory (eqb x.registers.count limit) limit_bit (executed c x.registers x.memory) _ (after-limit limit c x.registers x.memory))

  -- Document 01's sentence, of every instruction
  pub faults-in-order : FaultsInOrder limit c x
  faults-in-order = record { first-fault = in_order.same-fault; data-stay = in_order.same-data }

-- ---- a core's step

stops : (o : Outcome) (b : ℕ) (m : List ℕ) (x : Core) → fault_of o ≡ some b → applied_by o m x ≡ stopped_by b x
stops (Fault a) b m x e = ap (λ (o : Option ℕ). stopped_by (get_or o 0) x) e
stops (Next p) b m x e = absurd (none-ne-some b e)
stops (Call next target offset) b m x e = absurd (none-ne-some b e)
stops Returned b m x e = absurd (none-ne-some b e)

module _ (t : Task) (code : ℕ → List ℕ) (e : t.instruction ≡ instruction_by t.limit (λ (k : ℕ) (x : Core). executed (code k) x.registers x.memory)) where
  instruction-stops : (k b : ℕ) (x : Core) → fault_order (tests_at (t.limit k) (code k) x) ≡ some b → t.instruction k x ≡ stopped_by b x
  unfolding instruction_by applied
  instruction-stops k b x f =
      let y : Executed = limited (t.limit k) (executed (code k) x.registers x.memory) x in
      ap (λ (i : ℕ → Core → Core). i k x) e ∙ stops y.outcome b y.memory x ((faults-in-order (t.limit k) (code k) x).first-fault ∙ f)

  -- and the rest of it: what a fault does to the state
  pub faults-stop : FaultsStop t code
  unfolding step pick
  faults-stop k b s m f = rw m (ap (λ (x : Core). record { plant = put s.plant k x; semaphore = s.semaphore }) (instruction-stops k b (core s.plant k) f))
