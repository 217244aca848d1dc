-- Document 01, "One step of a core", faults: "Tried in this order: limit (count already equals it), nested call, addresses, index, element address, divisor.
-- An instance lies below the data size." Document 02, 2.3: "Bit 6 is tried last." In order: the tests; the order; which tests hold, one clause an
-- instruction; a fault; the claims. That the machine's instructions fault so, whatever the code and the state, is `faults-in-order` and `faults-stop` of
-- proofs/Faults. Not here: what an instruction does that does not fault (crate processor).
use Rattle.std.specs.Prelude.{ℕ, ◌≡◌, Bool, true, false, List, length, leb, eqb}
use Rattle.std.proofs.Math.Option.{Option, none, some}
use Rattle.verdict.specs.Numbers.{index_bit, limit_bit, divisor_bit, address_bit, call_bit, conversion_bit}
use Rattle.verdict.specs.Verdict.{pick}
use Rattle.memory.specs.Memory.{read_le}
use Rattle.values.specs.Types.{width_of}
use Rattle.values.specs.Commands.{beyond, any_beyond, typed_beyond, second_width, zero_divisor}
use Rattle.conversions.specs.Conversions.{Result, stores, not-held, converted}
use Rattle.packed.specs.Packed.{packed, unpacked}
use Rattle.protocol.specs.Modes.{executing}
use Rattle.protocol.specs.declared.Registers.{Registers}
use Rattle.protocol.specs.declared.Outcome.{Outcome}
use Rattle.protocol.specs.declared.Outcome.TheVariants.{Fault, Next, Call, Return as Returned}
use Rattle.protocol.specs.Registers.{faulted}
use Rattle.protocol.specs.State.{Core, State, Task, core, mode, put}
use Rattle.protocol.specs.Instruction.{limited}
use Rattle.protocol.specs.Step.{step}
use Rattle.code.specs.declared.Instruction.{Instruction}
use Rattle.code.specs.declared.Instruction.TheVariants.{Return, Jump, JumpZero, JumpNotZero, CallInstance, CallFunction, MoveConstant, CopyMemory, ReadElement, WriteElement, Typed, CycleTime, FlagByte, Convert, Pack, Unpack, Unknown}
use Rattle.code.specs.Instructions.{instruction_at}
use Rattle.processor.specs.Processor.{at, index_of, element_at, executed}

-- ---- the tests: what may be wrong with an instruction, each on its own, whatever the others find

pub record FaultTests : Type 0 where
  -- the count already equals the limit
  pub limit-reached : Bool
  -- it would be the seventeenth nested call
  pub nested-call : Bool
  -- an operand is beyond the data, the chosen element of an array aside
  pub address : Bool
  -- the array has no element of this index
  pub index : Bool
  -- the chosen element is beyond the data
  pub element-address : Bool
  -- the divisor is zero
  pub divisor : Bool
  -- the destination can't hold the result
  pub result : Bool

-- ---- "Tried in this order"

-- flag bit b where the test holds, else what the later tests find
abbrev pub bit_if : Bool → ℕ → Option ℕ → Option ℕ
bit_if test b later = pick test (some b) later

unfoldable pub fault_order : FaultTests → Option ℕ
fault_order x =
    bit_if x.limit-reached limit_bit
    (bit_if x.nested-call call_bit
    (bit_if x.address address_bit
    (bit_if x.index index_bit
    (bit_if x.element-address address_bit
    (bit_if x.divisor divisor_bit
    (bit_if x.result conversion_bit none))))))

-- ---- which tests hold

abbrev pub is_not_held : Result → Bool
is_not_held (stores p) = false
is_not_held not-held = true

-- for a core with registers r and data d, under this instruction limit
module _ (limit : ℕ) (r : Registers) (d : List ℕ) where
  -- every instruction has the test of the limit
  abbrev pub limit_test : Bool
  limit_test = eqb r.count limit

  -- beside it: none; of addresses; of a nested call and its instance; of addresses, index and element; of addresses and divisor; of addresses and result
  abbrev pub limit_alone : FaultTests
  limit_alone = record { limit-reached = limit_test; nested-call = false; address = false; index = false; element-address = false; divisor = false; result = false }

  abbrev pub of_address : Bool → FaultTests
  of_address a = record { limit-reached = limit_test; nested-call = false; address = a; index = false; element-address = false; divisor = false; result = false }

  abbrev pub of_call : Bool → FaultTests
  of_call a = record { limit-reached = limit_test; nested-call = eqb r.depth 16; address = a; index = false; element-address = false; divisor = false; result = false }

  abbrev pub of_index : Bool → Bool → Bool → FaultTests
  of_index a i e = record { limit-reached = limit_test; nested-call = false; address = a; index = i; element-address = e; divisor = false; result = false }

  abbrev pub of_divisor : Bool → Bool → FaultTests
  of_divisor a z = record { limit-reached = limit_test; nested-call = false; address = a; index = false; element-address = false; divisor = z; result = false }

  abbrev pub of_result : Bool → Result → FaultTests
  of_result a x = record { limit-reached = limit_test; nested-call = false; address = a; index = false; element-address = false; divisor = false; result = is_not_held x }

  -- one clause an instruction
  unfoldable pub tests_of : Instruction → FaultTests
  tests_of Return = limit_alone
  tests_of (Jump t) = limit_alone
  tests_of (JumpZero a t) = of_address (beyond (length d) (at r a) 1)
  tests_of (JumpNotZero a t) = of_address (beyond (length d) (at r a) 1)
  -- "An instance lies below the data size"
  tests_of (CallInstance i t) = of_call (leb (length d) (at r i))
  tests_of (CallFunction t) = of_call false
  tests_of (MoveConstant to n) = of_address (beyond (length d) (at r to) n)
  tests_of (CopyMemory to from n) = of_address (any_beyond (length d) (at r to) n (at r from) n)
  tests_of (ReadElement v a i size count) =
      of_index (any_beyond (length d) (at r v) size (at r i) 2) (leb count (index_of r d i)) (beyond (length d) (element_at r d a i size) size)
  tests_of (WriteElement v a i size count) =
      of_index (any_beyond (length d) (at r v) size (at r i) 2) (leb count (index_of r d i)) (beyond (length d) (element_at r d a i size) size)
  tests_of (Typed code t to a b) =
      of_divisor (typed_beyond code t (length d) (at r to) (at r a) (at r b)) (zero_divisor code t (read_le d (at r b) (second_width code t)))
  tests_of (CycleTime to) = of_address (beyond (length d) (at r to) 4)
  tests_of (FlagByte to) = of_address (beyond (length d) (at r to) 1)
  tests_of (Convert from to destination source) =
      of_result (any_beyond (length d) (at r destination) (width_of to) (at r source) (width_of from)) (converted from to (read_le d (at r source) (width_of from)))
  tests_of (Pack type destination source) =
      of_result (any_beyond (length d) (at r destination) (width_of type) (at r source) (width_of type)) (packed type (read_le d (at r source) (width_of type)))
  tests_of (Unpack type destination source) =
      of_result (any_beyond (length d) (at r destination) (width_of type) (at r source) (width_of type)) (unpacked type (read_le d (at r source) (width_of type)))
  tests_of Unknown = limit_alone

-- of the instruction at the program counter of core x, which has the code c
abbrev pub tests_at : ℕ → List ℕ → Core → FaultTests
tests_at limit c x = tests_of limit x.registers x.memory (instruction_at c x.registers.counter)

-- ---- a fault

-- the flag bit of an outcome that is one
abbrev pub fault_of : Outcome → Option ℕ
fault_of (Fault b) = some b
fault_of (Next p) = none
fault_of (Call next target offset) = none
fault_of Returned = none

-- "A fault sets a bit of the flag byte, goes to mode 5, and changes nothing else"
abbrev pub stopped_by : ℕ → Core → Core
stopped_by b x = record { registers = faulted b x.registers; stack = x.stack; memory = x.memory }

-- ---- the claims

-- of the instruction at the program counter of core x, which has the code c and this instruction limit
pub record FaultsInOrder (limit : ℕ) (c : List ℕ) (x : Core) : Type 0 where
  -- its fault is that of the first test that holds, and it has none where none holds
  pub first-fault : fault_of (limited limit (executed c x.registers x.memory) x).outcome ≡ fault_order (tests_at limit c x)
  -- with a fault, the data that it leaves are those that it found
  pub data-stay : (b : ℕ) → fault_order (tests_at limit c x) ≡ some b → (limited limit (executed c x.registers x.memory) x).memory ≡ x.memory

-- of a step of any core k in mode 2, in any state s: a fault stops core k. "Nothing is published": shared memory, other cores and semaphore stay
abbrev pub FaultsStop : Task → (ℕ → List ℕ) → Type 0
FaultsStop t code =
    (k b : ℕ) (s : State) → mode (core s.plant k) ≡ executing → fault_order (tests_at (t.limit k) (code k) (core s.plant k)) ≡ some b
    → step t k s ≡ record { plant = put s.plant k (stopped_by b (core s.plant k)); semaphore = s.semaphore }
