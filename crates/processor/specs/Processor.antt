-- Document 01, mode 2 and "Types and commands": what one instruction answers, and the data after it.
-- In order: addresses; what the data decide; the data part of each command, in the document's order; control; one instruction.
-- The limit and the count are applied outside, once for all commands (`instruction_by` of crate protocol).
use Rattle.std.specs.Prelude.{ℕ, ◌+◌, ◌-◌, ◌*◌, Bool, false, not, List, length, ltb, leb, eqb, Result, Ok, Err}
use Rattle.verdict.specs.Numbers.{index_bit, divisor_bit, address_bit, call_bit}
use Rattle.verdict.specs.Faults.{bit_of}
use Rattle.verdict.specs.declared.Fault.{Fault}
use Rattle.verdict.specs.Verdict.{pick}
use Rattle.memory.specs.Memory.{byte, splice, part, bytes_le, read_le}
use Rattle.conversions.specs.Data.{Ended, converting}
use Rattle.packed.specs.Data.{packing, unpacking}
use Rattle.values.specs.Commands.{beyond, any_beyond, typed_beyond, second_width, zero_divisor, performed}
use Rattle.protocol.specs.declared.Registers.{Registers}
use Rattle.protocol.specs.declared.Outcome.{Outcome}
use Rattle.protocol.specs.declared.Outcome.TheVariants.{Next, Call, Return as Returned}
use Rattle.protocol.specs.Instruction.{Executed, halted}
use Rattle.code.specs.declared.Instruction.{Instruction}
use Rattle.code.specs.declared.Instruction.TheVariants.{Return, Jump, JumpZero, JumpNotZero, CallInstance, CallFunction, MoveConstant, CopyMemory, ReadElement, WriteElement, Typed, CycleTime, FlagByte, Convert, Pack, Unpack, Unknown}
use Rattle.code.specs.Instructions.{instruction_at}
use Rattle.code.specs.Commands.{Kind, Returns, Jumps, Branches, Calls, Passes}
use Rattle.code.specs.Flow.{kind_at, target_at, after}

-- ---- addresses

-- "An address of 16 bits below 32,768 is added to the data offset; from there on, subtract 32,768 and it is absolute."
unfoldable pub place_of : ℕ → ℕ → ℕ
place_of offset address = pick (ltb address 32768) (offset + address) (address - 32768)

-- the place of an address operand of a core
abbrev pub at : Registers → ℕ → ℕ
at r address = place_of r.offset address

-- ---- what the data decide

-- A fault with its flag bit; or whether a conditional jump is made, the data offset of a call, and the data afterwards
pub data Decided : Type 0 where
  refused : ℕ → Decided
  decided : Bool → ℕ → List ℕ → Decided

-- flag bit b where the test holds, else x
abbrev pub fault_if : Bool → ℕ → Decided → Decided
fault_if test b x = pick test (refused b) x

-- nothing but the data afterwards
abbrev pub changed : Registers → List ℕ → Decided
changed r m = decided false r.offset m

-- AURD, AUWD: the addresses of variable and index, the index, the address of the chosen element; a negative INT index is 32,768 or more
-- as it is stored, above every count
abbrev pub index_of : Registers → List ℕ → ℕ → ℕ
index_of r d index = read_le d (at r index) 2

abbrev pub element_at : Registers → List ℕ → ℕ → ℕ → ℕ → ℕ
element_at r d array index size = at r array + index_of r d index * size

unfoldable pub of_element : Registers → List ℕ → ℕ → ℕ → ℕ → ℕ → ℕ → Decided → Decided
of_element r d variable array index size count x =
    fault_if (any_beyond (length d) (at r variable) size (at r index) 2) address_bit
    (fault_if (leb count (index_of r d index)) index_bit
    (fault_if (beyond (length d) (element_at r d array index size) size) address_bit x))

-- how a conversion ended: the data afterwards; or the bit of its fault: 4, an address beyond the data; 6, a result that the destination can't hold
abbrev pub ended_by : Registers → Result (Unit {0}) Fault → List ℕ → Decided
ended_by r (Ok _) m = changed r m
ended_by r (Err f) m = refused (bit_of f)

abbrev pub of_conversion : Registers → Ended → Decided
of_conversion r x = ended_by r x.conversion x.memory

-- ---- the data part of each command

-- the instruction i of the code c, by a core with registers r and data d
unfoldable pub data_part : Instruction → List ℕ → Registers → List ℕ → Decided
data_part Return c r d = changed r d
data_part (Jump t) c r d = changed r d
data_part (JumpZero a t) c r d = fault_if (beyond (length d) (at r a) 1) address_bit (decided (eqb (byte d (at r a)) 0) r.offset d)
data_part (JumpNotZero a t) c r d = fault_if (beyond (length d) (at r a) 1) address_bit (decided (not (eqb (byte d (at r a)) 0)) r.offset d)
data_part (CallInstance i t) c r d = fault_if (leb (length d) (at r i)) address_bit (decided false (at r i) d)
data_part (CallFunction t) c r d = changed r d
data_part (MoveConstant to n) c r d = fault_if (beyond (length d) (at r to) n) address_bit (changed r (splice d (at r to) (part c (r.counter + 4) n)))
data_part (CopyMemory to from n) c r d =
    fault_if (any_beyond (length d) (at r to) n (at r from) n) address_bit (changed r (splice d (at r to) (part d (at r from) n)))
data_part (ReadElement v a i size count) c r d =
    of_element r d v a i size count (changed r (splice d (at r v) (part d (element_at r d a i size) size)))
data_part (WriteElement v a i size count) c r d =
    of_element r d v a i size count (changed r (splice d (element_at r d a i size) (part d (at r v) size)))
data_part (Typed code t to a b) c r d =
    fault_if (typed_beyond code t (length d) (at r to) (at r a) (at r b)) address_bit
    (fault_if (zero_divisor code t (read_le d (at r b) (second_width code t))) divisor_bit
    (changed r (performed code t d (at r to) (at r a) (at r b))))
data_part (CycleTime to) c r d = fault_if (beyond (length d) (at r to) 4) address_bit (changed r (splice d (at r to) (bytes_le 4 r.time)))
data_part (FlagByte to) c r d = fault_if (beyond (length d) (at r to) 1) address_bit (changed r (splice d (at r to) (bytes_le 1 r.flags)))
data_part (Convert from to destination source) c r d = of_conversion r (converting from to d (at r destination) (at r source))
data_part (Pack type destination source) c r d = of_conversion r (packing type d (at r destination) (at r source))
data_part (Unpack type destination source) c r d = of_conversion r (unpacking type d (at r destination) (at r source))
data_part Unknown c r d = changed r d

-- ---- control

abbrev pub answer : Outcome → List ℕ → Executed
answer o m = record { outcome = o; memory = m }

-- a jump: to the target where it is made, else to the next instruction
abbrev pub branched : ℕ → ℕ → List ℕ → Decided → Executed
branched next target d (refused b) = halted b d
branched next target d (decided made offset m) = answer (Next (pick made target next)) d

abbrev pub call_made : ℕ → ℕ → List ℕ → Decided → Executed
call_made next target d (refused b) = halted b d
call_made next target d (decided made offset m) = answer (Call next target offset) d

abbrev pub passed : ℕ → List ℕ → Decided → Executed
passed next d (refused b) = halted b d
passed next d (decided made offset m) = answer (Next next) m

-- Where control goes, by the kind of the instruction, the place after it, its target, the depth, and what the data part answers.
-- The nested call is tried before the addresses.
abbrev pub controlled : Kind → ℕ → ℕ → ℕ → List ℕ → Decided → Executed
controlled Returns next target depth d x = answer Returned d
controlled Jumps next target depth d x = answer (Next target) d
controlled Branches next target depth d x = branched next target d x
controlled Calls next target depth d x = pick (eqb depth 16) (halted call_bit d) (call_made next target d x)
controlled Passes next target depth d x = passed next d x

-- ---- one instruction

-- the instruction at the program counter
unfoldable pub executed : List ℕ → Registers → List ℕ → Executed
executed c r d =
    controlled (kind_at c r.counter) (after c r.counter) (target_at c r.counter) r.depth d (data_part (instruction_at c r.counter) c r d)
