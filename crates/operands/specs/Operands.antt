-- Document 01, "Types and commands", and document 02: the bytes of a core's data that each instruction reads and writes, by the places and widths of its
-- operands. In order: one clause an instruction; faults; the instruction at a core's program counter.
-- That each instruction changes no other bytes and depends on no others is `data-footprints-right` of proofs/Operands.
-- The lists are bounds: a source counts as read where the instruction faults before it reads it. A byte past the data is neither read nor written.
-- Not here: registers and call stack, which every instruction reads and writes; the step as a whole (crate races).
use Rattle.std.specs.Prelude.{ℕ, ◌+◌, List, [], ◌++◌, length}
use Rattle.memory.specs.Memory.{part}
use Rattle.values.specs.Types.{width_of}
use Rattle.values.specs.Commands.{result_width, second_width}
use Rattle.protocol.specs.declared.Registers.{Registers}
use Rattle.protocol.specs.declared.Outcome.{Outcome}
use Rattle.protocol.specs.declared.Outcome.TheVariants.{Fault, Next, Call, Return as Returned}
use Rattle.protocol.specs.State.{Core}
use Rattle.protocol.specs.Instruction.{limited}
use Rattle.races.specs.Footprint.{stretch, DataFootprint, DataFootprints}
use Rattle.code.specs.declared.Instruction.{Instruction}
use Rattle.code.specs.declared.Instruction.TheVariants.{Return, Jump, JumpZero, JumpNotZero, CallInstance, CallFunction, MoveConstant, CopyMemory, ReadElement, WriteElement, Typed, CycleTime, FlagByte, Convert, Pack, Unpack, Unknown}
use Rattle.code.specs.Instructions.{instruction_at}
use Rattle.processor.specs.Processor.{at, element_at, executed}

-- ---- one clause an instruction

-- reads these bytes and writes those
abbrev pub touching : List ℕ → List ℕ → DataFootprint
touching from to = record { reads = from; writes = to }

-- the instruction i of the code c, by a core with registers r and data d, where it does not fault. `stretch p n`: the n bytes from place p on
unfoldable pub operands_of : Instruction → List ℕ → Registers → List ℕ → DataFootprint
operands_of Return c r d = touching [] []
operands_of (Jump t) c r d = touching [] []
operands_of (JumpZero a t) c r d = touching (stretch (at r a) 1) []
operands_of (JumpNotZero a t) c r d = touching (stretch (at r a) 1) []
operands_of (CallInstance i t) c r d = touching [] []
operands_of (CallFunction t) c r d = touching [] []
-- n bytes, of which accepted code has all
operands_of (MoveConstant to n) c r d = touching [] (stretch (at r to) (length (part c (r.counter + 4) n)))
operands_of (CopyMemory to from n) c r d = touching (stretch (at r from) n) (stretch (at r to) n)
-- the index, and of the array the chosen element alone
operands_of (ReadElement v a i size count) c r d = touching (stretch (at r i) 2 ++ stretch (element_at r d a i size) size) (stretch (at r v) size)
operands_of (WriteElement v a i size count) c r d = touching (stretch (at r i) 2 ++ stretch (at r v) size) (stretch (element_at r d a i size) size)
-- both sources at their widths: the second of a shift is one byte, and NOT has none
operands_of (Typed code t to a b) c r d = touching (stretch (at r a) (width_of t) ++ stretch (at r b) (second_width code t)) (stretch (at r to) (result_width code t))
operands_of (CycleTime to) c r d = touching [] (stretch (at r to) 4)
operands_of (FlagByte to) c r d = touching [] (stretch (at r to) 1)
operands_of (Convert from to destination source) c r d = touching (stretch (at r source) (width_of from)) (stretch (at r destination) (width_of to))
operands_of (Pack type destination source) c r d = touching (stretch (at r source) (width_of type)) (stretch (at r destination) (width_of type))
operands_of (Unpack type destination source) c r d = touching (stretch (at r source) (width_of type)) (stretch (at r destination) (width_of type))
operands_of Unknown c r d = touching [] []

-- ---- faults: "A fault .. changes nothing else"

abbrev pub unless_fault : Outcome → DataFootprint → DataFootprint
unless_fault (Fault b) x = touching x.reads []
unless_fault (Next p) x = x
unless_fault (Call next target offset) x = x
unless_fault Returned x = x

-- ---- the instruction at the program counter of core x, which has the code c and this instruction limit

unfoldable pub data_footprint : ℕ → List ℕ → Core → DataFootprint
data_footprint limit c x =
    unless_fault (limited limit (executed c x.registers x.memory) x).outcome (operands_of (instruction_at c x.registers.counter) c x.registers x.memory)

-- of each core, by its limit and its code
abbrev pub data_footprints : (ℕ → ℕ) → (ℕ → List ℕ) → DataFootprints
data_footprints limit code k x = data_footprint (limit k) (code k) x
