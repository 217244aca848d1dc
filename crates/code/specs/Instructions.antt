-- Document 01, "Types and commands", and document 02: the instruction that stands at a place of a core's code, with its operands.
use Rattle.std.specs.Prelude.{ℕ, ◌+◌, List, eqb}
use Rattle.verdict.specs.Verdict.{pick}
use Rattle.memory.specs.Memory.{byte, word}
use Rattle.code.specs.Commands.{three, length_of}
use Rattle.code.specs.declared.Instruction.{Instruction}
use Rattle.code.specs.declared.Instruction.TheVariants.{Return, Jump, JumpZero, JumpNotZero, CallInstance, CallFunction, MoveConstant, CopyMemory, ReadElement, WriteElement, Typed, CycleTime, FlagByte, Convert, Pack, Unpack, Unknown}

-- a typed command, or else the other one
unfoldable pub typed_at : List ℕ → ℕ → Instruction → Instruction
typed_at c p other =
    pick (three (byte c p)) (Typed (byte c p) (byte c (p + 1)) (word c (p + 2)) (word c (p + 4)) (word c (p + 6)))
    (pick (eqb (byte c p) 27) (Typed (byte c p) (byte c (p + 1)) (word c (p + 2)) (word c (p + 4)) (word c (p + 4))) other)

unfoldable pub instruction_at : List ℕ → ℕ → Instruction
instruction_at c p =
    pick (eqb (byte c p) 0) Return
    (pick (eqb (byte c p) 1) (Jump (word c (p + 1)))
    (pick (eqb (byte c p) 2) (JumpZero (word c (p + 1)) (word c (p + 3)))
    (pick (eqb (byte c p) 3) (JumpNotZero (word c (p + 1)) (word c (p + 3)))
    (pick (eqb (byte c p) 4) (CallInstance (word c (p + 1)) (word c (p + 3)))
    (pick (eqb (byte c p) 5) (CallFunction (word c (p + 1)))
    (pick (eqb (byte c p) 6) (MoveConstant (word c (p + 1)) (byte c (p + 3)))
    (pick (eqb (byte c p) 7) (CopyMemory (word c (p + 1)) (word c (p + 3)) (word c (p + 5)))
    (pick (eqb (byte c p) 8) (ReadElement (word c (p + 1)) (word c (p + 3)) (word c (p + 5)) (byte c (p + 7)) (word c (p + 8)))
    (pick (eqb (byte c p) 9) (WriteElement (word c (p + 1)) (word c (p + 3)) (word c (p + 5)) (byte c (p + 7)) (word c (p + 8)))
    (typed_at c p
    (pick (eqb (byte c p) 41) (CycleTime (word c (p + 1)))
    (pick (eqb (byte c p) 42) (FlagByte (word c (p + 1)))
    (pick (eqb (byte c p) 43) (Convert (byte c (p + 1)) (byte c (p + 2)) (word c (p + 3)) (word c (p + 5)))
    (pick (eqb (byte c p) 44) (Pack (byte c (p + 1)) (word c (p + 2)) (word c (p + 4)))
    (pick (eqb (byte c p) 45) (Unpack (byte c (p + 1)) (word c (p + 2)) (word c (p + 4)))
    Unknown)))))))))))))))

-- its length: the table's, to which MCD adds n
unfoldable pub instruction_length : List ℕ → ℕ → ℕ
instruction_length c p = length_of (byte c p) + pick (eqb (byte c p) 6) (byte c (p + 3)) 0
