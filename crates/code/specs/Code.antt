-- Document 01, the code of one core: which instructions are refused (6; 27 by the profile, document 02, 2.10), where instructions start, which targets and
-- which end are refused (7).
-- In order: one instruction; instructions laid end to end; targets and the last instruction; the judgement.
use Rattle.std.specs.Prelude.{ℕ, zero, suc, ◌+◌, ◌%◌, List, Bool, true, false, length, ltb, leb, eqb}
use Rattle.verdict.specs.Numbers.{bad_instruction, bad_target, wide_type_code}
use Rattle.verdict.specs.Verdict.{pick, both, either, within, next, unless}
use Rattle.memory.specs.Memory.{byte}
use Rattle.values.specs.Types.{takes}
use Rattle.code.specs.Commands.{length_of}
use Rattle.code.specs.Instructions.{instruction_at, instruction_length}
use Rattle.code.specs.Flow.{kind_at, goes_to, target_at, after}
use Rattle.code.specs.Profiles.{types_at, carries}
use Rattle.code.specs.declared.Profile.{Profile}
use Rattle.code.specs.declared.Profile.TheVariants.{Full}
use Rattle.code.specs.declared.Instruction.{Instruction}
use Rattle.code.specs.declared.Instruction.TheVariants.{Return, Jump, JumpZero, JumpNotZero, CallInstance, CallFunction, MoveConstant, CopyMemory, ReadElement, WriteElement, Typed, CycleTime, FlagByte, Convert, Pack, Unpack, Unknown}

-- ---- one instruction

-- a width of 1, 2, 4 or 8 bytes
abbrev pub is_width : ℕ → Bool
is_width w = either (eqb w 1) (either (eqb w 2) (either (eqb w 4) (eqb w 8)))

-- an element size and a count
abbrev pub element_ok : ℕ → ℕ → Bool
element_ok size count = both (is_width size) (within 1 4096 count)

-- the two types of a conversion: types 1 to 10 are numbers
abbrev pub convertible : ℕ → ℕ → Bool
convertible from to = both (within 1 10 from) (within 1 10 to)

-- the type of a packed decimal: BYTE, WORD, DWORD or LWORD
abbrev pub packable : ℕ → Bool
packable t = both (within 2 8 t) (eqb (t % 2) 0)

-- MCD's length, the element size and count, and the type bytes lie on their lists
abbrev pub operands_ok : Instruction → Bool
operands_ok Return = true
operands_ok (Jump t) = true
operands_ok (JumpZero a t) = true
operands_ok (JumpNotZero a t) = true
operands_ok (CallInstance i t) = true
operands_ok (CallFunction t) = true
operands_ok (MoveConstant to n) = within 1 8 n
operands_ok (CopyMemory to from n) = true
operands_ok (ReadElement v a i size count) = element_ok size count
operands_ok (WriteElement v a i size count) = element_ok size count
operands_ok (Typed code type to a b) = takes code type
operands_ok (CycleTime to) = true
operands_ok (FlagByte to) = true
operands_ok (Convert from to destination source) = convertible from to
operands_ok (Pack type destination source) = packable type
operands_ok (Unpack type destination source) = packable type
operands_ok Unknown = false

-- the instruction at p is known, whole, and its operands lie on their lists
unfoldable pub instruction_ok : List ℕ → ℕ → Bool
instruction_ok c p =
    both (ltb 0 (length_of (byte c p))) (both (leb (p + instruction_length c p) (length c)) (operands_ok (instruction_at c p)))

-- 6, and right after it what the profile does not carry
unfoldable pub instruction_refusal : Profile → List ℕ → ℕ → ℕ
instruction_refusal profile c p = next (unless (instruction_ok c p) bad_instruction) (unless (carries profile (types_at c p)) wide_type_code)

-- the length of an accepted instruction, 0 where it is refused
unfoldable pub accepted_length : List ℕ → ℕ → ℕ
accepted_length c p = pick (instruction_ok c p) (instruction_length c p) 0

-- ---- instructions laid end to end. In what follows the number k bounds the instructions still to come.

-- the first refusal of the instructions from p on
unfoldable pub laid : Profile → ℕ → List ℕ → ℕ → ℕ
laid profile zero c p = 0
laid profile (suc k) c p = pick (ltb p (length c)) (next (instruction_refusal profile c p) (laid profile k c (after c p))) 0

-- t is one of the places from p on at which an instruction starts
unfoldable pub start_from : ℕ → List ℕ → ℕ → ℕ → Bool
start_from zero c p t = false
start_from (suc k) c p t = pick (ltb p (length c)) (pick (eqb p t) true (start_from k c (after c p) t)) false

unfoldable pub is_start : List ℕ → ℕ → Bool
is_start c t = start_from (length c) c 0 t

-- the test holds of each instruction from p on
unfoldable pub all_from : (ℕ → Bool) → ℕ → List ℕ → ℕ → Bool
all_from test zero c p = true
all_from test (suc k) c p = pick (ltb p (length c)) (pick (test p) (all_from test k c (after c p)) false) true

-- ---- targets and the last instruction

-- the T of the instruction at p, if it has one, is the start of an instruction
unfoldable pub target_ok : List ℕ → ℕ → Bool
target_ok c p = pick (goes_to (kind_at c p)) (is_start c (target_at c p)) true

-- the code byte of the last instruction from p on; `code` where there is none
unfoldable pub last_from : ℕ → List ℕ → ℕ → ℕ → ℕ
last_from zero c p code = code
last_from (suc k) c p code = pick (ltb p (length c)) (last_from k c (after c p) (byte c p)) code

-- RETURN or JMP
abbrev pub ends : ℕ → Bool
ends code = ltb code 2

-- ---- the judgement: all instructions before any target

unfoldable pub judge_code_for : Profile → List ℕ → ℕ
judge_code_for profile c =
    next (laid profile (length c) c 0)
    (next (unless (all_from (target_ok c) (length c) c 0) bad_target) (unless (ends (last_from (length c) c 0 0)) bad_target))

-- under the full profile
abbrev pub judge_code : List ℕ → ℕ
judge_code c = judge_code_for Full c
