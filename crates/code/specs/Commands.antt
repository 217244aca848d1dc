-- Document 01, "Types and commands", and document 02: each command as one row, in the document's order, and the length that follows from it.
-- Not here: where control goes (`Flow`) and which types are named (`Profiles`), which follow from the row too; what a command does (crate processor).
use Rattle.std.specs.Prelude.{ℕ, ◌+◌, ◌<◌, ◌≡◌, Bool, true, false, not, List, [], ◌∷◌, eqb, get_or}
use Rattle.verdict.specs.Verdict.{pick, either, within}

-- ---- operands

-- an address of 16 bits (an instance is one); T, a code place; a number of 16 bits; a type byte; a byte that is a length or a size
pub data Operand : Type 0 where
  Address : Operand
  CodePlace : Operand
  Number : Operand
  TypeByte : Operand
  SizeByte : Operand

-- its bytes
abbrev pub width : Operand → ℕ
width Address = 2
width CodePlace = 2
width Number = 2
width TypeByte = 1
width SizeByte = 1

-- ---- the table of commands

-- where control goes: back from a call or to the cycle's end; to T; to T or on; into a call of T; on
pub data Kind : Type 0 where
  Returns : Kind
  Jumps : Kind
  Branches : Kind
  Calls : Kind
  Passes : Kind

-- a command, or none
pub data Row : Type 0 where
  unknown : Row
  row : Kind → List Operand → Row

-- the code bytes of the typed commands with three addresses: all of them but NOT
abbrev pub three : ℕ → Bool
three code = either (within 16 20 code) (either (within 24 26 code) (within 28 37 code))

unfoldable pub row_of : ℕ → Row
row_of code =
    pick (eqb code 0) (row Returns [])  -- RETURN
    (pick (eqb code 1) (row Jumps (CodePlace ∷ []))  -- JMP T
    (pick (within 2 3 code) (row Branches (Address ∷ CodePlace ∷ []))  -- JZ, JNZ: addr T
    (pick (eqb code 4) (row Calls (Address ∷ CodePlace ∷ []))  -- CALB: instance T
    (pick (eqb code 5) (row Calls (CodePlace ∷ []))  -- CALF: T
    (pick (eqb code 6) (row Passes (Address ∷ SizeByte ∷ []))  -- MCD: addr, n; n bytes more follow
    (pick (eqb code 7) (row Passes (Address ∷ Address ∷ Number ∷ []))  -- MEMCP: to, from, n
    (pick (within 8 9 code) (row Passes (Address ∷ Address ∷ Address ∷ SizeByte ∷ Number ∷ []))  -- AURD, AUWD: variable, array, index, element size, count
    (pick (three code) (row Passes (TypeByte ∷ Address ∷ Address ∷ Address ∷ []))  -- ADD .. MOD, AND OR XOR, SHL .. ROR, GT .. NE: type, to, a, b
    (pick (eqb code 27) (row Passes (TypeByte ∷ Address ∷ Address ∷ []))  -- NOT: type, to, a
    (pick (within 41 42 code) (row Passes (Address ∷ []))  -- cycle time, flag byte: addr
    (pick (eqb code 43) (row Passes (TypeByte ∷ TypeByte ∷ Address ∷ Address ∷ []))  -- conversion: from-type, to-type, destination, source (document 02, 2.3)
    (pick (within 44 45 code) (row Passes (TypeByte ∷ Address ∷ Address ∷ []))  -- whole to packed, packed to whole: type, destination, source (document 02, 2.8)
    unknown))))))))))))

abbrev pub row_operands : Row → List Operand
row_operands unknown = []
row_operands (row kind operands) = operands

-- where operands of a sort stand in an instruction: their distances from the code byte; n is that of the first of these operands
abbrev pub place_if : Bool → ℕ → List ℕ → List ℕ
place_if true n ns = n ∷ ns
place_if false n ns = ns

abbrev pub places_of : (Operand → Bool) → ℕ → List Operand → List ℕ
places_of sort n [] = []
places_of sort n (o ∷ os) = place_if (sort o) n (places_of sort (n + width o) os)

-- ---- the length of an instruction

abbrev pub operand_bytes : List Operand → ℕ
operand_bytes [] = 0
operand_bytes (o ∷ os) = width o + operand_bytes os

-- the code byte and the operands; 0 where the code byte is unknown
abbrev pub length_with : Row → ℕ
length_with unknown = 0
length_with (row kind operands) = 1 + operand_bytes operands

unfoldable pub length_of : ℕ → ℕ
length_of code = length_with (row_of code)

-- the code bytes of the table of commands
abbrev pub known : ℕ → Bool
known code = either (within 0 9 code) (either (within 16 20 code) (either (within 24 37 code) (within 41 45 code)))

-- what the table of 256 lengths has to say: each length fits the operands, and it is 0 exactly for the unknown codes
pub record Lengths (table : List ℕ) : Type 0 where
  pub right : (code : ℕ) → code < 256 → get_or table code 0 ≡ length_of code
  pub unknown : (code : ℕ) → code < 256 → eqb (get_or table code 0) 0 ≡ not (known code)
