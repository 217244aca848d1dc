-- Where control goes from an instruction, by the row of its command.
use Rattle.std.specs.Prelude.{ℕ, ◌+◌, Bool, true, false, List, [], ◌∷◌}
use Rattle.memory.specs.Memory.{byte, word}
use Rattle.code.specs.Commands.{Operand, Address, CodePlace, Number, TypeByte, SizeByte, Kind, Returns, Jumps, Branches, Calls, Passes, Row, unknown, row, row_of, row_operands, places_of}
use Rattle.code.specs.Instructions.{instruction_length}

-- the kind of a row; an unknown code byte, which no accepted code has, is told as one that goes on
abbrev pub kind_of : Row → Kind
kind_of unknown = Passes
kind_of (row kind operands) = kind

abbrev pub is_target : Operand → Bool
is_target Address = false
is_target CodePlace = true
is_target Number = false
is_target TypeByte = false
is_target SizeByte = false

-- the first of these words of the instruction at p; 0 where there is none
abbrev pub first_word : List ℕ → ℕ → List ℕ → ℕ
first_word c p [] = 0
first_word c p (n ∷ ns) = word c (p + n)

-- control may go on to the next instruction
abbrev pub goes_on : Kind → Bool
goes_on Returns = false
goes_on Jumps = false
goes_on Branches = true
goes_on Calls = true
goes_on Passes = true

-- control may go to T
abbrev pub goes_to : Kind → Bool
goes_to Returns = false
goes_to Jumps = true
goes_to Branches = true
goes_to Calls = true
goes_to Passes = false

-- of the instruction at place p of a core's code: its kind, its T, and the place after it
unfoldable pub kind_at : List ℕ → ℕ → Kind
kind_at c p = kind_of (row_of (byte c p))

unfoldable pub target_at : List ℕ → ℕ → ℕ
target_at c p = first_word c p (places_of is_target 1 (row_operands (row_of (byte c p))))

abbrev pub after : List ℕ → ℕ → ℕ
after c p = p + instruction_length c p
