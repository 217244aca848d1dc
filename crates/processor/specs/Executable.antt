-- What the functions of one instruction ask of the code and the data.
use Rattle.std.specs.Prelude.{◌≡◌, Bool, true, ◌⊎◌, List, ℕ, ◌+◌, ◌≤◌, ltb, length}
use Rattle.verdict.specs.Verdict.{either}
use Rattle.memory.specs.Memory.{byte}
use Rattle.code.specs.Code.{judge_code, is_start}
use Rattle.code.specs.Commands.{three}
use Rattle.protocol.specs.declared.Registers.{Registers}

-- accepted code, an instruction at the program counter, and data of at most the largest size
pub record Executable (c : List ℕ) (r : Registers) (d : List ℕ) : Type 0 where
  pub accepted : judge_code c ≡ 0
  pub short : length c ≤ 8192
  pub start : is_start c r.counter ≡ true
  pub small : length d ≤ 4096

-- the instruction at the program counter has this code byte, and n bytes of it lie in the code
pub record InstructionStands (code n : ℕ) (c : List ℕ) (r : Registers) : Type 0 where
  pub here : byte c r.counter ≡ code
  pub whole : r.counter + n ≤ length c
  pub short : length c ≤ 8192

-- what 41 and 42 store: the cycle's time in four bytes, the flag byte in one
abbrev pub Reports : ℕ → Registers → ℕ → ℕ → Type 0
Reports code r width value = ((code ≡ 41) × (width ≡ 4) × (value ≡ r.time)) ⊎ ((code ≡ 42) × (width ≡ 1) × (value ≡ r.flags))

-- the commands that most instructions are: those that only say where control goes, RETURN to CALF, and the typed ones with three addresses
abbrev pub frequent : ℕ → Bool
frequent code = either (ltb code 6) (three code)
