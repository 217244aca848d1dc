-- What a typed command of an instruction answers, and the data after it: the addresses are tried first, then the divisor.
use Rattle.std.specs.Prelude.{ℕ, ◌<◌, true, false, List, ◌≡◌, length, Result, Ok, Err}
use Rattle.std.proofs.Math.Option.{Option, none, some}
use Rattle.verdict.specs.Faults.{fault_bit}
use Rattle.verdict.specs.Numbers.{divisor_bit}
use Rattle.verdict.specs.declared.Fault.{Fault}
use Rattle.verdict.specs.Verdict.{pick}
use Rattle.memory.specs.Memory.{read_le}
use Rattle.values.specs.Types.{takes}
use Rattle.values.specs.Commands.{second_width, zero_divisor, typed_beyond, performed}
use Rattle.commands.specs.declared.Operands.{Operands}
use Rattle.commands.specs.declared.ZeroDivisor.{ZeroDivisor}

-- ---- an answer, by its fault's bit of the flag byte, with the data afterwards

pub record Attempt : Type 0 where
  pub fault : Option ℕ
  pub memory : List ℕ

abbrev pub ending : Option ℕ → List ℕ → Attempt
ending f m = record { fault = f; memory = m }

abbrev pub attempt : {A : Type 0} → Result A Fault → List ℕ → Attempt
attempt p m = ending (fault_bit p) m

-- the same of a command whose operands lie inside the data, and which fails by its divisor alone
abbrev pub divided : {A : Type 0} → Result A ZeroDivisor → List ℕ → Attempt
divided (Ok a) m = ending none m
divided (Err z) m = ending (some divisor_bit) m

-- the command with this code byte on the data s
unfoldable pub attempted : ℕ → Operands → List ℕ → Attempt
attempted code o s =
    pick (typed_beyond code o.kind (length s) o.to o.first o.second) (ending (some 4) s)
    (pick (zero_divisor code o.kind (read_le s o.second (second_width code o.kind))) (ending (some 3) s)
    (ending none (performed code o.kind s o.to o.first o.second)))

-- ---- what it asks: a type on the command's list; places of addresses are below 98,304

pub record OperandsGiven (code : ℕ) (o : Operands) : Type 0 where
  pub taken : takes code o.kind ≡ true
  pub to_low : o.to < 98304
  pub first-low : o.first < 98304
  pub second-low : o.second < 98304

-- of the typed commands NOT alone has no second source
abbrev pub ThreeOperands : ℕ → Type 0
ThreeOperands code = (code ≡ 27 → ⊥)

-- every operand lies inside the data
abbrev pub Inside : ℕ → Operands → List ℕ → Type 0
Inside code o s = typed_beyond code o.kind (length s) o.to o.first o.second ≡ false
