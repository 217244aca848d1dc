-- What stops a core, by name, with its bit of the flag byte; the bit of an answer.
use Rattle.std.specs.Prelude.{ℕ, Result, Ok, Err}
use Rattle.std.proofs.Math.Option.{Option, none, some}
use Rattle.verdict.specs.Numbers.{index_bit, limit_bit, divisor_bit, address_bit, call_bit, conversion_bit}
use Rattle.verdict.specs.declared.Fault.{Fault}
use Rattle.verdict.specs.declared.Fault.TheVariants.{Index, Limit, Divisor, Address, Call, Conversion}

abbrev pub bit_of : Fault → ℕ
bit_of Index = index_bit
bit_of Limit = limit_bit
bit_of Divisor = divisor_bit
bit_of Address = address_bit
bit_of Call = call_bit
bit_of Conversion = conversion_bit

-- the flag bit of the fault that an answer is; what is done has none
abbrev pub fault_bit : {A : Type 0} → Result A Fault → Option ℕ
fault_bit (Ok a) = none
fault_bit (Err f) = some (bit_of f)
