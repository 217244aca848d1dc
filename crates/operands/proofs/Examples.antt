-- The examples of specs/Examples, computed. Assumes nothing.
use mathlib.Core.Path.{refl}
use Rattle.verdict.specs.Verdict.{pick}
use Rattle.memory.specs.Memory.{part, value_le, read_le}
use Rattle.values.specs.Types.{width_of}
use Rattle.values.specs.Commands.{result_type, result_width, second_width, zero_divisor, beyond}
use Rattle.protocol.specs.Instruction.{limited}
use Rattle.code.specs.Commands.{row_of}
use Rattle.code.specs.Flow.{kind_at, target_at}
use Rattle.code.specs.Instructions.{typed_at, instruction_at}
use Rattle.processor.specs.Processor.{place_of, of_element, data_part, executed}
use Rattle.operands.specs.Operands.{operands_of, data_footprint}
use Rattle.operands.specs.Faults.{fault_order, tests_of}
use Rattle.operands.specs.Examples.{Examples, FaultExamples}

pub examples : Examples
unfolding pick part value_le read_le width_of result_type result_width second_width zero_divisor beyond limited typed_at instruction_at place_of of_element data_part row_of kind_at target_at executed operands_of data_footprint
examples = record { added = refl; beyond-data = refl; chosen = refl; index-fault = refl }

pub fault-examples : FaultExamples
unfolding pick part value_le read_le beyond instruction_at place_of fault_order tests_of
fault-examples = record { limit-first = refl; call-before-instance = refl; address-before-index = refl; index-before-element = refl }
