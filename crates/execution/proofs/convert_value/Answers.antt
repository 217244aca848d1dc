-- The types and the places are those that stand in the code; how the conversion ended is how the instruction ends.
use mathlib.Core.Path.{refl}
use Rattle.processor.proofs.Commands.{conversion-done}
use Rattle.execution.proofs.convert_value.Goals as goal

pub convert_at-requires : goal.convert_at-requires
convert_at-requires c = (c.requires.1, c.requires.2, c.operand-destination.ensures.1, c.operand-source.ensures.1)

pub returns : goal.returns
returns c = conversion-done _ _ _ _ _ _ _ _ _ _ c.requires.0.here refl refl c.operand-destination.ensures.0 c.operand-source.ensures.0
    c.convert_at.ensures c.outcome.ensures
