-- A value is read by its type. Assumes nothing.
use Rattle.values.specs.Values.{read_value}
use Rattle.commands.proofs.source.ValueSource.read.Goals as goal

pub returns : goal.returns
unfolding read_value
returns c = c.read_value.ensures
