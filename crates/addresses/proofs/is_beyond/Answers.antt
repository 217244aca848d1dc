-- The test is the definition; the bounds keep the sum from wrapping.
use Rattle.std.proofs.Common.{rules}
use Rattle.values.specs.Commands.{beyond}
use Rattle.addresses.proofs.is_beyond.Goals as goal

pub returns : goal.returns
unfolding beyond
returns c = search rules
