-- The place of the number that `word` reads.
use Rattle.std.proofs.Common.{ap, ◌∙◌}
use Rattle.processor.specs.Processor.{place_of}
use Rattle.addresses.proofs.operand.Goals as goal

pub returns : goal.returns
returns c = (c.place.ensures.0 ∙ ap (place_of _) c.word.ensures, c.place.ensures.1)
