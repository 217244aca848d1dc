-- `semaphore::released` meets its contract. Assumes nothing.
use mathlib.Core.Path.{refl}
use Rattle.semaphore.specs.Line.{line_of}
use Rattle.semaphore.proofs.Laws.{same_line, waiting-is, entries, standing-is}
use Rattle.semaphore.proofs.released.Goals as goal

pub returns : goal.returns
unfolding line_of
returns c = same_line refl (waiting-is c.requires) (entries c.requires) (standing-is c.requires)
