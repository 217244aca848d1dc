-- `semaphore::line_of` meets its contract. Assumes nothing.
use mathlib.Core.Path.{refl}
use Rattle.semaphore.specs.Line.{line_of}
use Rattle.semaphore.proofs.line_of.Goals as goal

pub returns : goal.returns
unfolding line_of
returns c = rw (
  c.cores_in_line.ensures,
  c.line_entry.ensures,
  c.line_entry-2.ensures,
  c.line_entry-3.ensures,
  c.line_entry-4.ensures,
  c.in_line.ensures,
  c.in_line-2.ensures,
  c.in_line-3.ensures,
  c.in_line-4.ensures,
) refl
