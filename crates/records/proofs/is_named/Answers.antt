-- A reader is named, and so is a writer.
use mathlib.Core.Path.{sym}
use Rattle.records.proofs.is_named.Goals as goal

pub returns-then-reads : goal.returns-then-reads
returns-then-reads c = rw (sym c.reads.ensures, c.if-reads.true)

pub returns : goal.returns
returns c = rw (sym c.reads.ensures, c.if-reads.false) c.writes.ensures
