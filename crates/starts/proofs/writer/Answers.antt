-- The first core whose WRITE bit is set; with none of the first three, core 3. Assumes nothing.
use mathlib.Core.Path.{sym, ◌∙◌}
use native.Mathlib.Omega.{arith}
use Rattle.verdict.specs.Verdict.{pick}
use Rattle.taskset.specs.Starts.{writer_of}
use Rattle.starts.proofs.writer.Goals as goal

pub returns-then-writes : goal.returns-then-writes
unfolding writer_of pick
returns-then-writes c = (rw (sym c.writes.ensures ∙ c.if-writes.true), omega arith)

pub returns-then-writes-2 : goal.returns-then-writes-2
unfolding writer_of pick
returns-then-writes-2 c = (rw (sym c.writes.ensures ∙ c.if-writes.false, sym c.writes-2.ensures ∙ c.if-writes-2.true), omega arith)

pub returns-then-writes-3 : goal.returns-then-writes-3
unfolding writer_of pick
returns-then-writes-3 c = (rw (sym c.writes.ensures ∙ c.if-writes.false, sym c.writes-2.ensures ∙ c.if-writes-2.false, sym c.writes-3.ensures ∙ c.if-writes-3.true), omega arith)

pub returns : goal.returns
unfolding writer_of pick
returns c = (rw (sym c.writes.ensures ∙ c.if-writes.false, sym c.writes-2.ensures ∙ c.if-writes-2.false, sym c.writes-3.ensures ∙ c.if-writes-3.false), omega arith)
