-- Byte by byte.
use borrow.Author.Tests.{eq-eqb, ne_eqb}
use Rattle.taskset.specs.Judge.{has_mark}
use Rattle.file_judging.proofs.has_mark.Goals as goal

pub returns-then-f-mark : goal.returns-then-f-mark
unfolding has_mark
returns-then-f-mark c = rw (ne_eqb _ _ c.if-f-mark.true)

pub returns-then-f-mark-2 : goal.returns-then-f-mark-2
unfolding has_mark
returns-then-f-mark-2 c = rw (eq-eqb _ _ c.if-f-mark.false, ne_eqb _ _ c.if-f-mark-2.true)

pub returns-then-f-mark-3 : goal.returns-then-f-mark-3
unfolding has_mark
returns-then-f-mark-3 c = rw (eq-eqb _ _ c.if-f-mark.false, eq-eqb _ _ c.if-f-mark-2.false, ne_eqb _ _ c.if-f-mark-3.true)

pub returns : goal.returns
unfolding has_mark
returns c = rw (eq-eqb _ _ c.if-f-mark.false, eq-eqb _ _ c.if-f-mark-2.false, eq-eqb _ _ c.if-f-mark-3.false)
