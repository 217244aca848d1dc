-- Place 0 is a start by the `requires`; any other is by the map, or by a walk.
use mathlib.Core.Path.{sym}
use Rattle.execution_fitness.proofs.starts_at.Goals as goal

pub returns-then-place-eq0 : goal.returns-then-place-eq0
returns-then-place-eq0 c = sym (rw c.if-place-eq0.true c.requires.0)

pub returns : goal.returns
returns c = rw c.byte_at.ensures (c.requires.1 c.if-marks-eq0.false _)
