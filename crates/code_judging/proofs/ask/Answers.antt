-- A place that is no start is asked for.
use Rattle.code.proofs.Laying.{asked-outside, asked-start, asked-new}
use Rattle.code_judging.proofs.ask.Goals as goal

pub returns-then-marks-at : goal.returns-then-marks-at
returns-then-marks-at c = asked-outside _ _ c.if-marks-at.true

pub returns-then-marks-at-ne1 : goal.returns-then-marks-at-ne1
returns-then-marks-at-ne1 c = asked-new _ _ c.if-marks-at.false c.if-marks-at-ne1.true

pub returns-else-marks-at-ne1 : goal.returns-else-marks-at-ne1
returns-else-marks-at-ne1 c = asked-start _ _ c.if-marks-at-ne1.false
