-- Where all rise no two meet; else what is left from variable i on is what was asked.
use mathlib.Core.Path.{sym}
use Rattle.verdict.proofs.Verdict.{going-none, going_more, going_end}
use Rattle.verdict.proofs.Refusals.{going-refused, handed_on}
use Rattle.records.proofs.Order.{none-overlaps}
use Rattle.records.proofs.judge_overlaps.Goals as goal

pub returns-then-rising : goal.returns-then-rising
returns-then-rising c = none-overlaps _ _ c.requires.0 (c.rising.ensures c.if-rising.true)

pub loop-i-init : goal.loop-i-init
loop-i-init c = going-none _ _ _

pub judge_overlap-requires : goal.judge_overlap-requires
judge_overlap-requires c = (c.loop-i-test.true, c.requires.0, c.requires.1)

pub returns-in_err-judge_overlap : goal.returns-in_err-judge_overlap
returns-in_err-judge_overlap c = handed_on _ _ c.from_residual.ensures.1 (going-refused _ _ _ _ _ c.loop-i.invariant c.loop-i-test.true c.in_err-judge_overlap.ensures)

pub loop-i-preserved : goal.loop-i-preserved
loop-i-preserved c = going_more _ _ _ _ c.loop-i.invariant c.loop-i-test.true (sym c.in_ok-judge_overlap.ensures)

pub returns : goal.returns
returns c = going_end _ _ _ _ c.loop-i.invariant c.loop-i-test.false
