-- What is left from variable i on is what was asked.
use mathlib.Core.Path.{sym}
use Rattle.verdict.proofs.Verdict.{going-none, going_more, going_end}
use Rattle.verdict.proofs.Refusals.{going-refused, handed_on}
use Rattle.records.proofs.judge_variables.Goals as goal

pub loop-i-init : goal.loop-i-init
loop-i-init c = going-none _ _ _

pub returns-in_err-judge_variable : goal.returns-in_err-judge_variable
returns-in_err-judge_variable c = handed_on _ _ c.from_residual.ensures.1 (going-refused _ _ _ _ _ c.loop-i.invariant c.loop-i-test.true c.in_err-judge_variable.ensures)

pub loop-i-preserved : goal.loop-i-preserved
loop-i-preserved c = going_more _ _ _ _ c.loop-i.invariant c.loop-i-test.true (sym c.in_ok-judge_variable.ensures)

pub returns : goal.returns
returns c = going_end _ _ _ _ c.loop-i.invariant c.loop-i-test.false
