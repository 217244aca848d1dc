-- What is left from core k on is what was asked.
use mathlib.Core.Path.{sym}
use Rattle.verdict.proofs.Verdict.{going-none, going_more, going_end}
use Rattle.verdict.proofs.Refusals.{going-refused, handed_on}
use Rattle.records.proofs.judge_cores.Goals as goal

pub returns-in_err-judge_core : goal.returns-in_err-judge_core
returns-in_err-judge_core c = handed_on _ _ c.from_residual.ensures.1 (going-refused _ _ _ _ _ c.loop-k.invariant c.loop-k-test.true c.in_err-judge_core.ensures)

pub loop-k-init : goal.loop-k-init
loop-k-init c = going-none _ _ _

pub loop-k-preserved : goal.loop-k-preserved
loop-k-preserved c = going_more _ _ _ _ c.loop-k.invariant c.loop-k-test.true (sym c.in_ok-judge_core.ensures)

pub returns : goal.returns
returns c = going_end _ _ _ _ c.loop-k.invariant c.loop-k-test.false
