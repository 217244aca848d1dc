-- `machine::check_state` meets its contract: no memory is lent and no core named. Assumes nothing.
use mathlib.Core.Path.{◌∙◌}
use Rattle.verdict.proofs.Refusals.{handed_on}
use Rattle.machine.proofs.Calls.{loaded-laid, judged-refusal, set-number}
use Rattle.machine.proofs.check_state.Goals as goal

pub judge_call-requires : goal.judge_call-requires
judge_call-requires c = loaded-laid _ _ c.load_file-loaded.ensures

pub returns-in_err-judge_call : goal.returns-in_err-judge_call
returns-in_err-judge_call c = let a = c.args in
    let judged = judged-refusal _ _ _ _ _ _ c.in_err-judge_call.ensures in
    handed_on _ _ c.from_residual.ensures.1 (judged.0 ∙ set-number a.file.now a.trace.now a.s _ c.load_file-loaded.ensures)

pub returns : goal.returns
returns c = let a = c.args in
    let judged = judged-refusal _ _ _ _ _ _ c.in_ok-judge_call.ensures in
    judged.0 ∙ set-number a.file.now a.trace.now a.s _ c.load_file-loaded.ensures
