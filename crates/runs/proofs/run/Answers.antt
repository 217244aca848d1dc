-- `runs::run` meets its contract: the call is judged, then its steps are done. Assumes nothing.
use mathlib.Core.Path.{sym, ◌∙◌}
use Rattle.verdict.proofs.Refusals.{refused}
use Rattle.code.specs.declared.Profile.TheVariants.{Full}
use Rattle.machine.proofs.Calls.{lent_laid-known, judged-refused, run-number, run-refused, run-granted}
use Rattle.runs.proofs.run.Goals as goal

pub judge_call-requires : goal.judge_call-requires
judge_call-requires c = let a = c.args in
    lent_laid-known Full a.file.now _ _ _ _ c.load_lent-loaded.ensures

pub run_judged-requires : goal.run_judged-requires
run_judged-requires c = let a = c.args in
    let judged = judged-refused _ _ _ _ _ _ c.in-Ok.ensures in
    let number = run-number a.file.now a.trace.now a.s a.buffer.now a.shared.now a.order.now a.list.now _ c.load_lent-loaded.ensures.0 in
    (judged.1.0, judged.1.1, sym (judged.0 ∙ number))

pub returns-in-Ok : goal.returns-in-Ok
returns-in-Ok c = let a = c.args in
    let judged = judged-refused _ _ _ _ _ _ c.in-Ok.ensures in
    let number = run-number a.file.now a.trace.now a.s a.buffer.now a.shared.now a.order.now a.list.now _ c.load_lent-loaded.ensures.0 in
    run-granted a.file.now a.trace.now a.s a.buffer.now a.shared.now a.order.now a.list.now _
    (sym (judged.0 ∙ number)) c.run_judged.ensures

pub returns-in-Err : goal.returns-in-Err
returns-in-Err c = let a = c.args in
    let judged = judged-refused _ _ _ _ _ _ c.in-Err.ensures in
    let number = run-number a.file.now a.trace.now a.s a.buffer.now a.shared.now a.order.now a.list.now _ c.load_lent-loaded.ensures.0 in
    run-refused a.file.now a.trace.now a.s a.buffer.now a.shared.now a.order.now a.list.now _
    (c.number.ensures.0 ∙ (judged.0 ∙ number)) (λ e. refused _ (sym c.number.ensures.0 ∙ e)) c.answer.ensures
