-- `runs::first_run_judged` meets its contract: the state is made fresh, then the call is judged and its steps are done. Assumes nothing.
use mathlib.Core.Path.{sym, ◌∙◌}
use borrow.Author.Rules.{rules}
use Rattle.verdict.proofs.Refusals.{refused}
use Rattle.machine.proofs.Calls.{judged-refusal, run-refused, run-granted, fresh-left, first-call, first-number}
use Rattle.runs.proofs.first_run_judged.Goals as goal

pub judge_call-requires : goal.judge_call-requires
judge_call-requires c = (c.requires.0.accepted, c.requires.0.laid)

pub run_judged-requires : goal.run_judged-requires
run_judged-requires c = let a = c.args in
    let given = c.requires in
    let judged = judged-refusal _ _ _ _ _ _ c.in-Ok.ensures in
    let made = c.fresh_judged-start.ensures ∙ fresh-left a.file.now a.buffer.now a.shared.now given.0.accepted given.0.fits in
    let number = first-number a.file.now a.trace.now a.order.now a.list.now _ _ _ made given.0.accepted given.1 in
    (given.0.laid, judged.1.1, sym (judged.0 ∙ number))

pub shape_of-buffer-in-Ok : goal.shape_of-buffer-in-Ok
shape_of-buffer-in-Ok c = search (rules, c.run_judged, c.fresh_judged-start)

pub returns-in-Ok : goal.returns-in-Ok
returns-in-Ok c = let a = c.args in
    let given = c.requires in
    let judged = judged-refusal _ _ _ _ _ _ c.in-Ok.ensures in
    let made = c.fresh_judged-start.ensures ∙ fresh-left a.file.now a.buffer.now a.shared.now given.0.accepted given.0.fits in
    let number = first-number a.file.now a.trace.now a.order.now a.list.now _ _ _ made given.0.accepted given.1 in
    run-granted a.file.now a.trace.now _ _ _ a.order.now a.list.now _ (sym (judged.0 ∙ number)) c.run_judged.ensures
    ∙ first-call a.file.now a.trace.now a.order.now a.list.now _ _ _ made

pub returns-in-Err : goal.returns-in-Err
returns-in-Err c = let a = c.args in
    let given = c.requires in
    let judged = judged-refusal _ _ _ _ _ _ c.in-Err.ensures in
    let made = c.fresh_judged-start.ensures ∙ fresh-left a.file.now a.buffer.now a.shared.now given.0.accepted given.0.fits in
    let number = first-number a.file.now a.trace.now a.order.now a.list.now _ _ _ made given.0.accepted given.1 in
    run-refused a.file.now a.trace.now _ _ _ a.order.now a.list.now _ (c.number.ensures.0 ∙ (judged.0 ∙ number)) (λ e. refused _ (sym c.number.ensures.0 ∙ e)) c.answer.ensures
    ∙ first-call a.file.now a.trace.now a.order.now a.list.now _ _ _ made
