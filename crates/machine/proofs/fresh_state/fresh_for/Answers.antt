-- `machine::fresh_for` meets its contract: the file is judged, then the lent memory, which is filled. Assumes nothing.
use mathlib.Core.Path.{sym, ◌∙◌}
use Rattle.verdict.proofs.Refusals.{refused}
use Rattle.machine.proofs.Calls.{lent-to-known, fresh-number, fresh-refused-for, fresh-any}
use Rattle.machine.proofs.fresh_state.fresh_for.Goals as goal

pub fresh_judged-requires : goal.fresh_judged-requires
fresh_judged-requires c = let a = c.args in
    lent-to-known a.profile a.file.now a.buffer.now a.shared.now _ _ c.in-Ok.ensures

pub returns-in-Ok : goal.returns-in-Ok
returns-in-Ok c = let a = c.args in
    let lent = lent-to-known a.profile a.file.now a.buffer.now a.shared.now _ _ c.in-Ok.ensures in
    c.fresh_judged.ensures
    ∙ fresh-any a.profile a.file.now a.buffer.now a.shared.now lent.accepted lent.fits
    (sym (fresh-number a.profile a.file.now a.buffer.now a.shared.now _ c.in-Ok.ensures.0))

pub returns-in-Err : goal.returns-in-Err
returns-in-Err c = let a = c.args in
    fresh-refused-for a.profile a.file.now a.buffer.now a.shared.now _
    (c.number.ensures.0 ∙ fresh-number a.profile a.file.now a.buffer.now a.shared.now _ c.in-Err.ensures.0) (λ e. refused _ (sym c.number.ensures.0 ∙ e))
    (rw (sym c.idle_table.ensures) c.answer.ensures)
