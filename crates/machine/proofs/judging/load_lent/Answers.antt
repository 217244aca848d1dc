-- `machine::load_lent` meets its contract: the file is judged, then lent memory. Assumes nothing.
use mathlib.Core.Path.{refl, sym, ap, ◌∙◌}
use Rattle.std.specs.Prelude.{Some}
use Rattle.verdict.proofs.Refusals.{refused, stop-refused, accepted-known, refused-unknown, handed-unknown}
use Rattle.taskset.proofs.Loading.{file-judged-for, file-accepted-for, file-laid-for}
use Rattle.machine.specs.Judging.{lent_refusal}
use Rattle.machine.proofs.Calls.{lent-held, lent-unfit, lent-full}
use Rattle.machine.proofs.judging.load_lent.Goals as goal

pub returns-in_err-layout : goal.returns-in_err-layout
unfolding lent_refusal
returns-in_err-layout c = let a = c.args in
    let judged = file-judged-for a.profile a.file.now _ c.in_err-layout.ensures in
    handed-unknown _ _ c.from_residual.ensures.1 (stop-refused _ _ judged) (refused-unknown _ _ (λ e. refused _ (judged ∙ e)))

pub lent_fits-requires : goal.lent_fits-requires
lent_fits-requires c = let a = c.args in
    (file-accepted-for a.profile a.file.now _ c.in_ok-layout.ensures refl, file-laid-for a.profile a.file.now _ c.in_ok-layout.ensures refl)

pub returns-then-lent_fits : goal.returns-then-lent_fits
returns-then-lent_fits c = let a = c.args in
    let judged = sym (file-judged-for a.profile a.file.now _ c.in_ok-layout.ensures) in (
      lent-held a.profile a.file.now a.buffer a.shared a.room judged (sym c.lent_fits.ensures ∙ c.if-lent_fits.true) c.if-room.true,
      ap Some (file-laid-for a.profile a.file.now _ c.in_ok-layout.ensures refl) ∙ accepted-known _ _ judged,
    )

pub returns-else-lent_fits : goal.returns-else-lent_fits
returns-else-lent_fits c = let a = c.args in
    let judged = sym (file-judged-for a.profile a.file.now _ c.in_ok-layout.ensures) in
    (lent-unfit a.profile a.file.now a.buffer a.shared a.room judged (sym c.lent_fits.ensures ∙ c.if-lent_fits.false), ap Some (file-laid-for a.profile a.file.now _ c.in_ok-layout.ensures refl) ∙ accepted-known _ _ judged)

pub returns-else-room : goal.returns-else-room
returns-else-room c = let a = c.args in
    let judged = sym (file-judged-for a.profile a.file.now _ c.in_ok-layout.ensures) in
    (lent-full a.profile a.file.now a.buffer a.shared a.room judged c.if-room.false, ap Some (file-laid-for a.profile a.file.now _ c.in_ok-layout.ensures refl) ∙ accepted-known _ _ judged)
