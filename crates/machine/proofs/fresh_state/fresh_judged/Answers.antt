-- `machine::fresh_judged` meets its contract: both memories are filled. Assumes nothing.
use mathlib.Core.Path.{refl, ◌∙◌}
use native.Mathlib.Omega.{arith}
use Rattle.code.specs.declared.Profile.TheVariants.{Full}
use Rattle.taskset.proofs.Exact.{keeps-rules}
use Rattle.machine.proofs.Calls.{lent-sizes, fresh-none-for, fresh-granted-for, fresh-full}
use Rattle.machine.proofs.fresh_state.fresh_judged.Goals as goal

pub fill-requires : goal.fill-requires
fill-requires c = let given = c.requires in
    let sized = lent-sizes _ _ _ given.fits in
    (given.accepted, given.laid, sized.0, sized.1)

pub overflow_cast-layout : goal.overflow_cast-layout
overflow_cast-layout c = let given = c.requires in
    rw given.laid (omega (arith, (keeps-rules _ given.accepted).most-cores))

pub returns : goal.returns
returns c = let a = c.args in
    let given = c.requires in
    fresh-granted-for Full a.file.now a.buffer.now a.shared.now _ _ _
    (fresh-none-for Full a.file.now a.buffer.now a.shared.now given.accepted given.fits)
    (rw (c.answer.ensures, c.idle_table.ensures, given.laid) refl)
    c.fill.ensures.0
    c.fill.ensures.1
    ∙ fresh-full a.file.now a.buffer.now a.shared.now
