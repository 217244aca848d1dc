-- `rerun::rerun` meets its contract: file, lent memory and trace are judged, then the list. Assumes nothing.
use mathlib.Core.Path.{refl}
use native.Mathlib.Omega.{arith}
use Rattle.verdict.proofs.Refusals.{refused}
use Rattle.code.specs.declared.Profile.TheVariants.{Full}
use Rattle.taskset.proofs.Records.{trace-judged, trace-sound, trace-laid}
use Rattle.states.proofs.Accepted.{accepted-set}
use Rattle.machine.proofs.Calls.{lent-to-known, fresh-number}
use Rattle.rerun.proofs.Ends.{rerun-refused, refused-loaded, refused-trace}
use Rattle.rerun.proofs.rerun.Goals as goal

pub returns-in-Err : goal.returns-in-Err
returns-in-Err c = let a = c.args in
    rerun-refused a.file.now a.trace.now a.list.now a.buffer.now a.shared.now _
    (refused-loaded a.file.now a.trace.now a.list.now a.buffer.now a.shared.now
    (fresh-number Full a.file.now a.buffer.now a.shared.now _ c.in-Err.ensures.0) (refused _)) (refused _) c.without_table.ensures

pub returns-in-Err-load_trace : goal.returns-in-Err-load_trace
returns-in-Err-load_trace c = let a = c.args in
    let lent = lent-to-known Full a.file.now a.buffer.now a.shared.now _ _ c.in-Ok.ensures in
    rerun-refused a.file.now a.trace.now a.list.now a.buffer.now a.shared.now _
    (refused-trace a.file.now a.trace.now a.list.now a.buffer.now a.shared.now lent.accepted lent.fits
    (trace-judged a.file.now a.trace.now _ c.in-Err-load_trace.ensures) (refused _)) (refused _) c.without_table-in-Err-load_trace.ensures

pub core_tasks-tasks-requires : goal.core_tasks-tasks-requires
core_tasks-tasks-requires c = let a = c.args in
    let lent = lent-to-known Full a.file.now a.buffer.now a.shared.now _ _ c.in-Ok.ensures in
    let sound = trace-sound a.file.now a.trace.now _ c.in-Ok-load_trace.ensures refl in (
      accepted-set a.file.now a.trace.now (λ i. omega (arith, c.type_inv.file i))
          (λ i. omega (arith, c.type_inv.trace i)) lent.accepted sound,
      lent.laid,
      trace-laid a.file.now a.trace.now _ c.in-Ok-load_trace.ensures refl,
    )

pub rerun_judged-requires : goal.rerun_judged-requires
rerun_judged-requires c = let a = c.args in
    let lent = lent-to-known Full a.file.now a.buffer.now a.shared.now _ _ c.in-Ok.ensures in
    let sound = trace-sound a.file.now a.trace.now _ c.in-Ok-load_trace.ensures refl in
    record {
      accepted =
          accepted-set a.file.now a.trace.now (λ i. omega (arith, c.type_inv.file i))
          (λ i. omega (arith, c.type_inv.trace i)) lent.accepted sound;
      laid = lent.laid;
      tasked = c.core_tasks-tasks.ensures;
      fits = lent.fits;
    }

pub returns : goal.returns
returns c = c.rerun_judged.ensures
