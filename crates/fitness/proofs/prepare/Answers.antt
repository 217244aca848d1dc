-- `fitness::prepare` meets its contract: a trace that loads makes an accepted set, whose tasks and fitness are judged. Assumes nothing.
use mathlib.Core.Path.{ap, refl, ◌∙◌}
use native.Mathlib.Omega.{arith}
use Rattle.std.specs.Prelude.{Some}
use Rattle.verdict.proofs.Verdict.{skip}
use Rattle.verdict.proofs.Refusals.{refused, stop-refused, accepted-known, refused-unknown, handed-unknown}
use Rattle.taskset.specs.declared.Layout.{Layout}
use Rattle.taskset.proofs.Records.{trace-judged, trace-sound, trace-laid}
use Rattle.states.specs.Preparing.{held_refusal}
use Rattle.states.proofs.Accepted.{accepted-set}
use Rattle.fitness.proofs.prepare.Goals as goal

pub returns-in_err-traces : goal.returns-in_err-traces
unfolding held_refusal
returns-in_err-traces c = let judged = trace-judged c.args.file.now c.args.trace.now _ c.in_err-traces.ensures in
    handed-unknown _ _ c.from_residual.ensures.1 (stop-refused _ _ judged) (refused-unknown _ _ (λ e. refused _ (judged ∙ e)))

pub core_tasks-tasks-requires : goal.core_tasks-tasks-requires
core_tasks-tasks-requires c = let loaded = c.in_ok-traces.ensures in
    let file = c.args.file.now in
    let trace = c.args.trace.now in (
      accepted-set file trace (λ i. omega (arith, c.type_inv.file i)) (λ i. omega (arith, c.type_inv.trace i))
          c.requires.0 (trace-sound file trace _ loaded refl),
      c.requires.1,
      trace-laid file trace _ loaded refl,
    )

pub judge_state-requires : goal.judge_state-requires
judge_state-requires c = let loaded = c.in_ok-traces.ensures in
    let file = c.args.file.now in
    let trace = c.args.trace.now in (
      accepted-set file trace (λ i. omega (arith, c.type_inv.file i)) (λ i. omega (arith, c.type_inv.trace i))
          c.requires.0 (trace-sound file trace _ loaded refl),
      c.core_tasks-tasks.ensures,
      ap (λ (l : Layout). l.cores) c.requires.1,
    )

pub returns-in-Err : goal.returns-in-Err
unfolding held_refusal
returns-in-Err c = let sound = trace-sound c.args.file.now c.args.trace.now _ c.in_ok-traces.ensures refl in
    (skip sound c.in-Err.ensures, ap Some c.core_tasks-tasks.ensures ∙ accepted-known _ _ sound)

pub returns-in-Ok : goal.returns-in-Ok
unfolding held_refusal
returns-in-Ok c = let sound = trace-sound c.args.file.now c.args.trace.now _ c.in_ok-traces.ensures refl in
    (skip sound c.in-Ok.ensures, ap Some c.core_tasks-tasks.ensures ∙ accepted-known _ _ sound)
