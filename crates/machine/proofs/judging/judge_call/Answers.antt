-- `machine::judge_call` meets its contract: an error of loading is handed on, and each other answer is the first of the tests that refuses. Assumes nothing.
use mathlib.Core.Path.{◌≡◌, refl, sym, ap, ◌∙◌}
use Rattle.std.specs.Prelude.{Err}
use Rattle.std.proofs.lemmas.Result.{IfOk-at_ok, err_from_is_err_and}
use Rattle.verdict.specs.Refusals.{number_of}
use Rattle.verdict.specs.declared.Refusal.TheVariants.{NoSuchCore}
use Rattle.verdict.proofs.Verdict.{skip}
use Rattle.verdict.proofs.Refusals.{stop-refused}
use Rattle.states.specs.Preparing.{held_refusal}
use Rattle.machine.specs.Judging.{judged_number}
use Rattle.machine.proofs.Calls.{prepared-tasks, below-laid, judge-unnamed, judge-none}
use Rattle.machine.proofs.judging.judge_call.Goals as goal

pub returns-in_err-layout : goal.returns-in_err-layout
returns-in_err-layout g c = let p = err_from_is_err_and c.from_residual.result c.from_residual.ensures.1 in
    rw c.in_err-layout.was (record { handed = p.1 ∙ ap Err p.2; number = tt; granted = tt })

pub prepare-requires : goal.prepare-requires
prepare-requires g c = IfOk-at_ok _ c.in_ok-layout.was c.requires

pub returns-in-Err : goal.returns-in-Err
unfolding judged_number
returns-in-Err g c = let was = c.in_ok-layout.was in
    let r = c.in-Err.refused.refusal in
    let held : number_of r ≡ held_refusal c.args.file.now c.args.trace.now c.args.s = c.in-Err.ensures.0 in
    rw was (record { handed = tt; number = (r, skip refl (stop-refused r _ held), c.from.ensures); granted = tt })

pub returns-then-not-all_below : goal.returns-then-not-all_below
returns-then-not-all_below g c = let was = c.in_ok-layout.was in
    let held = sym {b = held_refusal c.args.file.now c.args.trace.now c.args.s} c.in-Ok.ensures.0 in
    let laid = IfOk-at_ok _ was c.requires in
    let named = below-laid c.args.file.now c.args.order.now _ laid.1 _ c.all_below.ensures in
    let unnamed = judge-unnamed _ _ _ _ _ refl held (named ∙ c.if-not-all_below.true) in
    rw was (record { handed = tt; number = (NoSuchCore, unnamed, c.from-then-not-all_below.ensures); granted = tt })

pub returns : goal.returns
returns g c = let was = c.in_ok-layout.was in
    let answered = c.in-Ok.ensures in
    let held = sym {b = held_refusal c.args.file.now c.args.trace.now c.args.s} answered.0 in
    let laid = IfOk-at_ok _ was c.requires in
    let named = below-laid c.args.file.now c.args.order.now _ laid.1 _ c.all_below.ensures in
    let none = sym (judge-none _ _ _ _ _ refl held (named ∙ c.if-not-all_below.false)) in
    rw was (record { handed = tt; number = tt; granted = (none, laid.1, prepared-tasks c.args.file.now c.args.trace.now c.args.s _ answered) })
