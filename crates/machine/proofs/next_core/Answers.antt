-- `machine::next_core` meets its contract: the call is judged, with the given core as the one that is named; then the scan. Assumes nothing.
use mathlib.Core.Path.{◌≡◌, sym, ap, ◌∙◌, subst}
use Prim.Native.Nat.{ℕ}
use native.Mathlib.Omega.{arith}
use Rattle.std.specs.Prelude.{Result, Option}
use Rattle.verdict.specs.Refusals.{numbered}
use Rattle.verdict.specs.declared.Refusal.{Refusal}
use Rattle.verdict.proofs.Refusals.{refused, handed}
use Rattle.taskset.specs.declared.Layout.{Layout}
use Rattle.states.proofs.Accepted.{accepted-set}
use Rattle.machine.specs.Calls.{next_call, next_says, next_said}
use Rattle.machine.proofs.Calls.{loaded-laid, judged-refusal, next-number}
use Rattle.machine.proofs.Nexts.{next_known, next-refused, next-granted}
use Rattle.machine.proofs.next_core.Goals as goal

pub judge_call-requires : goal.judge_call-requires
judge_call-requires c = loaded-laid _ _ c.load_file-loaded.ensures

pub next_moving-requires : goal.next_moving-requires
next_moving-requires c = let a = c.args in
    let judged = judged-refusal _ _ _ _ _ _ c.in_ok-judged.ensures in
    let none = sym (judged.0 ∙ next-number a.file.now a.trace.now a.s a.given _ c.load_file-loaded.ensures) in
    let known = next_known a.file.now a.trace.now a.s a.given none in
    let cores = ap (λ (l : Layout). l.cores) judged.1.0 in (
      accepted-set a.file.now a.trace.now (λ i. omega (arith, c.type_inv.file i)) (λ i. omega (arith, c.type_inv.trace i)) known.0 known.1,
      judged.1.1,
      cores,
      omega (arith, cores, known.2),
    )

pub returns : goal.returns
returns c = let a = c.args in
    let judged = judged-refusal _ _ _ _ _ _ c.in_ok-judged.ensures in
    next-granted a.file.now a.trace.now a.s a.given _
    (sym (judged.0 ∙ next-number a.file.now a.trace.now a.s a.given _ c.load_file-loaded.ensures)) c.next_moving.ensures

pub returns-in_err-judged : goal.returns-in_err-judged
returns-in_err-judged c = let a = c.args in
    let judged = judged-refusal _ _ _ _ _ _ c.in_err-judged.ensures in
    subst (λ (x : Result (Option ℕ) Refusal). (numbered x ≡ next_call a.file.now a.trace.now a.s a.given) × (next_says (numbered x) ≡ next_said a.file.now a.trace.now a.s a.given))
    (sym (handed _ _ c.from_residual.ensures.1))
    (next-refused a.file.now a.trace.now a.s a.given _
    (judged.0 ∙ next-number a.file.now a.trace.now a.s a.given _ c.load_file-loaded.ensures) (refused _))
