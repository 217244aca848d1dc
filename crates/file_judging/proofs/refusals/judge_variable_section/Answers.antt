-- Each return is the first refusal of the chain.
use Prim.Native.Nat.{ℕ, ◌+◌, ◌*◌, ◌-◌}
use native.Mathlib.Omega.{arith}
use mathlib.Core.Path.{◌≡◌, ap, sym}
use lib.ListN.{get_or}
use borrow.Author.Tests.{le-leb, lt-leb}
use Rattle.verdict.specs.Verdict.{first}
use Rattle.records.specs.File.{variables}
use Rattle.records.specs.Records.{variable_refusal}
use Rattle.verdict.proofs.Verdict.{skip, halt, yes, no}
use Rattle.verdict.proofs.Refusals.{handed_on, stop-refused}
use Rattle.taskset.specs.Judge.{variables_refusal}
use Rattle.taskset.proofs.Laws.{records-present}
use Rattle.file_judging.proofs.refusals.judge_variable_section.Goals as goal

pub returns-then-f-at : goal.returns-then-f-at
unfolding variables_refusal
returns-then-f-at c = rw (sym c.byte_at.ensures) (halt 0 _ (no _ _ (lt-leb _ _ c.if-f-at.true)))

pub returns-then-m-gt64 : goal.returns-then-m-gt64
unfolding variables_refusal
returns-then-m-gt64 c = rw (sym c.byte_at.ensures) (skip (yes _ _ (le-leb _ _ c.if-f-at.false)) (halt 3 _ (no _ _ (lt-leb _ _ c.if-m-gt64.true))))

pub returns-in_err-judge_variables : goal.returns-in_err-judge_variables
unfolding variables_refusal
returns-in_err-judge_variables c = rw (sym c.byte_at.ensures)
    (handed_on _ _ c.from_residual.ensures.1
    (skip (yes _ _ (le-leb _ _ c.if-f-at.false)) (skip (yes _ _ (le-leb _ _ c.if-m-gt64.false)) (stop-refused _ _ c.in_err-judge_variables.ensures))))

pub judge_overlaps-requires : goal.judge_overlaps-requires
judge_overlaps-requires c = let f = c.args.f.now in
    let e : get_or f (5 + 6 * c.byte_at.result) 0 ≡ variables f = ap (λ (n : ℕ). get_or f (5 + 6 * n) 0) c.byte_at.ensures in
    let z : first (variable_refusal f) (variables f - 0) 0 ≡ 0 = rw (sym e) (omega arith) in
    (e, omega (arith, e, records-present f (omega (arith, c.byte_at.ensures, c.if-f-at.false)) z))

pub returns : goal.returns
unfolding variables_refusal
returns c = rw (sym c.byte_at.ensures)
    (skip (yes _ _ (le-leb _ _ c.if-f-at.false))
    (skip (yes _ _ (le-leb _ _ c.if-m-gt64.false))
    (skip (sym c.in_ok-judge_variables.ensures) c.judge_overlaps.ensures)))
