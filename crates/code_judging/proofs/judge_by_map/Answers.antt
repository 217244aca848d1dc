-- The judgements in the order of the definition; the targets by the map of the one pass.
use mathlib.Core.Path.{refl, sym}
use borrow.Author.Tests.{le-ltb, lt-ltb}
use Rattle.verdict.proofs.Verdict.{skip, halt, yes, no}
use Rattle.verdict.proofs.Refusals.{handed_on, stop-refused}
use Rattle.code.specs.Code.{judge_code_for}
use Rattle.code.proofs.Laying.{targets-outside, targets-wanted, targets-right}
use Rattle.code_judging.proofs.judge_by_map.Goals as goal

pub returns-in_err-m : goal.returns-in_err-m
unfolding judge_code_for
returns-in_err-m c = handed_on _ _ c.from_residual.ensures.1 (stop-refused _ _ c.in_err-m.ensures.right)

pub returns-then-m : goal.returns-then-m
unfolding judge_code_for
returns-then-m c = skip (sym c.in_ok-m.ensures.right) (halt 6 _ (no _ _ (targets-outside _ _ _ _ _ c.in_ok-m.ensures refl c.if-m.true)))

pub returns-then-not-all_met : goal.returns-then-not-all_met
unfolding judge_code_for
returns-then-not-all_met c = skip (sym c.in_ok-m.ensures.right) (halt 6 _ (no _ _ (targets-wanted _ _ _ _ _ _ c.in_ok-m.ensures refl c.all_met.ensures c.if-not-all_met.true)))

pub returns-then-m-ge2 : goal.returns-then-m-ge2
unfolding judge_code_for
returns-then-m-ge2 c = let pass = c.in_ok-m.ensures in
    skip (sym pass.right)
    (skip (yes _ _ (targets-right _ _ _ _ _ _ pass refl c.if-m.false c.all_met.ensures c.if-not-all_met.false))
    (sym (no _ _ (rw (sym (pass.latest refl)) (le-ltb _ _ c.if-m-ge2.true)))))

pub returns : goal.returns
unfolding judge_code_for
returns c = let pass = c.in_ok-m.ensures in
    skip (sym pass.right)
    (skip (yes _ _ (targets-right _ _ _ _ _ _ pass refl c.if-m.false c.all_met.ensures c.if-not-all_met.false))
    (sym (yes _ _ (rw (sym (pass.latest refl)) (lt-ltb _ _ c.if-m-ge2.false)))))
