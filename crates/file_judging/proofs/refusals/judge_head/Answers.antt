-- Each return is the first refusal of the chain.
use mathlib.Core.Path.{sym, ◌∙◌}
use native.Mathlib.Omega.{arith}
use borrow.Author.Tests.{le-leb, lt-leb}
use Rattle.verdict.proofs.Verdict.{skip, halt, yes, no}
use Rattle.taskset.specs.Judge.{head_refusal}
use Rattle.file_judging.proofs.refusals.judge_head.Goals as goal

pub returns-then-f-lt4 : goal.returns-then-f-lt4
unfolding head_refusal
returns-then-f-lt4 c = halt 0 _ (no _ _ (lt-leb _ _ c.if-f-lt4.true))

pub returns-then-not-is_mark : goal.returns-then-not-is_mark
unfolding head_refusal
returns-then-not-is_mark c = skip (yes _ _ (le-leb _ _ c.if-f-lt4.false)) (halt 1 _ (no _ _ (sym c.is_mark.ensures ∙ c.if-not-is_mark.true)))

pub returns-then-f-lt5 : goal.returns-then-f-lt5
unfolding head_refusal
returns-then-f-lt5 c = skip (yes _ _ (le-leb _ _ c.if-f-lt4.false)) (skip (yes _ _ (sym c.is_mark.ensures ∙ c.if-not-is_mark.false)) (halt 0 _ (no _ _ (lt-leb _ _ c.if-f-lt5.true))))

pub overflow_cast-n : goal.overflow_cast-n
overflow_cast-n c = omega (arith, c.type_inv.f 4)

pub returns-then-n-lt1 : goal.returns-then-n-lt1
unfolding head_refusal
returns-then-n-lt1 c = skip (yes _ _ (le-leb _ _ c.if-f-lt4.false))
    (skip (yes _ _ (sym c.is_mark.ensures ∙ c.if-not-is_mark.false))
    (skip (yes _ _ (le-leb _ _ c.if-f-lt5.false)) (halt 2 _ (no _ _ (rw (lt-leb _ _ c.if-n-lt1.true))))))

pub returns-then-n-gt4 : goal.returns-then-n-gt4
unfolding head_refusal
returns-then-n-gt4 c = skip (yes _ _ (le-leb _ _ c.if-f-lt4.false))
    (skip (yes _ _ (sym c.is_mark.ensures ∙ c.if-not-is_mark.false))
    (skip (yes _ _ (le-leb _ _ c.if-f-lt5.false)) (halt 2 _ (no _ _ (rw (le-leb _ _ c.if-n-lt1.false, lt-leb _ _ c.if-n-gt4.true))))))

pub returns : goal.returns
unfolding head_refusal
returns c = skip (yes _ _ (le-leb _ _ c.if-f-lt4.false))
    (skip (yes _ _ (sym c.is_mark.ensures ∙ c.if-not-is_mark.false))
    (skip (yes _ _ (le-leb _ _ c.if-f-lt5.false))
    (skip (yes _ _ (rw (le-leb _ _ c.if-n-lt1.false, le-leb _ _ c.if-n-gt4.false))) c.judge_cores.ensures)))
